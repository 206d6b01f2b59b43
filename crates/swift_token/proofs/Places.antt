-- Lines and columns behind a text, as it grows.
use Rattle.std.proofs.Common.{◌≡◌, ℕ, ◌+◌, ◌<◌, ◌≤◌, Bool, true, false, ◌||◌, not, cond, List, [], ◌∷◌, ◌++◌, ltb, length, sym, ap, ◌∙◌, refl, arith, ⊎_elim}
use Rattle.std.specs.List.{list_all, list_any, count_by, prefix_len, suffix_len}
use Rattle.std.proofs.lemmas.Bool.{and_parts, cases_Bool, cond-true, cond-false, not_from_true, not_from_false, lt-ltb, le-ltb, cases_lt, or_left, not-true}
use Rattle.std.proofs.lemmas.List.{reverse-append, append-nil, append_assoc}
use Rattle.std.proofs.lemmas.List.Sums.{sum_by_push, sum_by-append, sum_by-cons, count_by-le-length, suffix_len-le-length}
use Rattle.swift_token.specs.Spelling.{is_line_feed, line_behind, column_behind}

abbrev inside : ℕ → Bool
inside c = not (is_line_feed c)

abbrev feeds : ℕ → ℕ
feeds c = cond (is_line_feed c) 1 0

pub line_feed : (before : List ℕ) (c : ℕ) → is_line_feed c ≡ true → line_behind (before ++ (c ∷ [])) ≡ line_behind before + 1
line_feed before c h =
    let more : count_by is_line_feed (before ++ (c ∷ [])) ≡ count_by is_line_feed before + feeds c = sum_by_push feeds before c in
    let one : feeds c ≡ 1 = cond-true (is_line_feed c) 1 0 h in
    omega (arith, more, one)

pub line_same : (before : List ℕ) (c : ℕ) → is_line_feed c ≡ false → line_behind (before ++ (c ∷ [])) ≡ line_behind before
line_same before c h =
    let more : count_by is_line_feed (before ++ (c ∷ [])) ≡ count_by is_line_feed before + feeds c = sum_by_push feeds before c in
    let none : feeds c ≡ 0 = cond-false (is_line_feed c) 1 0 h in
    omega (arith, more, none)

turned : (before : List ℕ) (c : ℕ) → suffix_len inside (before ++ (c ∷ [])) ≡ cond (inside c) (1 + suffix_len inside before) 0
turned before c = ap (prefix_len inside) (reverse-append before (c ∷ []))

pub column_feed : (before : List ℕ) (c : ℕ) → is_line_feed c ≡ true → column_behind (before ++ (c ∷ [])) ≡ 1
column_feed before c h =
    let none : cond (inside c) (1 + suffix_len inside before) 0 ≡ 0 = cond-false (inside c) (1 + suffix_len inside before) 0 (not_from_true (is_line_feed c) h) in
    omega (arith, turned before c, none)

pub column_more : (before : List ℕ) (c : ℕ) → is_line_feed c ≡ false → column_behind (before ++ (c ∷ [])) ≡ column_behind before + 1
column_more before c h =
    let one : cond (inside c) (1 + suffix_len inside before) 0 ≡ 1 + suffix_len inside before = cond-true (inside c) (1 + suffix_len inside before) 0 (not_from_false (is_line_feed c) h) in
    omega (arith, turned before c, one)

-- a text without line feeds stays on its line
pub line_along : (before text : List ℕ) → list_all inside text ≡ true → line_behind (before ++ text) ≡ line_behind before
line_along before [] all = ap line_behind (append-nil before)
line_along before (c ∷ cs) all =
    let both = and_parts (inside c) (list_all inside cs) all in
    let here : line_behind (before ++ (c ∷ [])) ≡ line_behind before = line_same before c (not-true (is_line_feed c) both.0) in
    let later : line_behind ((before ++ (c ∷ [])) ++ cs) ≡ line_behind (before ++ (c ∷ [])) = line_along (before ++ (c ∷ [])) cs both.1 in
    ap line_behind (sym (append_assoc before (c ∷ []) cs)) ∙ later ∙ here

pub column_along : (before text : List ℕ) → list_all inside text ≡ true → column_behind (before ++ text) ≡ column_behind before + length text
column_along before [] all = ap column_behind (append-nil before) ∙ omega arith
column_along before (c ∷ cs) all =
    let both = and_parts (inside c) (list_all inside cs) all in
    let here : column_behind (before ++ (c ∷ [])) ≡ column_behind before + 1 = column_more before c (not-true (is_line_feed c) both.0) in
    let later : column_behind ((before ++ (c ∷ [])) ++ cs) ≡ column_behind (before ++ (c ∷ [])) + length cs = column_along (before ++ (c ∷ [])) cs both.1 in
    let same : column_behind (before ++ (c ∷ cs)) ≡ column_behind ((before ++ (c ∷ [])) ++ cs) = ap column_behind (sym (append_assoc before (c ∷ []) cs)) in
    omega (arith, same, later, here)

-- trivia has a line feed exactly where the line behind it is another
any_feed : (trivia : List ℕ) → list_any is_line_feed trivia ≡ ltb 0 (count_by is_line_feed trivia)
any_feed [] = refl
any_feed (c ∷ cs) =
    let more : count_by is_line_feed (c ∷ cs) ≡ feeds c + count_by is_line_feed cs = sum_by-cons feeds c cs in
    ⊎_elim (λ (e : is_line_feed c ≡ true).
    let one : feeds c ≡ 1 = cond-true (is_line_feed c) 1 0 e in
    or_left (is_line_feed c) (list_any is_line_feed cs) e ∙ sym (lt-ltb 0 (count_by is_line_feed (c ∷ cs)) (omega (arith, more, one))))
    (λ (e : is_line_feed c ≡ false).
    let none : feeds c ≡ 0 = cond-false (is_line_feed c) 1 0 e in
    let same : count_by is_line_feed (c ∷ cs) ≡ count_by is_line_feed cs = omega (arith, more, none) in
    ap (λ (b : Bool). b || list_any is_line_feed cs) e ∙ any_feed cs ∙ ap (ltb 0) (sym same))
    (cases_Bool (is_line_feed c))

pub trivia_feeds : (before trivia : List ℕ) → list_any is_line_feed trivia ≡ ltb (line_behind before) (line_behind (before ++ trivia))
trivia_feeds before trivia =
    let more : count_by is_line_feed (before ++ trivia) ≡ count_by is_line_feed before + count_by is_line_feed trivia = sum_by-append feeds before trivia in
    ⊎_elim (λ (h : 0 < count_by is_line_feed trivia). any_feed trivia ∙ lt-ltb 0 (count_by is_line_feed trivia) h ∙ sym (lt-ltb (line_behind before) (line_behind (before ++ trivia)) (omega (arith, more))))
    (λ (h : count_by is_line_feed trivia ≤ 0). any_feed trivia ∙ le-ltb 0 (count_by is_line_feed trivia) h ∙ sym (le-ltb (line_behind before) (line_behind (before ++ trivia)) (omega (arith, more))))
    (cases_lt 0 (count_by is_line_feed trivia))

pub line_bound : (before : List ℕ) → line_behind before ≤ 1 + length before
line_bound before = omega (arith, count_by-le-length is_line_feed before)

pub column_bound : (before : List ℕ) → column_behind before ≤ 1 + length before
column_bound before = omega (arith, suffix_len-le-length inside before)

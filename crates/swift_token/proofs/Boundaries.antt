-- Where tokens, blanks and comments end, a text may be cut.
use Rattle.std.proofs.Common.{◌≡◌, ℕ, zero, suc, ◌+◌, ◌<◌, ◌≤◌, Bool, true, false, ◌&&◌, ◌||◌, not, cond, List, [], ◌∷◌, ◌++◌, length, take, drop, get_or, eqb, ltb, sym, ap, ◌∙◌, refl, arith, ⊎_elim, subst}
use Rattle.std.specs.List.{list_all}
use Rattle.std.specs.Str.{IsUtf8, IsCharBoundary}
use Rattle.std.proofs.lemmas.Bool.{and_parts, or_cases, cases_Bool, false≢true, eqb-true, ltb-true, cond-true, cond-false}
use Rattle.std.proofs.lemmas.List.{append_assoc, take-append-drop, length-append, length-take-le, get_or_at}
use Rattle.std.proofs.lemmas.Str.{IsUtf8-drop, IsCharBoundary-after_ascii, IsCharBoundary-from_rest}
use Rattle.swift_ast.specs.declared.TokenKind.{TokenKind}
use Rattle.swift_ast.specs.declared.TokenKind.TheVariants.{Identifier, Keyword, Integer, StringText, Mark}
use Rattle.swift_token.specs.Texts.{is_blank, is_escape, breaks_string, is_word_byte, is_word, is_keyword, is_number, ends_string, is_token_text, marks}
use Rattle.swift_token.specs.Trivia.{is_trivia_piece, ends_line, closes_comment}
use Rattle.swift_token.proofs.Fronts.{among_passes}
use Rattle.swift_token.proofs.Words.{keyword_is_word, word_bytes, number_bytes, word_byte_bounds, token_some}
use Rattle.swift_token.proofs.Scanned.{nothing_left}
use Rattle.swift_token.proofs.TriviaLemmas.{IsPieceOf}

-- The last byte is ASCII.
abbrev pub EndsAscii : List ℕ → Type 0
EndsAscii p = (front : List ℕ) × (c : ℕ) × (p ≡ front ++ (c ∷ [])) × (c < 128)

one_ascii : (c : ℕ) (cs : List ℕ) → c < 128 → cs ≡ [] → EndsAscii (c ∷ cs)
one_ascii c cs small none = ([], c, ap (λ (x : List ℕ). c ∷ x) none, small)

more_ascii : (c : ℕ) (cs : List ℕ) → EndsAscii cs → EndsAscii (c ∷ cs)
more_ascii c cs e = (c ∷ e.0, e.1, ap (λ (x : List ℕ). c ∷ x) e.2, e.3)

line_ascii : (cs : List ℕ) → ends_line cs ≡ true → EndsAscii cs
line_ascii [] h = absurd (false≢true h)
line_ascii (c ∷ cs) h =
    ⊎_elim (λ (e : eqb c 10 ≡ true). one_ascii c cs (omega (arith, eqb-true c 10 e)) (nothing_left cs (sym (cond-true (eqb c 10) (eqb (length cs) 0) (ends_line cs) e) ∙ h)))
    (λ (e : eqb c 10 ≡ false). more_ascii c cs (line_ascii cs (sym (cond-false (eqb c 10) (eqb (length cs) 0) (ends_line cs) e) ∙ h)))
    (cases_Bool (eqb c 10))

closed_ascii : (depth c : ℕ) (cs : List ℕ) → c ≡ 47 → closes_comment depth 0 cs ≡ true → ((d : ℕ) → closes_comment (suc d) 0 cs ≡ true → EndsAscii cs) → EndsAscii (c ∷ cs)
closed_ascii zero c cs slash h inside = one_ascii c cs (omega (arith, slash)) (nothing_left cs h)
closed_ascii (suc d) c cs slash h inside = more_ascii c cs (inside d h)

comment_ascii : (depth last : ℕ) (cs : List ℕ) → closes_comment (suc depth) last cs ≡ true → EndsAscii cs
comment_ascii d last [] h = absurd (false≢true h)
comment_ascii d last (c ∷ cs) h =
    ⊎_elim (λ (e : (eqb last 42 && eqb c 47) ≡ true).
    closed_ascii d c cs (eqb-true c 47 (and_parts (eqb last 42) (eqb c 47) e).1) (sym (cond-true (eqb last 42 && eqb c 47) (closes_comment d 0 cs) _ e) ∙ h) (λ k g. comment_ascii k 0 cs g))
    (λ (e : (eqb last 42 && eqb c 47) ≡ false).
    let next : cond (eqb last 47 && eqb c 42) (closes_comment (suc (suc d)) 0 cs) (closes_comment (suc d) c cs) ≡ true = sym (cond-false (eqb last 42 && eqb c 47) (closes_comment d 0 cs) _ e) ∙ h in
    ⊎_elim (λ (o : (eqb last 47 && eqb c 42) ≡ true). more_ascii c cs (comment_ascii (suc d) 0 cs (sym (cond-true (eqb last 47 && eqb c 42) (closes_comment (suc (suc d)) 0 cs) (closes_comment (suc d) c cs) o) ∙ next)))
    (λ (o : (eqb last 47 && eqb c 42) ≡ false). more_ascii c cs (comment_ascii d c cs (sym (cond-false (eqb last 47 && eqb c 42) (closes_comment (suc (suc d)) 0 cs) (closes_comment (suc d) c cs) o) ∙ next)))
    (cases_Bool (eqb last 47 && eqb c 42)))
    (cases_Bool (eqb last 42 && eqb c 47))

blank_ascii : (c : ℕ) → is_blank c ≡ true → c < 128
blank_ascii c h =
    ⊎_elim (λ (e : (eqb c 32 || eqb c 9 || eqb c 13) ≡ true).
    ⊎_elim (λ (f : (eqb c 32 || eqb c 9) ≡ true).
    ⊎_elim (λ (g : eqb c 32 ≡ true). omega (arith, eqb-true c 32 g)) (λ (g : eqb c 9 ≡ true). omega (arith, eqb-true c 9 g)) (or_cases (eqb c 32) (eqb c 9) f))
    (λ (f : eqb c 13 ≡ true). omega (arith, eqb-true c 13 f))
    (or_cases (eqb c 32 || eqb c 9) (eqb c 13) e))
    (λ (e : eqb c 10 ≡ true). omega (arith, eqb-true c 10 e))
    (or_cases (eqb c 32 || eqb c 9 || eqb c 13) (eqb c 10) h)

piece_ascii : (p : List ℕ) → is_trivia_piece p ≡ true → EndsAscii p
piece_ascii [] h = absurd (false≢true h)
piece_ascii (c ∷ []) h = one_ascii c [] (blank_ascii c h) refl
piece_ascii (c ∷ d ∷ cs) h =
    more_ascii c (d ∷ cs)
    (more_ascii d cs
    (⊎_elim (λ (l : (eqb d 47 && ends_line cs) ≡ true). line_ascii cs (and_parts (eqb d 47) (ends_line cs) l).1)
    (λ (l : (eqb d 42 && closes_comment 1 0 cs) ≡ true). comment_ascii 0 0 cs (and_parts (eqb d 42) (closes_comment 1 0 cs) l).1)
    (or_cases (eqb d 47 && ends_line cs) (eqb d 42 && closes_comment 1 0 cs) (and_parts (eqb c 47) ((eqb d 47 && ends_line cs) || (eqb d 42 && closes_comment 1 0 cs)) h).1)))

words_ascii : (cs : List ℕ) → list_all is_word_byte cs ≡ true → (cs ≡ [] → ⊥) → EndsAscii cs
words_ascii [] all some = absurd (some refl)
words_ascii (c ∷ []) all some = one_ascii c [] (omega (arith, (word_byte_bounds c (and_parts (is_word_byte c) true all).0).1)) refl
words_ascii (c ∷ d ∷ cs) all some = more_ascii c (d ∷ cs) (words_ascii (d ∷ cs) (and_parts (is_word_byte c) (list_all is_word_byte (d ∷ cs)) all).1 (λ e. absurd (cc)))

string_ascii : (escaped : Bool) (cs : List ℕ) → ends_string escaped cs ≡ true → EndsAscii cs
string_ascii escaped [] h = absurd (false≢true h)
string_ascii true (c ∷ cs) h = more_ascii c cs (string_ascii false cs (and_parts (is_escape c) (ends_string false cs) h).1)
string_ascii false (c ∷ cs) h =
    ⊎_elim (λ (e : eqb c 34 ≡ true). one_ascii c cs (omega (arith, eqb-true c 34 e)) (nothing_left cs (sym (cond-true (eqb c 34) (eqb (length cs) 0) _ e) ∙ h)))
    (λ (e : eqb c 34 ≡ false). more_ascii c cs (string_ascii (eqb c 92) cs (and_parts (not (breaks_string c)) (ends_string (eqb c 92) cs) (sym (cond-false (eqb c 34) (eqb (length cs) 0) _ e) ∙ h)).1))
    (cases_Bool (eqb c 34))

small_ascii : (cs : List ℕ) → list_all (λ (c : ℕ). ltb c 128) cs ≡ true → (cs ≡ [] → ⊥) → EndsAscii cs
small_ascii [] all some = absurd (some refl)
small_ascii (c ∷ []) all some = one_ascii c [] (ltb-true c 128 (and_parts (ltb c 128) true all).0) refl
small_ascii (c ∷ d ∷ cs) all some = more_ascii c (d ∷ cs) (small_ascii (d ∷ cs) (and_parts (ltb c 128) (list_all (λ (x : ℕ). ltb x 128) (d ∷ cs)) all).1 (λ e. absurd (cc)))

pub token_ascii : (kind : TokenKind) (t : List ℕ) → is_token_text kind t ≡ true → EndsAscii t
token_ascii Identifier t h = words_ascii t (word_bytes t (and_parts (is_word t) (not (is_keyword t)) h).0) (token_some Identifier t h)
token_ascii Keyword t h = words_ascii t (word_bytes t (keyword_is_word t h)) (token_some Keyword t h)
token_ascii Integer t h = words_ascii t (number_bytes t (and_parts (is_number t) _ h).0) (token_some Integer t h)
token_ascii StringText [] h = absurd (false≢true h)
token_ascii StringText (c ∷ cs) h = more_ascii c cs (string_ascii false cs (and_parts (eqb c 34) (ends_string false cs) h).1)
token_ascii Mark t h = small_ascii t (among_passes (λ (x : List ℕ). list_all (λ (c : ℕ). ltb c 128) x) marks t refl h) (token_some Mark t h)

-- a text may be cut behind what ends in ASCII
pub cut_behind : (p rest : List ℕ) → IsUtf8 (p ++ rest) → EndsAscii p → IsCharBoundary (p ++ rest) (length p)
cut_behind p rest u e =
    let whole : p ++ rest ≡ e.0 ++ (e.1 ∷ rest) = ap (λ (x : List ℕ). x ++ rest) e.2 ∙ append_assoc e.0 (e.1 ∷ []) rest in
    let read : get_or (p ++ rest) (length e.0) 0 ≡ e.1 = ap (λ (x : List ℕ). get_or x (length e.0) 0) whole ∙ get_or_at e.0 e.1 rest 0 (length e.0) refl in
    let len : length p ≡ length e.0 + 1 = ap length e.2 ∙ length-append e.0 (e.1 ∷ []) ∙ omega arith in
    let small : e.1 < 128 = e.3 in
    subst (λ (n : ℕ). IsCharBoundary (p ++ rest) n) (sym len)
    (IsCharBoundary-after_ascii (p ++ rest) (length e.0) u (omega (arith, len, length-append p rest)) (omega (arith, read, small)))

pub cut_at : (n : ℕ) (bs : List ℕ) → n ≤ length bs → IsUtf8 bs → EndsAscii (take n bs) → IsCharBoundary bs n
cut_at n bs within u e =
    let whole : take n bs ++ drop n bs ≡ bs = take-append-drop n bs in
    let at : IsCharBoundary (take n bs ++ drop n bs) (length (take n bs)) = cut_behind (take n bs) (drop n bs) (subst (λ (x : List ℕ). IsUtf8 x) (sym whole) u) e in
    subst (λ (k : ℕ). IsCharBoundary bs k) (length-take-le n bs within) (subst (λ (x : List ℕ). IsCharBoundary x (length (take n bs))) whole at)

pub trivia_boundary : (bs : List ℕ) (len n : ℕ) → len ≤ length bs → IsPieceOf n (drop len bs) → IsUtf8 bs → IsCharBoundary bs len → IsCharBoundary bs (len + n)
trivia_boundary bs len n within p u b = IsCharBoundary-from_rest bs len n within (cut_at n (drop len bs) p.within (IsUtf8-drop bs len u b) (piece_ascii (take n (drop len bs)) p.piece))

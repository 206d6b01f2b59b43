-- Blanks and comments.
use Rattle.std.proofs.Common.{◌≡◌, ℕ, suc, ◌+◌, ◌<◌, ◌≤◌, true, false, ◌&&◌, ◌||◌, cond, Option, Some, None, List, [], ◌∷◌, ◌++◌, length, take, drop, eqb, sym, ap, ◌∙◌, refl, arith, ⊎_elim, subst}
use Rattle.std.specs.List.{list_all, concat}
use Rattle.std.proofs.Math.Seq.{take-add}
use Rattle.std.proofs.lemmas.Bool.{and_parts, and_from, or_cases, or_left, or_right, cases_Bool, false≢true, eqb-true, cond-true, cond-false}
use Rattle.std.proofs.lemmas.List.{append_assoc, append-nil}
use Rattle.std.proofs.lemmas.List.Folds.{list_all-append, concat-append}
use Rattle.swift_token.specs.Texts.{is_blank}
use Rattle.swift_token.specs.Trivia.{is_trivia_piece, ends_line, closes_comment, IsTrivia, NoTriviaPiece}
use Rattle.swift_token.specs.Scans.{later, line_end, slash_end, trivia_piece_end, comment_end}
use Rattle.swift_token.proofs.Fronts.{same_split}
use Rattle.swift_token.proofs.Scanned.{Through, through_more, later_some, one_later, comment_ends, comment_through}

two_later : (n : ℕ) → later 2 (Some n) ≡ Some (suc (suc n))
two_later n = ap (λ (k : ℕ). Some k) (omega arith)

later_two : (found : Option ℕ) (n : ℕ) → later 2 found ≡ Some n → (m : ℕ) × (found ≡ Some m) × (n ≡ suc (suc m))
later_two None n h = absurd (cc)
later_two (Some m) n h = let e : 2 + m ≡ n = cc in (m, refl, omega (arith, e))

line_ends : (cs rest : List ℕ) → ends_line cs ≡ true → line_end (cs ++ rest) ≡ Some (length cs)
line_ends [] rest h = absurd (false≢true h)
line_ends (c ∷ cs) rest h =
    ⊎_elim (λ (e : eqb c 10 ≡ true).
    let none : eqb (length cs) 0 ≡ true = sym (cond-true (eqb c 10) (eqb (length cs) 0) (ends_line cs) e) ∙ h in
    cond-true (eqb c 10) (Some 1) (later 1 (line_end (cs ++ rest))) e ∙ ap (λ (k : ℕ). Some k) (omega (arith, eqb-true (length cs) 0 none)))
    (λ (e : eqb c 10 ≡ false).
    cond-false (eqb c 10) (Some 1) (later 1 (line_end (cs ++ rest))) e ∙ ap (later 1) (line_ends cs rest (sym (cond-false (eqb c 10) (eqb (length cs) 0) (ends_line cs) e) ∙ h)) ∙ one_later (length cs))
    (cases_Bool (eqb c 10))

line_through : (bs : List ℕ) (n : ℕ) → line_end bs ≡ Some n → Through ends_line n bs
line_through [] n h = absurd (cc)
line_through (c ∷ cs) n h =
    ⊎_elim (λ (e : eqb c 10 ≡ true).
    let one : Some 1 ≡ Some n = sym (cond-true (eqb c 10) (Some 1) (later 1 (line_end cs)) e) ∙ h in
    let n_is : 1 ≡ n = cc in
    (subst (λ (k : ℕ). ends_line (take k (c ∷ cs)) ≡ true) n_is (cond-true (eqb c 10) true false e), omega (arith, n_is)))
    (λ (e : eqb c 10 ≡ false).
    let s = later_some (line_end cs) n (sym (cond-false (eqb c 10) (Some 1) (later 1 (line_end cs)) e) ∙ h) in
    through_more ends_line ends_line n s.0 c cs s.2 (λ xs ends. cond-false (eqb c 10) (eqb (length xs) 0) (ends_line xs) e ∙ ends) (line_through cs s.0 s.1))
    (cases_Bool (eqb c 10))

-- a blank or a comment that stands first is found
slash_found : (d : ℕ) (cs rest : List ℕ) → ((eqb d 47 && ends_line cs) || (eqb d 42 && closes_comment 1 0 cs)) ≡ true → slash_end (d ∷ (cs ++ rest)) ≡ Some (suc (suc (length cs)))
slash_found d cs rest h =
    ⊎_elim (λ (l : (eqb d 47 && ends_line cs) ≡ true).
    let both = and_parts (eqb d 47) (ends_line cs) l in
    cond-true (eqb d 47) (later 2 (line_end (cs ++ rest))) _ both.0 ∙ ap (later 2) (line_ends cs rest both.1) ∙ two_later (length cs))
    (λ (l : (eqb d 42 && closes_comment 1 0 cs) ≡ true).
    let both = and_parts (eqb d 42) (closes_comment 1 0 cs) l in
    ap (λ (x : ℕ). slash_end (x ∷ (cs ++ rest))) (eqb-true d 42 both.0) ∙ ap (later 2) (comment_ends 1 0 cs rest both.1) ∙ two_later (length cs))
    (or_cases (eqb d 47 && ends_line cs) (eqb d 42 && closes_comment 1 0 cs) h)

pub piece_found : (p rest : List ℕ) → is_trivia_piece p ≡ true → trivia_piece_end (p ++ rest) ≡ Some (length p)
piece_found [] rest h = absurd (false≢true h)
piece_found (c ∷ []) rest h = cond-true (is_blank c) (Some 1) _ h
piece_found (c ∷ d ∷ cs) rest h =
    let both = and_parts (eqb c 47) ((eqb d 47 && ends_line cs) || (eqb d 42 && closes_comment 1 0 cs)) h in
    ap (λ (x : ℕ). trivia_piece_end (x ∷ d ∷ (cs ++ rest))) (eqb-true c 47 both.0) ∙ slash_found d cs rest both.1

pub no_piece : (bs : List ℕ) → trivia_piece_end bs ≡ None → NoTriviaPiece bs
no_piece bs none b = let e : None ≡ Some (length b.0) = sym none ∙ ap trivia_piece_end b.2 ∙ piece_found b.0 b.1 b.3 in cc

-- what is found is a blank or a comment
slash_through : (d : ℕ) (ds : List ℕ) (n : ℕ) → slash_end (d ∷ ds) ≡ Some n → (m : ℕ) × (n ≡ suc m) × (is_trivia_piece (47 ∷ take m (d ∷ ds)) ≡ true) × (m ≤ length (d ∷ ds))
slash_through d ds n h =
    ⊎_elim (λ (e : eqb d 47 ≡ true).
    let s = later_two (line_end ds) n (sym (cond-true (eqb d 47) (later 2 (line_end ds)) _ e) ∙ h) in
    let t = line_through ds s.0 s.1 in
    (suc s.0, s.2, or_left (eqb d 47 && ends_line (take s.0 ds)) (eqb d 42 && closes_comment 1 0 (take s.0 ds)) (and_from (eqb d 47) (ends_line (take s.0 ds)) e t.0), omega (arith, t.1)))
    (λ (e : eqb d 47 ≡ false).
    let next : cond (eqb d 42) (later 2 (comment_end 1 0 ds)) None ≡ Some n = sym (cond-false (eqb d 47) (later 2 (line_end ds)) _ e) ∙ h in
    ⊎_elim (λ (o : eqb d 42 ≡ true).
    let s = later_two (comment_end 1 0 ds) n (sym (cond-true (eqb d 42) (later 2 (comment_end 1 0 ds)) None o) ∙ next) in
    let t = comment_through 1 0 ds s.0 s.1 in
    (suc s.0, s.2, or_right (eqb d 47 && ends_line (take s.0 ds)) (eqb d 42 && closes_comment 1 0 (take s.0 ds)) (and_from (eqb d 42) (closes_comment 1 0 (take s.0 ds)) o t.0), omega (arith, t.1)))
    (λ (o : eqb d 42 ≡ false). let none : None ≡ Some n = sym (cond-false (eqb d 42) (later 2 (comment_end 1 0 ds)) None o) ∙ next in absurd (cc))
    (cases_Bool (eqb d 42)))
    (cases_Bool (eqb d 47))

-- A blank or a comment of so many bytes stands first.
pub record IsPieceOf (n : ℕ) (bs : List ℕ) : Type 0 where
  pub piece : is_trivia_piece (take n bs) ≡ true
  pub some : 0 < n
  pub within : n ≤ length bs

slash_piece : (c : ℕ) (cs : List ℕ) (n : ℕ) → c ≡ 47 → slash_end cs ≡ Some n → IsPieceOf n (c ∷ cs)
slash_piece c [] n slash h = absurd (cc)
slash_piece c (d ∷ ds) n slash h =
    let t = slash_through d ds n h in
    record {
      piece = subst (λ (k : ℕ). is_trivia_piece (take k (c ∷ d ∷ ds)) ≡ true) (sym t.1) (subst (λ (x : ℕ). is_trivia_piece (x ∷ take t.0 (d ∷ ds)) ≡ true) (sym slash) t.2);
      some = omega (arith, t.1);
      within = omega (arith, t.1, t.3);
    }

pub piece_through : (bs : List ℕ) (n : ℕ) → trivia_piece_end bs ≡ Some n → IsPieceOf n bs
piece_through [] n h = absurd (cc)
piece_through (c ∷ cs) n h =
    ⊎_elim (λ (b : is_blank c ≡ true).
    let one : Some 1 ≡ Some n = sym (cond-true (is_blank c) (Some 1) _ b) ∙ h in
    let n_is : 1 ≡ n = cc in
    record { piece = subst (λ (k : ℕ). is_trivia_piece (take k (c ∷ cs)) ≡ true) n_is b; some = omega (arith, n_is); within = omega (arith, n_is) })
    (λ (b : is_blank c ≡ false).
    let next : cond (eqb c 47) (slash_end cs) None ≡ Some n = sym (cond-false (is_blank c) (Some 1) _ b) ∙ h in
    ⊎_elim (λ (s : eqb c 47 ≡ true). slash_piece c cs n (eqb-true c 47 s) (sym (cond-true (eqb c 47) (slash_end cs) None s) ∙ next))
    (λ (s : eqb c 47 ≡ false). let none : None ≡ Some n = sym (cond-false (eqb c 47) (slash_end cs) None s) ∙ next in absurd (cc))
    (cases_Bool (eqb c 47)))
    (cases_Bool (is_blank c))

-- trivia
pub trivia_none : IsTrivia []
trivia_none = ([], refl, refl)

pub trivia_more : (trivia p : List ℕ) → IsTrivia trivia → is_trivia_piece p ≡ true → IsTrivia (trivia ++ p)
trivia_more trivia p g h = (
  g.0 ++ (p ∷ []),
  list_all-append is_trivia_piece g.0 (p ∷ []) ∙ and_from (list_all is_trivia_piece g.0) (is_trivia_piece p && true) g.1 (and_from (is_trivia_piece p) true h refl),
  ap (λ (x : List ℕ). x ++ p) g.2 ∙ ap (λ (x : List ℕ). concat g.0 ++ x) (sym (append-nil p)) ∙ sym (concat-append g.0 (p ∷ [])),
)

pub trivia_on : (bs : List ℕ) (len n : ℕ) → IsTrivia (take len bs) → IsPieceOf n (drop len bs) → IsTrivia (take (len + n) bs)
trivia_on bs len n g p = subst (λ (x : List ℕ). IsTrivia x) (sym (take-add len n bs)) (trivia_more (take len bs) (take n (drop len bs)) g p.piece)

one_piece : (p q x y : List ℕ) → is_trivia_piece p ≡ true → is_trivia_piece q ≡ true → p ++ x ≡ q ++ y → (p ≡ q) × (x ≡ y)
one_piece p q x y hp hq e =
    let same : Some (length p) ≡ Some (length q) = sym (piece_found p x hp) ∙ ap trivia_piece_end e ∙ piece_found q y hq in
    let len : length p ≡ length q = cc in
    same_split p x q y len e

pieces_one : (ps qs : List (List ℕ)) (r s : List ℕ) → list_all is_trivia_piece ps ≡ true → list_all is_trivia_piece qs ≡ true → NoTriviaPiece r → NoTriviaPiece s → concat ps ++ r ≡ concat qs ++ s → (concat ps ≡ concat qs) × (r ≡ s)
pieces_one [] [] r s hp hq nr ns e = (refl, e)
pieces_one [] (q ∷ qs) r s hp hq nr ns e = absurd (nr (q, concat qs ++ s, e ∙ append_assoc q (concat qs) s, (and_parts (is_trivia_piece q) (list_all is_trivia_piece qs) hq).0))
pieces_one (p ∷ ps) [] r s hp hq nr ns e = absurd (ns (p, concat ps ++ r, sym e ∙ append_assoc p (concat ps) r, (and_parts (is_trivia_piece p) (list_all is_trivia_piece ps) hp).0))
pieces_one (p ∷ ps) (q ∷ qs) r s hp hq nr ns e =
    let bp = and_parts (is_trivia_piece p) (list_all is_trivia_piece ps) hp in
    let bq = and_parts (is_trivia_piece q) (list_all is_trivia_piece qs) hq in
    let first = one_piece p q (concat ps ++ r) (concat qs ++ s) bp.0 bq.0 (sym (append_assoc p (concat ps) r) ∙ e ∙ append_assoc q (concat qs) s) in
    let others = pieces_one ps qs r s bp.1 bq.1 nr ns first.1 in
    (ap (λ (x : List ℕ). x ++ concat ps) first.0 ∙ ap (λ (x : List ℕ). q ++ x) others.0, others.1)

-- two trivia in front of what begins with no blank or comment are one
pub one_trivia : (g h r s : List ℕ) → IsTrivia g → IsTrivia h → NoTriviaPiece r → NoTriviaPiece s → g ++ r ≡ h ++ s → (g ≡ h) × (r ≡ s)
one_trivia g h r s gg gh nr ns e =
    let same = pieces_one gg.0 gh.0 r s gg.1 gh.1 nr ns (ap (λ (x : List ℕ). x ++ r) (sym gg.2) ∙ e ∙ ap (λ (x : List ℕ). x ++ s) gh.2) in
    (gg.2 ∙ same.0 ∙ sym gh.2, same.1)

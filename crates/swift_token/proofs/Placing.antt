-- A place, one byte on.
use Rattle.std.proofs.Common.{◌≡◌, ℕ, ◌+◌, ◌<◌, true, false, List, [], ◌∷◌, ◌++◌, length, take, get_or, sym, ap, ◌∙◌, subst}
use Rattle.std.proofs.lemmas.Bool.{eq-eqb, ne_eqb}
use Rattle.std.proofs.lemmas.List.{append_assoc, take_more}
use Rattle.swift_token.specs.Spelling.{is_line_feed}
use Rattle.swift_token.proofs.Places.{line_feed, line_same, column_feed, column_more}
use Rattle.swift_token.specs.declared.positions.Position.{Position}
use Rattle.swift_token.specs.Positions.{IsPositionBehind}

place_at : (p : Position) (before : List ℕ) (bs : List ℕ) (i : ℕ) → i < length bs → IsPositionBehind p ((before ++ take i bs) ++ (get_or bs i 0 ∷ [])) → IsPositionBehind p (before ++ take (i + 1) bs)
place_at p before bs i h is =
    let e : before ++ take (i + 1) bs ≡ (before ++ take i bs) ++ (get_or bs i 0 ∷ []) = ap (λ (x : List ℕ). before ++ x) (take_more bs i 0 h) ∙ sym (append_assoc before (take i bs) (get_or bs i 0 ∷ [])) in
    subst (λ (x : List ℕ). IsPositionBehind p x) (sym e) is

pub place_fed : (line column : ℕ) (before : List ℕ) (bs : List ℕ) (i : ℕ) → i < length bs → get_or bs i 0 ≡ 10 → IsPositionBehind (record { line = line; column = column }) (before ++ take i bs)
    → IsPositionBehind (record { line = line + 1; column = 1 }) (before ++ take (i + 1) bs)
place_fed line column before bs i h feed is =
    let b : is_line_feed (get_or bs i 0) ≡ true = eq-eqb (get_or bs i 0) 10 feed in
    place_at (record { line = line + 1; column = 1 }) before bs i h (record {
      line = ap (λ (n : ℕ). n + 1) is.line ∙ sym (line_feed (before ++ take i bs) (get_or bs i 0) b);
      column = sym (column_feed (before ++ take i bs) (get_or bs i 0) b);
    })

pub place_on : (line column : ℕ) (before : List ℕ) (bs : List ℕ) (i : ℕ) → i < length bs → (get_or bs i 0 ≡ 10 → ⊥) → IsPositionBehind (record { line = line; column = column }) (before ++ take i bs)
    → IsPositionBehind (record { line = line; column = column + 1 }) (before ++ take (i + 1) bs)
place_on line column before bs i h other is =
    let b : is_line_feed (get_or bs i 0) ≡ false = ne_eqb (get_or bs i 0) 10 other in
    place_at (record { line = line; column = column + 1 }) before bs i h (record {
      line = is.line ∙ sym (line_same (before ++ take i bs) (get_or bs i 0) b);
      column = ap (λ (n : ℕ). n + 1) is.column ∙ sym (column_more (before ++ take i bs) (get_or bs i 0) b);
    })

use Rattle.std.proofs.Common.{◌≡◌, ℕ, Bool, true, false, cond, not, List, ◌∷◌, refl}
use Rattle.std.specs.Prelude.{◌==◌, ◌&&◌, ◌||◌, filter}
use Rattle.object_emit.specs.Emission.{integer_text, without_leading_zeros, or_zero_digit}
use Rattle.object_emit.specs.IntegerText.{is_skipped, text_of_rest}

-- a character that is skipped leaves the text as it is
pub skips : (after : Bool) (c : ℕ) (cs : List ℕ) → is_skipped after c ≡ true → text_of_rest after (c ∷ cs) ≡ text_of_rest after cs
skips true c cs h =
    (elim (c == 95) as (λ v. v || ((c == 48) && false) ≡ true → cond (not v) (c ∷ filter (λ c. not (c == 95)) cs) (filter (λ c. not (c == 95)) cs) ≡ filter (λ c. not (c == 95)) cs)
    [ true ↦ λ h. refl | false ↦ λ h. (elim (c == 48) as (λ w. w && false ≡ true → c ∷ filter (λ c. not (c == 95)) cs ≡ filter (λ c. not (c == 95)) cs) [ true ↦ λ h. cc | false ↦ λ h. cc ]) h ]) h
skips false c cs h =
    (elim (c == 95) as (λ v. v || ((c == 48) && true) ≡ true → or_zero_digit (without_leading_zeros (cond (not v) (c ∷ filter (λ c. not (c == 95)) cs) (filter (λ c. not (c == 95)) cs))) ≡ integer_text cs) [
      | true ↦ λ h. refl
      | false ↦ λ h. (elim (c == 48) as (λ w. w && true ≡ true → or_zero_digit (cond w (without_leading_zeros (filter (λ c. not (c == 95)) cs)) (c ∷ filter (λ c. not (c == 95)) cs)) ≡ integer_text cs)
          [ true ↦ λ h. refl | false ↦ λ h. cc ]) h
    ]) h

-- one that isn't stands first, and behind it zeros count
pub keeps : (after : Bool) (c : ℕ) (cs : List ℕ) → is_skipped after c ≡ false → text_of_rest after (c ∷ cs) ≡ c ∷ text_of_rest true cs
keeps true c cs h =
    (elim (c == 95) as (λ v. v || ((c == 48) && false) ≡ false → cond (not v) (c ∷ filter (λ c. not (c == 95)) cs) (filter (λ c. not (c == 95)) cs) ≡ c ∷ filter (λ c. not (c == 95)) cs)
    [ true ↦ λ h. cc | false ↦ λ h. refl ]) h
keeps false c cs h =
    (elim (c == 95) as (λ v. v || ((c == 48) && true) ≡ false → or_zero_digit (without_leading_zeros (cond (not v) (c ∷ filter (λ c. not (c == 95)) cs) (filter (λ c. not (c == 95)) cs))) ≡ c ∷ filter (λ c. not (c == 95)) cs) [
      | true ↦ λ h. cc
      | false ↦ λ h. (elim (c == 48) as (λ w. w && true ≡ false → or_zero_digit (cond w (without_leading_zeros (filter (λ c. not (c == 95)) cs)) (c ∷ filter (λ c. not (c == 95)) cs)) ≡ c ∷ filter (λ c. not (c == 95)) cs)
          [ true ↦ λ h. cc | false ↦ λ h. refl ]) h
    ]) h

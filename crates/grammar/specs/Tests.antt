-- Tests of tokens by their sort, of which there are finitely many, and one flag: facts about them come by computation.
use Rattle.std.specs.Prelude.{◌≡◌, ℕ, zero, suc, Bool, true, false, ◌&&◌, ◌||◌, not, List, [], ◌∷◌, Option, Some, None}

-- the element at a place of a list
abbrev pub at_place : {S : Type 0} → List S → ℕ → Option S
at_place [] n = None
at_place (s ∷ every) zero = Some s
at_place (s ∷ every) (suc n) = at_place every n

-- The list has each sort, at its place.
abbrev pub HasEach : {S : Type 0} → List S → (S → ℕ) → Type 0
HasEach {S} every place = (s : S) → at_place every (place s) ≡ Some s

abbrev pub for_each : {S : Type 0} → (S → Bool) → List S → Bool
for_each test [] = true
for_each test (s ∷ every) = test s && for_each test every

-- no sort of the list is of both tests, with the flag or without
abbrev pub are_apart : {S : Type 0} → (S → Bool → Bool) → (S → Bool → Bool) → List S → Bool
are_apart one two = for_each (λ s. not (one s true && two s true) && not (one s false && two s false))

-- each sort of the list that is of the one test is of the other, with the flag or without
abbrev pub is_within : {S : Type 0} → (S → Bool → Bool) → (S → Bool → Bool) → List S → Bool
is_within one two = for_each (λ s. (not (one s true) || two s true) && (not (one s false) || two s false))

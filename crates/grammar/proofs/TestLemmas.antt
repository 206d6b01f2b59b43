-- Facts about tests of sorts, by computation over the list of all sorts.
use Rattle.std.proofs.Common.{◌≡◌, ℕ, zero, suc, Bool, true, false, ◌&&◌, ◌||◌, not, List, [], ◌∷◌, refl, subst, Some, None}
use Rattle.std.proofs.lemmas.Bool.{and_parts, false≢true}
use Rattle.grammar.specs.Tests.{at_place, HasEach, for_each, are_apart, is_within}

some_is : {X : Type 0} (x y : X) → Some x ≡ Some y → x ≡ y
some_is x y e = cc

none_is : {S : Type 0} (s : S) → None ≡ Some s → ⊥
none_is s e = cc

pub each_at : {S : Type 0} (test : S → Bool) (every : List S) (n : ℕ) (s : S) → at_place every n ≡ Some s → for_each test every ≡ true → test s ≡ true
each_at test [] n s e h = absurd (none_is s e)
each_at test (x ∷ every) zero s e h = subst (λ z. test z ≡ true) (some_is x s e) ((and_parts (test x) (for_each test every) h).0)
each_at test (x ∷ every) (suc n) s e h = each_at test every n s e ((and_parts (test x) (for_each test every) h).1)

none_of_both : (a b : Bool) → not (a && b) ≡ true → a ≡ true → b ≡ false
none_of_both true true h m = absurd (false≢true h)
none_of_both true false h m = refl
none_of_both false b h m = absurd (false≢true m)

first_in_second : (a b : Bool) → (not a || b) ≡ true → a ≡ true → b ≡ true
first_in_second true b h m = h
first_in_second false b h m = absurd (false≢true m)

apart_flag : {S : Type 0} (one two : S → Bool → Bool) (s : S) (flag : Bool) → (not (one s true && two s true) && not (one s false && two s false)) ≡ true → one s flag ≡ true → two s flag ≡ false
apart_flag one two s true h m = none_of_both (one s true) (two s true) ((and_parts (not (one s true && two s true)) _ h).0) m
apart_flag one two s false h m = none_of_both (one s false) (two s false) ((and_parts (not (one s true && two s true)) _ h).1) m

within_flag : {S : Type 0} (one two : S → Bool → Bool) (s : S) (flag : Bool) → ((not (one s true) || two s true) && (not (one s false) || two s false)) ≡ true → one s flag ≡ true → two s flag ≡ true
within_flag one two s true h m = first_in_second (one s true) (two s true) ((and_parts (not (one s true) || two s true) _ h).0) m
within_flag one two s false h m = first_in_second (one s false) (two s false) ((and_parts (not (one s true) || two s true) _ h).1) m

-- no sort is of both tests
pub tests_apart : {S : Type 0} (every : List S) (place : S → ℕ) → HasEach every place → (one two : S → Bool → Bool) → are_apart one two every ≡ true → (s : S) (flag : Bool) → one s flag ≡ true → two s flag ≡ false
tests_apart every place has one two h s flag m = apart_flag one two s flag (each_at (λ z. not (one z true && two z true) && not (one z false && two z false)) every (place s) s (has s) h) m

-- each sort of the one test is of the other
pub tests_within : {S : Type 0} (every : List S) (place : S → ℕ) → HasEach every place → (one two : S → Bool → Bool) → is_within one two every ≡ true → (s : S) (flag : Bool) → one s flag ≡ true → two s flag ≡ true
tests_within every place has one two h s flag m = within_flag one two s flag (each_at (λ z. (not (one z true) || two z true) && (not (one z false) || two z false)) every (place s) s (has s) h) m

-- Entries that ascend step by step ascend, and the other way round.
use Rattle.std.proofs.Common.{◌≡◌, ◌&&◌, ℕ, Bool, true, false, List, [], ◌∷◌, map, Some, None, refl, nat_cmp}
use Rattle.std.specs.List.{AllByRecursion}
use Rattle.std.specs.List.Sorted.{IsStrictlySortedBy}
use Rattle.std.specs.Ordering.{is_lt}
use Rattle.std.specs.Cmp.Lexicographic.{slice_cmp, nat_list_cmp_total}
use Rattle.std.specs.declared.cmp.Ordering.{Ordering}
use Rattle.std.specs.declared.cmp.Ordering.TheVariants.{Less, Equal, Greater}
use Rattle.drv_outside.specs.Ascending.{ascend_after}
use Rattle.drv_outside.specs.TreeState.{AscendByPath}
use Rattle.drv_outside.specs.declared.types.Entry.{Entry}

abbrev order : List ℕ → List ℕ → Ordering
order = slice_cmp nat_cmp

abbrev paths : List Entry → List (List ℕ)
paths = map (λ e. e.path)

front : (a b : Bool) → a && b ≡ true → a ≡ true
front true b e = refl
front false b e = e

back : (a b : Bool) → a && b ≡ true → b ≡ true
back true b e = e
back false b e = cc

less_is : (r : Ordering) → is_lt r ≡ true → r ≡ Less
less_is Less e = refl
less_is Equal e = cc
less_is Greater e = cc

is_less : (r : Ordering) → r ≡ Less → is_lt r ≡ true
is_less Less e = refl
is_less Equal e = cc
is_less Greater e = cc

both : (a b : Bool) → a ≡ true → b ≡ true → a && b ≡ true
both true true e f = refl
both true false e f = f
both false b e f = e

below_all : (x y : List ℕ) (ys : List (List ℕ)) → order x y ≡ Less → AllByRecursion (λ z. order y z ≡ Less) ys → AllByRecursion (λ z. order x z ≡ Less) ys
below_all x y [] h all = tt
below_all x y (z ∷ zs) h all = (nat_list_cmp_total.trans x y z h all.0, below_all x y zs h all.1)

sorted_after : (x : Entry) (entries : List Entry) → ascend_after (Some x) entries ≡ true → AllByRecursion (λ y. order x.path y ≡ Less) (paths entries) × IsStrictlySortedBy order (paths entries)
unfolding IsStrictlySortedBy
sorted_after x [] h = (tt, tt)
sorted_after x (y ∷ ys) h =
    let less : order x.path y.path ≡ Less = less_is (order x.path y.path) (front (is_lt (order x.path y.path)) _ h) in
    let rest = sorted_after y ys (back (is_lt (order x.path y.path)) _ h) in
    ((less, below_all x.path y.path (paths ys) less rest.0), rest)

pub sorted : (entries : List Entry) → ascend_after None entries ≡ true → AscendByPath entries
unfolding IsStrictlySortedBy
sorted [] h = tt
sorted (x ∷ xs) h = sorted_after x xs h

ascends_after : (x : Entry) (entries : List Entry) → AllByRecursion (λ y. order x.path y ≡ Less) (paths entries) → IsStrictlySortedBy order (paths entries) → ascend_after (Some x) entries ≡ true
unfolding IsStrictlySortedBy
ascends_after x [] all h = refl
ascends_after x (y ∷ ys) all h = both (is_lt (order x.path y.path)) _ (is_less (order x.path y.path) all.0) (ascends_after y ys h.0 h.1)

pub ascends : (entries : List Entry) → AscendByPath entries → ascend_after None entries ≡ true
unfolding IsStrictlySortedBy
ascends [] h = refl
ascends (x ∷ xs) h = ascends_after x xs h.0 h.1

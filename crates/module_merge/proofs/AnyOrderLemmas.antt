-- Which symbols objects define and use, and the table of their symbols, whatever the order of the objects.
use Rattle.std.proofs.Common.{◌≡◌, ◌∙◌, ◌+◌, ◌<◌, ◌≤◌, ◌||◌, ℕ, Bool, true, false, cond, List, [], ◌∷◌, Some, refl, sym, ap, subst, arith, get_or, zero, suc, length, nat_cmp, nat_eq}
use Rattle.std.specs.List.{list_any, flat_map, sum_by}
use Rattle.std.specs.List.Sorted.{IsPermutation}
use Rattle.std.specs.Ordering.{eq_by_cmp}
use Rattle.std.specs.Cmp.{eq_by_cmp_equiv}
use Rattle.std.specs.Cmp.Lexicographic.{slice_cmp, pointwise, nat_list_cmp_total, texts_ties}
use Rattle.std.specs.FinMap.{get, insert, empty, get-insert, same_map, slice_cmp-IsAntisymmetric, nat_cmp-IsAntisymmetric}
use Rattle.std.specs.declared.cmp.Ordering.{Ordering}
use Rattle.std.proofs.lemmas.List.Sums.{sum_by-cons, sum_by-append}
use Rattle.std.proofs.lemmas.List.Concat.{flat_map-cons}
use Rattle.std.proofs.lemmas.List.Folds.{list_any-append, Any-from_list_any}
use Rattle.std.proofs.lemmas.List.Sorted.{list_any-IsPermutation, sum_by-IsPermutation, Contains-permutation}
use Rattle.ordered_lists.specs.Among.{is_among}
use Rattle.ordered_lists.specs.Repeats.{times}
use Rattle.module_merge.specs.Image.{defined_in, all_defined, AreDistinct, path_of, Table, with_symbols, with_objects, table_of}
use Rattle.module_merge.proofs.OneOrderLemmas.{times-cons}

abbrev order : List ℕ → List ℕ → Ordering
order = slice_cmp nat_cmp

module _ (symbols_of : List ℕ → List (List ℕ)) where
  times_in_all : (q : List ℕ) (objects : List (List ℕ)) → times order q (flat_map symbols_of objects) ≡ sum_by (λ object. times order q (symbols_of object)) objects
  times_in_all q [] = refl
  times_in_all q (object ∷ objects) =
      ap (times order q) (flat_map-cons symbols_of object objects)
      ∙ sum_by-append (λ a. cond (eq_by_cmp order q a) 1 0) (symbols_of object) (flat_map symbols_of objects)
      ∙ ap (λ n. times order q (symbols_of object) + n) (times_in_all q objects)
      ∙ sym (sum_by-cons (λ o. times order q (symbols_of o)) object objects)

  -- How often a symbol stands in objects is of no order.
  pub times_moved : (q : List ℕ) (objects others : List (List ℕ)) → IsPermutation objects others → times order q (flat_map symbols_of objects) ≡ times order q (flat_map symbols_of others)
  times_moved q objects others moved =
      times_in_all q objects ∙ sym (sum_by-IsPermutation (λ object. times order q (symbols_of object)) objects others moved) ∙ sym (times_in_all q others)

  pub among_all : (q : List ℕ) (objects : List (List ℕ)) → is_among (flat_map symbols_of objects) q ≡ list_any (λ object. is_among (symbols_of object) q) objects
  among_all q [] = refl
  among_all q (object ∷ objects) =
      ap (λ symbols. is_among symbols q) (flat_map-cons symbols_of object objects)
      ∙ list_any-append (λ t. pointwise nat_eq t q) (symbols_of object) (flat_map symbols_of objects)
      ∙ ap (λ b. is_among (symbols_of object) q || b) (among_all q objects)

  -- Whether a symbol stands in objects is of no order.
  pub among_moved : (q : List ℕ) (objects others : List (List ℕ)) → IsPermutation objects others → is_among (flat_map symbols_of objects) q ≡ is_among (flat_map symbols_of others) q
  among_moved q objects others moved =
      among_all q objects ∙ list_any-IsPermutation (λ object. is_among (symbols_of object) q) objects others moved ∙ sym (among_all q others)

pub distinct_moved : (objects others : List (List ℕ)) → IsPermutation objects others → AreDistinct (all_defined objects) → AreDistinct (all_defined others)
distinct_moved objects others moved h q = subst (λ n. n ≤ 1) (times_moved defined_in q objects others moved) (h q)

-- the test of a symbol among others, as the table makes it
ties : (s q : List ℕ) → pointwise nat_eq s q ≡ eq_by_cmp order q s
ties s q = texts_ties s q ∙ (eq_by_cmp_equiv nat_list_cmp_total).symm s q

one_counted : (at among : Bool) (n : ℕ) → (among ≡ true → 1 ≤ n) → at || among ≡ true → 1 ≤ cond at 1 0 + n
one_counted true among n h e = omega arith
one_counted false among n h e = let some = h e in omega (arith, some)

-- What is among others stands there once at least.
counted : (q : List ℕ) (xs : List (List ℕ)) → is_among xs q ≡ true → 1 ≤ times order q xs
counted q [] e = cc
counted q (s ∷ xs) e =
    subst (λ n. 1 ≤ n) (sym (times-cons nat_list_cmp_total q s xs))
    (one_counted (eq_by_cmp order q s) (is_among xs q) (times order q xs) (counted q xs) (ap (λ b. b || is_among xs q) (sym (ties s q)) ∙ e))

in_turn : {A : Type 0} (at among : Bool) (x y : A) → cond among x (cond at x y) ≡ cond (at || among) x y
in_turn true true x y = refl
in_turn true false x y = refl
in_turn false true x y = refl
in_turn false false x y = refl

-- what the table has for a symbol, once symbols of one path are in it
get_symbols : (path : List ℕ) (symbols : List (List ℕ)) (table : Table) (q : List ℕ) → get (with_symbols path symbols table) q ≡ cond (is_among symbols q) (Some path) (get table q)
get_symbols path [] table q = refl
get_symbols path (s ∷ symbols) table q =
    get_symbols path symbols (insert table s path) q
    ∙ ap (cond (is_among symbols q) (Some path)) (get-insert nat_list_cmp_total table s path q ∙ ap (λ b. cond b (Some path) (get table q)) (sym (ties s q)))
    ∙ in_turn (pointwise nat_eq s q) (is_among symbols q) (Some path) (get table q)

neither : (a b : Bool) → a || b ≡ false → (a ≡ false) × (b ≡ false)
neither true b e = cc
neither false b e = (refl, e)

-- What objects don't define is as it was.
get_others : (objects : List (List ℕ)) (table : Table) (q : List ℕ) → list_any (λ object. is_among (defined_in object) q) objects ≡ false → get (with_objects objects table) q ≡ get table q
get_others [] table q e = refl
get_others (object ∷ objects) table q e =
    let apart = neither (is_among (defined_in object) q) (list_any (λ o. is_among (defined_in o) q) objects) e in
    get_others objects (with_symbols (path_of object) (defined_in object) table) q apart.1
    ∙ get_symbols (path_of object) (defined_in object) table q
    ∙ ap (λ b. cond b (Some (path_of object)) (get table q)) apart.0

first_times : (q object : List ℕ) (objects : List (List ℕ)) → times order q (all_defined (object ∷ objects)) ≡ times order q (defined_in object) + times order q (all_defined objects)
first_times q object objects = ap (times order q) (flat_map-cons defined_in object objects) ∙ sum_by-append (λ a. cond (eq_by_cmp order q a) 1 0) (defined_in object) (all_defined objects)

rest_distinct : (object : List ℕ) (objects : List (List ℕ)) → AreDistinct (all_defined (object ∷ objects)) → AreDistinct (all_defined objects)
rest_distinct object objects h q = let whole = h q in let parts = first_times q object objects in omega (arith, whole, parts)

no_other : (among : Bool) (n m : ℕ) → (among ≡ true → 1 ≤ m) → 1 ≤ n → n + m ≤ 1 → among ≡ false
no_other true n m h p s = absurd (let some = h refl in omega (arith, some, p, s))
no_other false n m h p s = refl

-- What one object defines, no later one does.
not_later : (object : List ℕ) (objects : List (List ℕ)) (q : List ℕ) → AreDistinct (all_defined (object ∷ objects)) → is_among (defined_in object) q ≡ true → list_any (λ o. is_among (defined_in o) q) objects ≡ false
not_later object objects q h e =
    sym (among_all defined_in q objects)
    ∙ no_other (is_among (all_defined objects) q) (times order q (defined_in object)) (times order q (all_defined objects)) (counted q (all_defined objects)) (counted q (defined_in object) e) (subst (λ n. n ≤ 1) (first_times q object objects) (h q))

-- What an object defines has its path.
get_defined : (objects : List (List ℕ)) (table : Table) (q object : List ℕ) (k : ℕ) → AreDistinct (all_defined objects) → k < length objects → get_or objects k object ≡ object → is_among (defined_in object) q ≡ true → get (with_objects objects table) q ≡ Some (path_of object)
get_defined [] table q object k h p is e = absurd (omega (arith, p))
get_defined (first ∷ objects) table q object zero h p is e =
    let among : is_among (defined_in first) q ≡ true = ap (λ o. is_among (defined_in o) q) is ∙ e in
    get_others objects (with_symbols (path_of first) (defined_in first) table) q (not_later first objects q h among)
    ∙ get_symbols (path_of first) (defined_in first) table q
    ∙ ap (λ b. cond b (Some (path_of first)) (get table q)) among
    ∙ ap (λ o. Some (path_of o)) is
get_defined (first ∷ objects) table q object (suc k) h p is e =
    get_defined objects (with_symbols (path_of first) (defined_in first) table) q object k (rest_distinct first objects h) (omega (arith, p)) is e

same_get : (objects others : List (List ℕ)) → IsPermutation objects others → AreDistinct (all_defined objects) → (q : List ℕ) (defined : Bool) → list_any (λ o. is_among (defined_in o) q) objects ≡ defined → get (table_of objects) q ≡ get (table_of others) q
same_get objects others moved h q false e =
    get_others objects empty q e
    ∙ sym (get_others others empty q (sym (list_any-IsPermutation (λ o. is_among (defined_in o) q) objects others moved) ∙ e))
same_get objects others moved h q true e =
    let (k, object, below, is, among) = Any-from_list_any (λ o. is_among (defined_in o) q) objects e in
    let (m, lower, here) = Contains-permutation objects others object moved (k, below, is) in
    get_defined objects empty q object k h below is among
    ∙ sym (get_defined others empty q object m (distinct_moved objects others moved h) lower here among)

-- The table of objects that define no symbol twice is of no order.
pub table_moved : (objects others : List (List ℕ)) → IsPermutation objects others → AreDistinct (all_defined objects) → table_of objects ≡ table_of others
table_moved objects others moved h =
    same_map nat_list_cmp_total (slice_cmp-IsAntisymmetric nat_cmp-IsAntisymmetric) (table_of objects) (table_of others)
    (λ q. same_get objects others moved h q (list_any (λ o. is_among (defined_in o) q) objects) refl)

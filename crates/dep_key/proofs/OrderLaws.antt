-- What the scans from left to right say of the whole list.
use Rattle.std.proofs.Common.{◌≡◌, ℕ, suc, ◌+◌, ◌<◌, Bool, true, false, cond, ◌&&◌, List, [], ◌∷◌, length, take, Option, Some, None, refl, sym, ap, ◌∙◌, subst, arith, add-one}
use Rattle.std.specs.List.{AllByRecursion}
use Rattle.std.specs.List.Sorted.{IsStrictlySortedBy}
use Rattle.std.specs.Ordering.{is_lt}
use Rattle.std.specs.declared.cmp.Ordering.{Ordering}
use Rattle.std.specs.declared.cmp.Ordering.TheVariants.{Less, Equal, Greater}
use Rattle.dep_key.specs.declared.key.Key.{Key}
use Rattle.dep_key.specs.declared.graph.Node.{Node}
use Rattle.dep_key.specs.KeyOrder.{key_order, key_order_total}
use Rattle.dep_key.specs.GraphOrder.{AreAscending, AreInOrder, IsFirstUnsorted, keys_of}
use Rattle.dep_key.specs.Scans.{is_above, ascend_after, is_in_order, unsorted_from}

-- the key before, where there is one, and the keys
abbrev pub behind : Option Key → List Key → List Key
behind None keys = keys
behind (Some before) keys = before ∷ keys

lt_is : (o : Ordering) → is_lt o ≡ true → o ≡ Less
lt_is Less e = refl
lt_is Equal e = absurd cc
lt_is Greater e = absurd cc

both : (a b : Bool) → a && b ≡ true → (a ≡ true) × (b ≡ true)
both true b e = (refl, e)
both false b e = absurd cc

-- a key below the first of ascending keys is below all of them
below_all : (a k : Key) (keys : List Key) → key_order a k ≡ Less → AllByRecursion (λ y. key_order k y ≡ Less) keys → AllByRecursion (λ y. key_order a y ≡ Less) keys
below_all a k [] h all = tt
below_all a k (y ∷ ys) h all = (key_order_total.trans a k y h all.0, below_all a k ys h all.1)

pub ascending_cons : (a k : Key) (keys : List Key) → key_order a k ≡ Less → AreAscending (k ∷ keys) → AreAscending (a ∷ k ∷ keys)
unfolding IsStrictlySortedBy
ascending_cons a k keys h s = ((h, below_all a k keys h s.0), s)

pub ascending_tail : (before : Option Key) (k : Key) (keys : List Key) → AreAscending (behind before (k ∷ keys)) → AreAscending (k ∷ keys)
unfolding IsStrictlySortedBy
ascending_tail None k keys s = s
ascending_tail (Some a) k keys s = s.1

ascending_head : (before : Option Key) (k : Key) (keys : List Key) → AreAscending (behind before (k ∷ keys)) → is_above before k ≡ true
unfolding IsStrictlySortedBy
ascending_head None k keys s = refl
ascending_head (Some a) k keys s = ap is_lt s.0.0

ascending_join : (before : Option Key) (k : Key) (keys : List Key) → is_above before k ≡ true → AreAscending (k ∷ keys) → AreAscending (behind before (k ∷ keys))
ascending_join None k keys h s = s
ascending_join (Some a) k keys h s = ascending_cons a k keys (lt_is _ h) s

ascending_one : (before : Option Key) → AreAscending (behind before [])
unfolding IsStrictlySortedBy
ascending_one None = tt
ascending_one (Some a) = (tt, tt)

pub ascend_is : (before : Option Key) (keys : List Key) → ascend_after before keys ≡ true → AreAscending (behind before keys)
ascend_is before [] e = ascending_one before
ascend_is before (k ∷ keys) e =
    let b = both (is_above before k) (ascend_after (Some k) keys) e in
    ascending_join before k keys b.0 (ascend_is (Some k) keys b.1)

pub ascend_so : (before : Option Key) (keys : List Key) → AreAscending (behind before keys) → ascend_after before keys ≡ true
ascend_so before [] s = refl
ascend_so before (k ∷ keys) s =
    rw (ascending_head before k keys s, ascend_so (Some k) keys (ascending_tail before k keys s)) refl

-- the nodes behind a key are in order
abbrev pub InOrder : Option Key → List Node → Type 0
InOrder before nodes = AreAscending (behind before (keys_of nodes)) × AllByRecursion (λ node. AreAscending node.uses) nodes

in_order_cons : (before : Option Key) (node : Node) (nodes : List Node) → is_in_order before node ≡ true → InOrder (Some node.key) nodes → InOrder before (node ∷ nodes)
in_order_cons before node nodes e s =
    let b = both (is_above before node.key) (ascend_after None node.uses) e in
    (ascending_join before node.key (keys_of nodes) b.0 s.0, (ascend_is None node.uses b.1, s.1))

in_order_head : (before : Option Key) (node : Node) (nodes : List Node) → InOrder before (node ∷ nodes) → is_in_order before node ≡ true
in_order_head before node nodes s = rw (ascending_head before node.key (keys_of nodes) s.0, ascend_so None node.uses s.1.0) refl

in_order_tail : (before : Option Key) (node : Node) (nodes : List Node) → InOrder before (node ∷ nodes) → InOrder (Some node.key) nodes
in_order_tail before node nodes s = (ascending_tail before node.key (keys_of nodes) s.0, s.1.1)

abbrev step : Bool → ℕ → Option Key → Node → List Node → Option ℕ
step b at before node nodes = cond b (unsorted_from (at + 1) (Some node.key) nodes) (Some at)

pub none_unsorted : (at : ℕ) (before : Option Key) (nodes : List Node) → unsorted_from at before nodes ≡ None → InOrder before nodes
none_unsorted at before [] e = (ascending_one before, tt)
none_unsorted at before (node ∷ nodes) e = by (is_in_order before node) refl e (none_unsorted (at + 1) (Some node.key) nodes)
  where
    by : (b : Bool) → b ≡ is_in_order before node → step b at before node nodes ≡ None → (unsorted_from (at + 1) (Some node.key) nodes ≡ None → InOrder (Some node.key) nodes) → InOrder before (node ∷ nodes)
    by true t h later = in_order_cons before node nodes (sym t) (later h)
    by false t h later = absurd cc

-- the place, counted from the first of these nodes, of the first that is out of order
abbrev pub FirstBehind : Option Key → List Node → ℕ → Type 0
FirstBehind before nodes n = (n < length nodes) × InOrder before (take n nodes) × ¬ InOrder before (take (suc n) nodes)

abbrev Found : ℕ → Option Key → List Node → ℕ → Type 0
Found at before nodes found = (n : ℕ) × (found ≡ at + n) × FirstBehind before nodes n

some_is : {A : Type 0} (a b : A) → Some a ≡ Some b → a ≡ b
some_is a b e = cc

pub one_unsorted : (at : ℕ) (before : Option Key) (nodes : List Node) (found : ℕ) → unsorted_from at before nodes ≡ Some found → Found at before nodes found
one_unsorted at before [] found e = absurd cc
one_unsorted at before (node ∷ nodes) found e = by (is_in_order before node) refl e (one_unsorted (at + 1) (Some node.key) nodes found)
  where
    by : (b : Bool) → b ≡ is_in_order before node → step b at before node nodes ≡ Some found → (unsorted_from (at + 1) (Some node.key) nodes ≡ Some found → Found (at + 1) (Some node.key) nodes found) → Found at before (node ∷ nodes) found
    by true t h later =
        let l = later h in
        let place : found ≡ at + suc l.0 = omega (arith, l.1) in
        let within : suc l.0 < suc (length nodes) = omega (arith, l.2.0) in
        (suc l.0, place, (within, in_order_cons before node (take l.0 nodes) (sym t) l.2.1, λ s. l.2.2 (in_order_tail before node (take (suc l.0) nodes) s)))
    by false t h later =
        let place : found ≡ at + 0 = omega (arith, some_is at found h) in
        let within : 0 < suc (length nodes) = omega arith in
        (0, place, (within, (ascending_one before, tt), λ s. absurd (different (sym (in_order_head before node [] s) ∙ sym t))))
      where
        different : true ≡ false → ⊥
        different e = cc

pub is_first : (nodes : List Node) (found : ℕ) → unsorted_from 0 None nodes ≡ Some found → IsFirstUnsorted nodes found
is_first nodes found e =
    let f = one_unsorted 0 None nodes found e in
    let place : f.0 ≡ found = omega (arith, f.1) in
    let at : FirstBehind None nodes found = subst (FirstBehind None nodes) place f.2 in
    (at.0, at.1, subst (λ n. ¬ AreInOrder (take n nodes)) (sym (add-one found)) at.2)

pub some_is_not_none : {A : Type 0} {a : A} → Some a ≡ None → ⊥
some_is_not_none e = cc

pub all_sorted : (at : ℕ) (before : Option Key) (nodes : List Node) → InOrder before nodes → unsorted_from at before nodes ≡ None
all_sorted at before [] s = refl
all_sorted at before (node ∷ nodes) s = rw (in_order_head before node nodes s) (all_sorted (at + 1) (Some node.key) nodes (in_order_tail before node nodes s))

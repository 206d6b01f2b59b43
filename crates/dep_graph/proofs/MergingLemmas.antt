-- Two ascending lists of nodes are read side by side.
use Rattle.std.proofs.Common.{◌≡◌, ◌⊎◌, ℕ, zero, suc, ◌+◌, ◌-◌, ◌<◌, ◌≤◌, Bool, true, false, not, cond, ◌&&◌, ◌||◌, List, [], ◌∷◌, ◌++◌, length, get_or, drop, Some, None, nat_eq, refl, ap, sym, ◌∙◌, subst, inl, inr, arith, Less, Equal, Greater, is_eq, add-one, drop-cons, take_all, length-drop, take}
use Rattle.std.specs.Ordering.{ordering_reverse}
use Rattle.std.specs.List.{AllByRecursion}
use Rattle.std.specs.List.Sorted.{IsStrictlySortedBy}
use Rattle.std.specs.Cmp.Lexicographic.{pointwise}
use Rattle.std.proofs.lemmas.List.Folds.{list_any-append}
use Rattle.std.proofs.lemmas.Map.Keys.{sorted_head, sorted_tail}
use Rattle.dep_key.specs.declared.key.Key.{Key}
use Rattle.dep_key.specs.declared.graph.Node.{Node}
use Rattle.dep_key.specs.KeyOrder.{key_order, key_order_total}
use Rattle.dep_key.specs.GraphOrder.{AreAscending, keys_of}
use Rattle.dep_key.specs.KeysApart.{keys_apart}
use Rattle.dep_key.specs.Moved.{print_of, same_print, has_moved}
use Rattle.dep_graph.specs.Moves.{is_one, AreApart, HasStepped}

-- all keys of the nodes are above the key
pub record AreAbove (k : Key) (ns : List Node) : Type 0 where
  pub all : AllByRecursion (λ y. key_order k y ≡ Less) (keys_of ns)

absent : (k : Key) (ns : List Node) → AllByRecursion (λ y. key_order k y ≡ Less) (keys_of ns) → print_of ns k ≡ None
absent k [] a = refl
absent k (n ∷ ns) a = ap (λ o. cond (is_eq o) (Some n.print) (print_of ns k)) a.0 ∙ absent k ns a.1

above-more : (a b : Key) (ks : List Key) → key_order a b ≡ Less → AllByRecursion (λ y. key_order b y ≡ Less) ks → AllByRecursion (λ y. key_order a y ≡ Less) ks
above-more a b [] h all = tt
above-more a b (k ∷ ks) h all = (key_order_total.trans a b k h all.0, above-more a b ks h all.1)

same-key : (a b : Key) → is_eq (key_order a b) ≡ true → a ≡ b
same-key a b e = keys_apart a b (equal (key_order a b) e)
  where
    equal : (o : _) → is_eq o ≡ true → o ≡ Equal
    equal Less e = cc
    equal Equal e = refl
    equal Greater e = cc

-- the first old key isn't among the new ones
old-first : (a : Node) (xs bs : List Node) → AreAbove a.key bs → (k : Key) → has_moved (a ∷ xs) bs k ≡ (is_eq (key_order k a.key) || has_moved xs bs k)
old-first a xs bs above k =
    (elim (is_eq (key_order k a.key)) as (λ b. is_eq (key_order k a.key) ≡ b → not (same_print (cond b (Some a.print) (print_of xs k)) (print_of bs k)) ≡ (b || has_moved xs bs k)) [
      | true ↦ λ e. ap (λ p. not (same_print (Some a.print) p)) (absent k bs (subst (λ q. AllByRecursion (λ y. key_order q y ≡ Less) (keys_of bs)) (sym (same-key k a.key e)) above.all))
      | false ↦ λ e. refl
    ]) refl

new-first : (xs : List Node) (b : Node) (bs : List Node) → AreAbove b.key xs → (k : Key) → has_moved xs (b ∷ bs) k ≡ (is_eq (key_order k b.key) || has_moved xs bs k)
new-first xs b bs above k =
    (elim (is_eq (key_order k b.key)) as (λ t. is_eq (key_order k b.key) ≡ t → not (same_print (print_of xs k) (cond t (Some b.print) (print_of bs k))) ≡ (t || has_moved xs bs k)) [
      | true ↦ λ e. ap (λ p. not (same_print p (Some b.print))) (absent k xs (subst (λ q. AllByRecursion (λ y. key_order q y ≡ Less) (keys_of xs)) (sym (same-key k b.key e)) above.all))
      | false ↦ λ e. refl
    ]) refl

or-none : (b : Bool) → b ≡ (b || false)
or-none true = refl
or-none false = refl

-- both lists begin with the same key
both-first : (a b : Node) (xs bs : List Node) → a.key ≡ b.key → AreAbove a.key xs → AreAbove b.key bs → (k : Key) →
    has_moved (a ∷ xs) (b ∷ bs) k ≡ ((is_eq (key_order k a.key) && not (pointwise nat_eq a.print b.print)) || has_moved xs bs k)
both-first a b xs bs same above_old above_new k =
    subst (λ q. not (same_print (print_of (a ∷ xs) k) (cond (is_eq (key_order k q)) (Some b.print) (print_of bs k))) ≡ ((is_eq (key_order k a.key) && not (pointwise nat_eq a.print b.print)) || has_moved xs bs k)) same
    ((elim (is_eq (key_order k a.key)) as (λ t. is_eq (key_order k a.key) ≡ t → not (same_print (cond t (Some a.print) (print_of xs k)) (cond t (Some b.print) (print_of bs k))) ≡ ((t && not (pointwise nat_eq a.print b.print)) || has_moved xs bs k)) [
      | true ↦ λ e.
          let none_old : print_of xs k ≡ None = absent k xs (subst (λ q. AllByRecursion (λ y. key_order q y ≡ Less) (keys_of xs)) (sym (same-key k a.key e)) above_old.all) in
          let none_new : print_of bs k ≡ None = absent k bs (subst (λ q. AllByRecursion (λ y. key_order q y ≡ Less) (keys_of bs)) (sym (same-key k a.key e ∙ same)) above_new.all) in
          or-none (not (pointwise nat_eq a.print b.print)) ∙ ap (λ m. not (pointwise nat_eq a.print b.print) || m) (sym (ap (λ p. not (same_print p (print_of bs k))) none_old ∙ ap (λ p. not (same_print None p)) none_new))
      | false ↦ λ e. refl
    ]) refl)

pub item-first : {X : Type 0} (xs : List X) (i : ℕ) (x : X) → i < length xs → get_or xs i x ≡ x → drop i xs ≡ x ∷ drop (i + 1) xs
item-first xs i x h is = rw add-one (drop-cons xs i x h ∙ ap (λ y. y ∷ drop (suc i) xs) is)

pub ascending-drop : (ns : List Node) (i : ℕ) → AreAscending (keys_of ns) → AreAscending (keys_of (drop i ns))
ascending-drop ns zero a = a
ascending-drop [] (suc i) a = a
ascending-drop (n ∷ ns) (suc i) a = ascending-drop ns i (sorted_tail key_order n.key (keys_of ns) a)

-- what follows a node is above it
pub rest-above : (ns : List Node) (i : ℕ) (n : Node) → AreAscending (keys_of ns) → drop i ns ≡ n ∷ drop (i + 1) ns → AreAbove n.key (drop (i + 1) ns)
rest-above ns i n a e = record { all = sorted_head key_order n.key (keys_of (drop (i + 1) ns)) (subst (λ l. AreAscending (keys_of l)) e (ascending-drop ns i a)) }

pub from-above : (k : Key) (ns : List Node) (i : ℕ) (n : Node) → AreAscending (keys_of ns) → drop i ns ≡ n ∷ drop (i + 1) ns → key_order k n.key ≡ Less → AreAbove k (drop i ns)
from-above k ns i n a e less = subst (AreAbove k) (sym e) (record { all = (less, above-more k n.key (keys_of (drop (i + 1) ns)) less (rest-above ns i n a e).all) })

or-assoc : (a b c : Bool) → (a || (b || c)) ≡ ((a || b) || c)
or-assoc true b c = refl
or-assoc false b c = refl

pushed : (keys : List Key) (q k : Key) → is_one (keys ++ q ∷ []) k ≡ (is_one keys k || is_eq (key_order k q))
pushed keys q k = list_any-append (λ x. is_eq (key_order k x)) keys (q ∷ []) ∙ ap (λ b. is_one keys k || b) (sym (or-none (is_eq (key_order k q))))

all-append : {X : Type 0} (P : X → Type 0) (xs ys : List X) → AllByRecursion P xs → AllByRecursion P ys → AllByRecursion P (xs ++ ys)
all-append P [] ys a b = b
all-append P (x ∷ xs) ys a b = (a.0, all-append P xs ys a.1 b)

all-map : {X : Type 0} (P Q : X → Type 0) (xs : List X) → ((x : X) → P x → Q x) → AllByRecursion P xs → AllByRecursion Q xs
all-map P Q [] f a = tt
all-map P Q (x ∷ xs) f a = (f x a.0, all-map P Q xs f a.1)

append-ascending : (xs ys : List Key) → AreAscending xs → AreAscending ys → AllByRecursion (λ q. AllByRecursion (λ y. key_order q y ≡ Less) ys) xs → AreAscending (xs ++ ys)
unfolding IsStrictlySortedBy
append-ascending [] ys a b all = b
append-ascending (x ∷ xs) ys a b all = (all-append (λ y. key_order x y ≡ Less) xs ys a.0 all.0, append-ascending xs ys a.1 b all.1)

one-ascends : (q : Key) → AreAscending (q ∷ [])
unfolding IsStrictlySortedBy
one-ascends q = (tt, tt)

none-ascends : AreAscending []
unfolding IsStrictlySortedBy
none-ascends = tt

pub apart_none : (keys : List Key) (old new : List Node) → keys ≡ [] → AreApart keys old new
apart_none keys old new e = subst (λ l. AreApart l old new) (sym e) (record { ascend = none-ascends; below_old = tt; below_new = tt })

-- all keys are below what comes behind the first node
tails : (keys : List Key) (ns : List Node) (n : Node) (rest : List Node) → ns ≡ n ∷ rest → AllByRecursion (λ q. AllByRecursion (λ y. key_order q y ≡ Less) (keys_of ns)) keys → AllByRecursion (λ q. AllByRecursion (λ y. key_order q y ≡ Less) (keys_of rest)) keys
tails keys ns n rest e all = all-map _ _ keys (λ q h. (let both : AllByRecursion (λ y. key_order q y ≡ Less) (keys_of (n ∷ rest)) = subst (λ l. AllByRecursion (λ y. key_order q y ≡ Less) (keys_of l)) e h in both.1)) all

-- a key that stands first in one list, and is below the rest of both, comes behind the keys
pub one-more : (keys more : List Key) (q : Key) (ns : List Node) (n : Node) (rest other : List Node) → ns ≡ n ∷ rest → n.key ≡ q → AreAscending keys →
    AllByRecursion (λ x. AllByRecursion (λ y. key_order x y ≡ Less) (keys_of ns)) keys → AllByRecursion (λ x. AllByRecursion (λ y. key_order x y ≡ Less) (keys_of other)) keys →
    AreAbove q rest → AreAbove q other → more ≡ keys ++ q ∷ [] → (AreAscending more) × (AllByRecursion (λ x. AllByRecursion (λ y. key_order x y ≡ Less) (keys_of rest)) more) × (AllByRecursion (λ x. AllByRecursion (λ y. key_order x y ≡ Less) (keys_of other)) more)
one-more keys more q ns n rest other e is up below below_other above above_other made = (
  subst AreAscending (sym made) (append-ascending keys (q ∷ []) up (one-ascends q) (all-map _ _ keys (λ x h. (let both : AllByRecursion (λ y. key_order x y ≡ Less) (keys_of (n ∷ rest)) = subst (λ l. AllByRecursion (λ y. key_order x y ≡ Less) (keys_of l)) e h in (subst (λ y. key_order x y ≡ Less) is both.0, tt))) below)),
  subst (AllByRecursion (λ x. AllByRecursion (λ y. key_order x y ≡ Less) (keys_of rest))) (sym made) (all-append _ keys (q ∷ []) (tails keys ns n rest e below) (above.all, tt)),
  subst (AllByRecursion (λ x. AllByRecursion (λ y. key_order x y ≡ Less) (keys_of other))) (sym made) (all-append _ keys (q ∷ []) below_other (above_other.all, tt)),
)

-- past an old node whose key isn't among the new ones
pub past-old : (old new : List Node) (i j : ℕ) (keys more : List Key) (a : Node) → i < length old → j ≤ length new → get_or old i a ≡ a → AreAscending (keys_of old) → AreAbove a.key (drop j new) → more ≡ keys ++ a.key ∷ [] → HasStepped old new i j keys more (i + 1) j
past-old old new i j keys more a less right is up above made =
    let e : drop i old ≡ a ∷ drop (i + 1) old = item-first old i a less is in
    record {
      left = omega arith;
      right = right;
      less = omega arith;
      moved = λ k. ap (λ l. is_one keys k || has_moved l (drop j new) k) e ∙ ap (λ b. is_one keys k || b) (old-first a (drop (i + 1) old) (drop j new) above k)
          ∙ or-assoc (is_one keys k) (is_eq (key_order k a.key)) (has_moved (drop (i + 1) old) (drop j new) k)
          ∙ ap (λ b. b || has_moved (drop (i + 1) old) (drop j new) k) (sym (pushed keys a.key k) ∙ ap (λ l. is_one l k) (sym made));
      order = λ p.
          let all : (AreAscending more) × (AllByRecursion (λ x. AllByRecursion (λ y. key_order x y ≡ Less) (keys_of (drop (i + 1) old))) more) × (AllByRecursion (λ x. AllByRecursion (λ y. key_order x y ≡ Less) (keys_of (drop j new))) more) =
          one-more keys more a.key (drop i old) a (drop (i + 1) old) (drop j new) e refl p.ascend p.below_old p.below_new (rest-above old i a up e) above made in
          record { ascend = all.0; below_old = all.1; below_new = all.2 };
    }

pub past-new : (old new : List Node) (i j : ℕ) (keys more : List Key) (b : Node) → i ≤ length old → j < length new → get_or new j b ≡ b → AreAscending (keys_of new) → AreAbove b.key (drop i old) → more ≡ keys ++ b.key ∷ [] → HasStepped old new i j keys more i (j + 1)
past-new old new i j keys more b left less is up above made =
    let e : drop j new ≡ b ∷ drop (j + 1) new = item-first new j b less is in
    record {
      left = left;
      right = omega arith;
      less = omega arith;
      moved = λ k. ap (λ l. is_one keys k || has_moved (drop i old) l k) e ∙ ap (λ t. is_one keys k || t) (new-first (drop i old) b (drop (j + 1) new) above k)
          ∙ or-assoc (is_one keys k) (is_eq (key_order k b.key)) (has_moved (drop i old) (drop (j + 1) new) k)
          ∙ ap (λ t. t || has_moved (drop i old) (drop (j + 1) new) k) (sym (pushed keys b.key k) ∙ ap (λ l. is_one l k) (sym made));
      order = λ p.
          let all : (AreAscending more) × (AllByRecursion (λ x. AllByRecursion (λ y. key_order x y ≡ Less) (keys_of (drop (j + 1) new))) more) × (AllByRecursion (λ x. AllByRecursion (λ y. key_order x y ≡ Less) (keys_of (drop i old))) more) =
          one-more keys more b.key (drop j new) b (drop (j + 1) new) (drop i old) e refl p.ascend p.below_new p.below_old (rest-above new j b up e) above made in
          record { ascend = all.0; below_old = all.2; below_new = all.1 };
    }

and-true : (a b : Bool) → b ≡ true → a ≡ (a && b)
and-true true b e = sym e
and-true false b e = refl

and-false : (a b : Bool) → b ≡ false → false ≡ (a && b)
and-false true b e = sym e
and-false false b e = refl

-- past two nodes of one key
pub past-both : (old new : List Node) (i j : ℕ) (keys more : List Key) (a b : Node) → i < length old → j < length new → get_or old i a ≡ a → get_or new j b ≡ b → AreAscending (keys_of old) → AreAscending (keys_of new) →
    key_order a.key b.key ≡ Equal → ((pointwise nat_eq a.print b.print ≡ false) × (more ≡ keys ++ a.key ∷ [])) ⊎ ((pointwise nat_eq a.print b.print ≡ true) × (more ≡ keys)) → HasStepped old new i j keys more (i + 1) (j + 1)
past-both old new i j keys more a b left right is_a is_b up_old up_new equal made =
    let e : drop i old ≡ a ∷ drop (i + 1) old = item-first old i a left is_a in
    let f : drop j new ≡ b ∷ drop (j + 1) new = item-first new j b right is_b in
    record {
      left = omega arith;
      right = omega arith;
      less = omega arith;
      moved = λ k. ap (λ l. is_one keys k || has_moved l (drop j new) k) e ∙ ap (λ l. is_one keys k || has_moved (a ∷ drop (i + 1) old) l k) f
          ∙ ap (λ t. is_one keys k || t) (both-first a b (drop (i + 1) old) (drop (j + 1) new) (keys_apart a.key b.key equal) (rest-above old i a up_old e) (rest-above new j b up_new f) k)
          ∙ or-assoc (is_one keys k) (is_eq (key_order k a.key) && not (pointwise nat_eq a.print b.print)) (has_moved (drop (i + 1) old) (drop (j + 1) new) k)
          ∙ ap (λ t. t || has_moved (drop (i + 1) old) (drop (j + 1) new) k) (elim made [
            | inl differ ↦ ap (λ t. is_one keys k || t) (sym (and-true (is_eq (key_order k a.key)) _ (ap not differ.0))) ∙ sym (pushed keys a.key k) ∙ ap (λ l. is_one l k) (sym differ.1)
            | inr same ↦ ap (λ t. is_one keys k || t) (sym (and-false (is_eq (key_order k a.key)) _ (ap not same.0))) ∙ sym (or-none (is_one keys k)) ∙ ap (λ l. is_one l k) (sym same.1)
          ]);
      order = λ p. elim made [
        | inl differ ↦
            let above_new : AreAbove a.key (drop (j + 1) new) = subst (λ q. AreAbove q (drop (j + 1) new)) (sym (keys_apart a.key b.key equal)) (rest-above new j b up_new f) in
            let all : (AreAscending more) × (AllByRecursion (λ x. AllByRecursion (λ y. key_order x y ≡ Less) (keys_of (drop (i + 1) old))) more) × (AllByRecursion (λ x. AllByRecursion (λ y. key_order x y ≡ Less) (keys_of (drop (j + 1) new))) more) =
            one-more keys more a.key (drop i old) a (drop (i + 1) old) (drop (j + 1) new) e refl p.ascend p.below_old (tails keys (drop j new) b (drop (j + 1) new) f p.below_new) (rest-above old i a up_old e) above_new differ.1 in
            record { ascend = all.0; below_old = all.1; below_new = all.2 }
        | inr same ↦ subst (λ l. AreApart l (drop (i + 1) old) (drop (j + 1) new)) (sym same.1)
            (record { ascend = p.ascend; below_old = tails keys (drop i old) a (drop (i + 1) old) e p.below_old; below_new = tails keys (drop j new) b (drop (j + 1) new) f p.below_new })
      ];
    }

-- all that is left is new
pub only-new : (keys : List Key) (bs : List Node) (k : Key) → AreAscending (keys_of bs) → (is_one keys k || has_moved [] bs k) ≡ is_one (keys ++ keys_of bs) k
only-new keys [] k a = sym (or-none (is_one keys k)) ∙ ap (λ l. is_one l k) (sym (nothing keys))
  where
    nothing : (l : List Key) → l ++ [] ≡ l
    nothing [] = refl
    nothing (x ∷ xs) = ap (λ r. x ∷ r) (nothing xs)
only-new keys (b ∷ bs) k a =
    ap (λ t. is_one keys k || t) (new-first [] b bs (record { all = tt }) k ∙ ap (λ t. is_eq (key_order k b.key) || t) (rest bs (sorted_tail key_order b.key (keys_of bs) a))) ∙ sym (list_any-append (λ x. is_eq (key_order k x)) keys (b.key ∷ keys_of bs))
  where
    rest : (l : List Node) → AreAscending (keys_of l) → has_moved [] l k ≡ is_one (keys_of l) k
    rest [] up = refl
    rest (c ∷ cs) up = new-first [] c cs (record { all = tt }) k ∙ ap (λ t. is_eq (key_order k c.key) || t) (rest cs (sorted_tail key_order c.key (keys_of cs) up))

-- an order turned round
pub turned : (a b : Key) → key_order a b ≡ Greater → key_order b a ≡ Less
turned a b e = key_order_total.antisymm b a ∙ ap ordering_reverse e

pub absent-from : (a b : Bool) → a ≡ not b → a ≡ true → b ≡ false
absent-from a true e h = cc
absent-from a false e h = refl

pub present-from : (a b : Bool) → a ≡ not b → a ≡ false → b ≡ true
present-from a true e h = refl
present-from a false e h = cc

-- what the loop has found, with the new nodes that are left, is all
pub found-all : (old new : List Node) (i j : ℕ) (keys more : List Key) → length old ≤ i → AreAscending (keys_of new) →
    ((k : Key) → has_moved old new k ≡ (is_one keys k || has_moved (drop i old) (drop j new) k)) → more ≡ keys ++ keys_of (drop j new) → (k : Key) → is_one more k ≡ has_moved old new k
found-all old new i j keys more past up found made k =
    ap (λ l. is_one l k) made ∙ sym (only-new keys (drop j new) k (ascending-drop new j up)) ∙ ap (λ l. is_one keys k || has_moved l (drop j new) k) (sym (nothing-left old i past)) ∙ sym (found k)
  where
    nothing-left : (l : List Node) (n : ℕ) → length l ≤ n → drop n l ≡ []
    nothing-left [] zero le = refl
    nothing-left [] (suc n) le = refl
    nothing-left (x ∷ xs) zero le = absurd (omega arith)
    nothing-left (x ∷ xs) (suc n) le = nothing-left xs n (omega arith)

-- a range from j on has all that follows
pub whole-rest : (ns : List Node) (j : ℕ) → take (length ns - j) (drop j ns) ≡ drop j ns
whole-rest ns j = take_all (length ns - j) (drop j ns) (omega (arith, length-drop j ns))

pub all-ascend : (keys more : List Key) (old new : List Node) (i j : ℕ) → AreAscending (keys_of new) → AreApart keys (drop i old) (drop j new) → more ≡ keys ++ keys_of (drop j new) → AreAscending more
all-ascend keys more old new i j up apart made = subst AreAscending (sym made) (append-ascending keys (keys_of (drop j new)) apart.ascend (ascending-drop new j up) apart.below_new)

pub none-left : (k : Key) (ns : List Node) (j : ℕ) → length ns ≤ j → AreAbove k (drop j ns)
none-left k ns j le = subst (AreAbove k) (sym (past ns j le)) (record { all = tt })
  where
    past : (l : List Node) (n : ℕ) → length l ≤ n → drop n l ≡ []
    past [] zero le = refl
    past [] (suc n) le = refl
    past (x ∷ xs) zero le = absurd (omega arith)
    past (x ∷ xs) (suc n) le = past xs n (omega arith)

-- Entering declarations into a map of keys.
use Rattle.std.proofs.Common.{◌≡◌, ℕ, ◌≤◌, Bool, true, false, cond, List, [], ◌∷◌, ◌++◌, map, Some, None, length, drop, refl, ap, sym, ◌∙◌, append_assoc}
use Rattle.std.specs.Prelude.{filter}
use Rattle.std.specs.BTreeMap.{BTreeMap, get, is_at}
use Rattle.std.specs.Ordering.{is_eq}
use Rattle.std.specs.declared.cmp.Ordering.TheVariants.{Less, Equal, Greater}
use Rattle.std.specs.Cmp.{eq_by_cmp_equiv}
use Rattle.std.specs.declared.vec.Vec.{Vec}
use Rattle.std.specs.declared.alloc.Global.{Global}
use Rattle.std.proofs.lemmas.List.{drop_all}
use Rattle.dep_key.specs.declared.key.Key.{Key}
use Rattle.dep_key.specs.KeyOrder.{key_order, key_order_total}
use Rattle.dep_key.specs.KeysApart.{keys_apart}
use Rattle.swift_ast.specs.declared.declarations.FileTree.{FileTree}
use Rattle.decl_index.specs.Providers.{Entry, is_key, entries_of, found, providers, items_or_none, InStep}
use Rattle.decl_index.specs.declared.index.DeclRef.{DeclRef}

at-equal : (a b : Key) → is_at (key_order a) b ≡ true → a ≡ b
at-equal a b h = keys_apart a b (elim (key_order a b) as (λ r. is_eq r ≡ true → r ≡ Equal) [ Less ↦ λ h. cc | Equal ↦ λ h. refl | Greater ↦ λ h. cc ] h)

at-sym : (a b : Key) → is_key a b ≡ is_at (key_order b) a
at-sym a b = (eq_by_cmp_equiv key_order_total).symm a b

pub append-none : {X : Type 0} (xs : List X) → xs ++ [] ≡ xs
append-none [] = refl
append-none (x ∷ xs) = ap (λ l. x ∷ l) (append-none xs)

found-one : (q key : Key) (at : DeclRef) → found q ((key, at) ∷ []) ≡ cond (is_at (key_order key) q) (at ∷ []) []
found-one q key at = rw (at-sym q key) (elim (is_at (key_order key) q) as (λ v. map (λ (e : Entry). e.1) (cond v ((key, at) ∷ []) []) ≡ cond v (at ∷ []) []) [ true ↦ refl | false ↦ refl ])

-- entering a declaration adds it at its key
pub entered-at : (old mid new : BTreeMap Key (Vec DeclRef Global)) (key : Key) (at : DeclRef) (known pushed : Vec DeclRef Global) →
    ((q : Key) → get key_order mid q ≡ cond (is_at (key_order key) q) None (get key_order old q)) → known.items ≡ items_or_none (get key_order old key) → pushed.items ≡ known.items ++ at ∷ [] →
    ((q : Key) → get key_order new q ≡ cond (is_at (key_order key) q) (Some pushed) (get key_order mid q)) → (q : Key) →
    items_or_none (get key_order new q) ≡ items_or_none (get key_order old q) ++ found q ((key, at) ∷ [])
entered-at old mid new key at known pushed m k p n q =
    ap items_or_none (n q) ∙ (elim (is_at (key_order key) q) as (λ v. is_at (key_order key) q ≡ v →
    items_or_none (cond v (Some pushed) (get key_order mid q)) ≡ items_or_none (get key_order old q) ++ cond v (at ∷ []) []) [
      | true ↦ λ e. p ∙ ap (λ l. l ++ at ∷ []) k ∙ ap (λ l. items_or_none (get key_order old l) ++ at ∷ []) (at-equal key q e)
      | false ↦ λ e. ap items_or_none (m q ∙ ap (λ v. cond v None (get key_order old q)) e) ∙ sym (append-none (items_or_none (get key_order old q)))
    ]) refl
    ∙ ap (λ l. items_or_none (get key_order old q) ++ l) (sym (found-one q key at))

filter-both : {X : Type 0} (p : X → Bool) (xs ys : List X) → filter p (xs ++ ys) ≡ filter p xs ++ filter p ys
filter-both p [] ys = refl
filter-both p (x ∷ xs) ys = rw (filter-both p xs ys) (elim (p x) as (λ v. cond v (x ∷ (filter p xs ++ filter p ys)) (filter p xs ++ filter p ys) ≡ cond v (x ∷ filter p xs) (filter p xs) ++ filter p ys) [ true ↦ refl | false ↦ refl ])

map-both : {X Y : Type 0} (f : X → Y) (xs ys : List X) → map f (xs ++ ys) ≡ map f xs ++ map f ys
map-both f [] ys = refl
map-both f (x ∷ xs) ys = ap (λ l. f x ∷ l) (map-both f xs ys)

pub found-both : (q : Key) (xs ys : List Entry) → found q (xs ++ ys) ≡ found q xs ++ found q ys
found-both q xs ys = ap (map (λ (e : Entry). e.1)) (filter-both (λ (e : Entry). is_key q e.0) xs ys) ∙ map-both (λ (e : Entry). e.1) (filter (λ (e : Entry). is_key q e.0) xs) (filter (λ (e : Entry). is_key q e.0) ys)

-- what was entered of a list, with what is left of it
pub found-more : (q : Key) (had now : List DeclRef) (front more : List Entry) → now ≡ had ++ found q front → now ++ found q more ≡ had ++ found q (front ++ more)
found-more q had now front more e = ap (λ l. l ++ found q more) e ∙ append_assoc had (found q front) (found q more) ∙ ap (λ l. had ++ l) (sym (found-both q front more))

-- when all files are entered, the map is in step
pub all-entered : (files : List FileTree) (m : BTreeMap Key (Vec DeclRef Global)) (i : ℕ) → length files ≤ i →
    ((q : Key) → items_or_none (get key_order m q) ++ found q (entries_of i (drop i files)) ≡ found q (entries_of 0 files)) → InStep files m
unfolding providers
all-entered files m i le each = record {
  at = λ q.
      let rest : drop i files ≡ [] = drop_all i files le in
      sym (append-none (items_or_none (get key_order m q))) ∙ sym (ap (λ l. items_or_none (get key_order m q) ++ found q (entries_of i l)) rest) ∙ each q;
}

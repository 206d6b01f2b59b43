-- The nodes of a file are in order.
use Rattle.std.proofs.Common.{◌≡◌, ℕ, List, [], ◌∷◌, ◌++◌, map, Option, refl, sym, ap, ◌∙◌, subst, inl, inr}
use Rattle.std.specs.Prelude.{flat_map}
use Rattle.std.specs.List.{AllByRecursion}
use Rattle.std.specs.List.Sorted.{IsStrictlySortedBy}
use Rattle.std.specs.BTreeSet.{insert_key}
use Rattle.std.specs.Ordering.{match_ordering, ordering_reverse}
use Rattle.std.specs.declared.cmp.Ordering.TheVariants.{Less, Equal, Greater}
use Rattle.queries.specs.Queries.{Among, dependencies}
use Rattle.checks.specs.Logs.{entered}
use Rattle.dep_key.specs.declared.key.Key.{Key}
use Rattle.dep_key.specs.declared.graph.Node.{Node}
use Rattle.dep_key.specs.GraphOrder.{AreAscending, keys_of}
use Rattle.dep_key.specs.KeyOrder.{key_order, key_order_total}
use Rattle.dep_key.specs.KeyBuilders.{key_name, top_level, potential_member, member, source_file}
use Rattle.swift_ast.specs.declared.declarations.FileTree.{FileTree}
use Rattle.swift_ast.specs.declared.declarations.Access.{Access}
use Rattle.swift_ast.specs.declared.declarations.Decl.{Decl}
use Rattle.swift_ast.specs.declared.declarations.Decl.TheVariants.{Named, Extension as Extended}
use Rattle.swift_ast.specs.declared.declarations.NamedDecl.{NamedDecl}
use Rattle.swift_ast.specs.declared.declarations.NamedDecl.TheVariants as named
use Rattle.decl_index.specs.Declarations.{Declaration, declarations_in, decl_declarations, named_declarations, struct_member_declaration, extension_member_declaration, struct_keys, struct_member_name, extension_member_name, is_private, is_among}
use Rattle.type_rules.specs.declared.meaning.Meaning.{Meaning}
use Rattle.type_infer.proofs.ListFacts.{among-flat, among-map}
use Rattle.iface_print.specs.Nodes.{node_query}
use Rattle.file_nodes.specs.Graphs.{declaring, node_keys, node_uses, node_of, implementation_node}
use Rattle.file_nodes.specs.Laws.{GraphsAreInOrder}
use Rattle.file_nodes.proofs.AmongLemmas.{entered-from}

-- Keys that are entered ascend.

above-all : (k x : Key) (ks : List Key) → key_order k x ≡ Less → AllByRecursion (λ y. key_order x y ≡ Less) ks → AllByRecursion (λ y. key_order k y ≡ Less) ks
above-all k x [] e all = tt
above-all k x (y ∷ ks) e all = (key_order_total.trans k x y e all.0, above-all k x ks e all.1)

insert-above : (x k : Key) (ks : List Key) → key_order x k ≡ Less → AllByRecursion (λ y. key_order x y ≡ Less) ks → AllByRecursion (λ y. key_order x y ≡ Less) (insert_key key_order ks k)
insert-above x k [] below all = (below, tt)
insert-above x k (y ∷ ks) below all = elim (key_order k y) as (λ r. AllByRecursion (λ z. key_order x z ≡ Less) (match_ordering r (k ∷ y ∷ ks) (y ∷ ks) (y ∷ insert_key key_order ks k))) [
  | Less ↦ (below, all)
  | Equal ↦ all
  | Greater ↦ (all.0, insert-above x k ks below all.1)
]

inserted-ascends : (ks : List Key) (k : Key) → AreAscending ks → AreAscending (insert_key key_order ks k)
unfolding IsStrictlySortedBy
inserted-ascends [] k up = (tt, tt)
inserted-ascends (x ∷ ks) k up = (elim (key_order k x) as (λ r. key_order k x ≡ r → AreAscending (match_ordering r (k ∷ x ∷ ks) (x ∷ ks) (x ∷ insert_key key_order ks k))) [
  | Less ↦ λ e. ((e, above-all k x ks e up.0), up)
  | Equal ↦ λ e. up
  | Greater ↦ λ e. (insert-above x k ks (key_order_total.antisymm x k ∙ ap ordering_reverse e) up.0, inserted-ascends ks k up.1)
]) refl

entered-ascends : (set ks : List Key) → AreAscending set → AreAscending (entered key_order set ks)
entered-ascends set [] up = up
entered-ascends set (k ∷ ks) up = entered-ascends (insert_key key_order set k) ks (inserted-ascends set k up)

none-ascends : AreAscending []
unfolding IsStrictlySortedBy
none-ascends = tt

-- The key of an implementation is above the keys of declarations.

abbrev AreBelow : Declaration → Type 0
AreBelow d = (path : List ℕ) (k : Key) → Among d.keys k → key_order k (source_file path) ≡ Less

one-below : (keys : List Key) (k : Key) (path : List ℕ) (q : Key) → keys ≡ k ∷ [] → key_order k (source_file path) ≡ Less → Among keys q → key_order q (source_file path) ≡ Less
one-below keys k path q is below m = elim (subst (λ l. Among l q) is m) [ inl e ↦ subst (λ z. key_order z (source_file path) ≡ Less) e below | inr n ↦ absurd n ]

struct-below : (name : List ℕ) (path : List ℕ) (q : Key) → Among (struct_keys name) q → key_order q (source_file path) ≡ Less
struct-below name path q m = elim m [
  | inl e ↦ subst (λ z. key_order z (source_file path) ≡ Less) e refl
  | inr n ↦ elim n [
    | inl e ↦ subst (λ z. key_order z (source_file path) ≡ Less) e refl
    | inr n ↦ elim n [ inl e ↦ subst (λ z. key_order z (source_file path) ≡ Less) e refl | inr n ↦ absurd n ]
  ]
]

named-below : (path : List ℕ) (access : Option Access) (x : NamedDecl) (d : Declaration) → Among (named_declarations path access x) d → AreBelow d
named-below path access (named.Global x) d m = elim m [ inl e ↦ subst AreBelow e (λ p q. one-below _ (top_level (key_name path (is_private access) x.name.text)) p q refl refl) | inr n ↦ absurd n ]
named-below path access (named.Func x) d m = elim m [ inl e ↦ subst AreBelow e (λ p q. one-below _ (top_level (key_name path (is_private access) x.name.text)) p q refl refl) | inr n ↦ absurd n ]
named-below path access (named.Alias x) d m = elim m [ inl e ↦ subst AreBelow e (λ p q. one-below _ (top_level (key_name path (is_private access) x.name.text)) p q refl refl) | inr n ↦ absurd n ]
named-below path access (named.Struct x) d m = elim m [
  | inl e ↦ subst AreBelow e (λ p q. struct-below (key_name path (is_private access) x.name.text) p q)
  | inr n ↦ (let r = among-map (struct_member_declaration path (key_name path (is_private access) x.name.text)) x.members d n in
      subst AreBelow r.2 (λ p q. one-below _ (member (key_name path (is_private access) x.name.text) (key_name path (is_private r.0.0) (struct_member_name r.0.1))) p q refl refl))
]

decl-below : (path : List ℕ) (own : List (List ℕ)) (x : Decl) (d : Declaration) → Among (decl_declarations path own x) d → AreBelow d
decl-below path own (Named access x) d m = named-below path access x d m
decl-below path own (Extended x) d m = elim m [
  | inl e ↦ subst AreBelow e (λ p q. one-below _ (potential_member (key_name path (is_among own x.name.text) x.name.text)) p q refl refl)
  | inr n ↦ (let r = among-map (extension_member_declaration path (key_name path (is_among own x.name.text) x.name.text)) x.members d n in
      subst AreBelow r.2 (λ p q. one-below _ (member (key_name path (is_among own x.name.text) x.name.text) (key_name path (is_private r.0.0) (extension_member_name r.0.1))) p q refl refl))
]

file-below : (f : FileTree) (d : Declaration) → Among (declarations_in f) d → AreBelow d
file-below f d m = let r = among-flat (decl_declarations f.path _) f.decls d m in decl-below f.path _ r.0 d r.2

keys-below : (f : FileTree) (k : Key) → Among (node_keys f) k → key_order k (source_file f.path) ≡ Less
unfolding node_keys
keys-below f k m = elim (entered-from [] (flat_map (λ d. d.keys) (declarations_in f)) k m) [
  | inl none ↦ absurd none
  | inr n ↦ (let r = among-flat (λ (d : Declaration). d.keys) (declarations_in f) k n in file-below f r.0 r.1 f.path k r.2)
]

-- The nodes.

all-among : {X : Type 0} (P : X → Type 0) (xs : List X) → ((x : X) → Among xs x → P x) → AllByRecursion P xs
all-among P [] h = tt
all-among P (x ∷ xs) h = (h x (inl refl), all-among P xs (λ y m. h y (inr m)))

all-last : {X : Type 0} (P : X → Type 0) (xs : List X) (y : X) → AllByRecursion P xs → P y → AllByRecursion P (xs ++ y ∷ [])
all-last P [] y all last = (last, tt)
all-last P (x ∷ xs) y all last = (all.0, all-last P xs y all.1 last)

ascends-last : (ks : List Key) (k : Key) → AreAscending ks → AllByRecursion (λ x. key_order x k ≡ Less) ks → AreAscending (ks ++ k ∷ [])
unfolding IsStrictlySortedBy
ascends-last [] k up below = (tt, tt)
ascends-last (x ∷ ks) k up below = (all-last (λ y. key_order x y ≡ Less) ks k up.0 below.0, ascends-last ks k up.1 below.1)

keys-are : (m : Key → Meaning) (f : FileTree) (ks : List Key) (last : Node) → keys_of (map (node_of m f) ks ++ last ∷ []) ≡ ks ++ last.key ∷ []
keys-are m f [] last = refl
keys-are m f (k ∷ ks) last = ap (λ l. k ∷ l) (keys-are m f ks last)

uses-ascend : (m : Key → Meaning) (f : FileTree) (k : Key) → AreAscending (node_uses m f k)
unfolding node_uses
uses-ascend m f k = entered-ascends [] (flat_map (λ d. dependencies m (node_query k d)) (declaring f k)) none-ascends

all-uses-ascend : (m : Key → Meaning) (f : FileTree) (ks : List Key) → AllByRecursion (λ (node : Node). AreAscending node.uses) (map (node_of m f) ks)
all-uses-ascend m f [] = tt
all-uses-ascend m f (k ∷ ks) = (uses-ascend m f k, all-uses-ascend m f ks)

keys-ascend : (f : FileTree) → AreAscending (node_keys f)
unfolding node_keys
keys-ascend f = entered-ascends [] (flat_map (λ d. d.keys) (declarations_in f)) none-ascends

pub in-order : GraphsAreInOrder
in-order m uses f up =
    let last = implementation_node f.path uses in (
      subst AreAscending (sym (keys-are m f (node_keys f) last)) (ascends-last (node_keys f) (source_file f.path) (keys-ascend f) (all-among (λ k. key_order k (source_file f.path) ≡ Less) (node_keys f) (keys-below f))),
      all-last (λ (node : Node). AreAscending node.uses) (map (node_of m f) (node_keys f)) last (all-uses-ascend m f (node_keys f)) up,
    )

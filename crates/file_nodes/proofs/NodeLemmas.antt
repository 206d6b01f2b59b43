-- What the nodes of a file tell: its prints and its uses.
use Rattle.std.proofs.Common.{◌≡◌, ℕ, Bool, true, false, cond, List, [], ◌∷◌, ◌++◌, map, Some, None, refl, sym, ap, ◌∙◌, subst, inl, inr}
use Rattle.std.specs.Prelude.{◌||◌, flat_map}
use Rattle.std.specs.List.{filter, list_any, AllByRecursion}
use Rattle.std.specs.List.Sorted.{IsStrictlySortedBy}
use Rattle.std.specs.BTreeSet.{insert_key}
use Rattle.std.specs.Ordering.{match_ordering, nat_cmp, is_eq}
use Rattle.std.specs.Cmp.{tied_itself}
use Rattle.std.specs.Cmp.Lexicographic.{slice_cmp, nat_list_cmp_total, bytes_decides}
use Rattle.std.specs.declared.cmp.Ordering.TheVariants.{Less, Equal, Greater}
use Rattle.queries.specs.Queries.{Among, dependencies, value_with}
use Rattle.checks.specs.Logs.{entered}
use Rattle.dep_key.specs.declared.key.Key.{Key}
use Rattle.dep_key.specs.declared.graph.Node.{Node}
use Rattle.dep_key.specs.declared.kind.Kind.{Kind}
use Rattle.dep_key.specs.declared.kind.Kind.TheVariants.{TopLevel, Nominal, PotentialMember, Member, DynamicLookup, ExternalDepend, SourceFileProvide}
use Rattle.dep_key.specs.declared.kind.Aspect.{Aspect}
use Rattle.dep_key.specs.KeyOrder.{key_order, key_order_total}
use Rattle.dep_key.specs.KeyBuilders.{source_file}
use Rattle.dep_key.specs.KeysApart.{keys_apart}
use Rattle.dep_key.specs.Moved.{print_of, uses_of}
use Rattle.swift_ast.specs.declared.declarations.FileTree.{FileTree}
use Rattle.decl_index.specs.Declarations.{Declaration, declarations_in}
use Rattle.decl_index.specs.Providers.{is_key}
use Rattle.type_rules.specs.declared.meaning.Meaning.{Meaning}
use Rattle.type_infer.specs.Meanings.{has_key, having, is_filled, meaning_in}
use Rattle.type_infer.specs.Sound.{is_asked_kind}
use Rattle.type_infer.proofs.Ending.{same-key}
use Rattle.type_infer.proofs.ListFacts.{filter-append, filter-swap, filter-none, filter-each, kept-from, kept-some, among-append, among-left, among-right, among-flat, flat-among, among-map}
use Rattle.iface_print.specs.Prints.{print_of as printed, lines_of, is_in, print_in}
use Rattle.iface_print.specs.Nodes.{node_query}
use Rattle.iface_print.specs.Coverage.{IsDefinitionUse, IsUse}
use Rattle.iface_print.proofs.Covering.{file-path}
use Rattle.iface_print.proofs.FileNodes.{node-value}
use Rattle.file_nodes.specs.Graphs.{declaring, node_keys, node_print, node_uses, node_of, implementation_node, graph_of, text_or_empty}
use Rattle.file_nodes.specs.Laws.{AreByPath, NodesHavePrints, NodesHaveUses}
use Rattle.file_nodes.proofs.AmongLemmas.{entered-has, entered-from}

-- Whether a key is one of those that are entered.

or-swap : (a b c : Bool) → a || (b || c) ≡ b || (a || c)
or-swap true true c = refl
or-swap true false c = refl
or-swap false b c = refl

or-twice : (a b : Bool) → a || (a || b) ≡ a || b
or-twice true b = refl
or-twice false b = refl

or-assoc : (a b c : Bool) → (a || b) || c ≡ a || (b || c)
or-assoc true b c = refl
or-assoc false b c = refl

any-inserted : (t : Key → Bool) (ks : List Key) (k : Key) → list_any t (insert_key key_order ks k) ≡ t k || list_any t ks
any-inserted t [] k = refl
any-inserted t (x ∷ ks) k = (elim (key_order k x) as (λ r. key_order k x ≡ r → list_any t (match_ordering r (k ∷ x ∷ ks) (x ∷ ks) (x ∷ insert_key key_order ks k)) ≡ t k || (t x || list_any t ks)) [
  | Less ↦ λ e. refl
  | Equal ↦ λ e. sym (ap (λ z. t z || (t x || list_any t ks)) (keys_apart k x e) ∙ or-twice (t x) (list_any t ks))
  | Greater ↦ λ e. ap (λ b. t x || b) (any-inserted t ks k) ∙ or-swap (t x) (t k) (list_any t ks)
]) refl

any-entered : (t : Key → Bool) (set ks : List Key) → list_any t (entered key_order set ks) ≡ list_any t ks || list_any t set
any-entered t set [] = refl
any-entered t set (k ∷ ks) = any-entered t (insert_key key_order set k) ks ∙ ap (λ b. list_any t ks || b) (any-inserted t set k) ∙ or-swap (list_any t ks) (t k) (list_any t set) ∙ sym (or-assoc (t k) (list_any t ks) (list_any t set))

or-false : (a : Bool) → a || false ≡ a
or-false true = refl
or-false false = refl

any-append : (t : Key → Bool) (xs ys : List Key) → list_any t (xs ++ ys) ≡ list_any t xs || list_any t ys
any-append t [] ys = refl
any-append t (x ∷ xs) ys = ap (λ b. t x || b) (any-append t xs ys) ∙ sym (or-assoc (t x) (list_any t xs) (list_any t ys))

any-flat : (key : Key) (ds : List Declaration) → list_any (is_key key) (flat_map (λ d. d.keys) ds) ≡ is_filled (filter (has_key key) ds)
any-flat key [] = refl
any-flat key (d ∷ ds) = any-append (is_key key) d.keys (flat_map (λ d. d.keys) ds)
    ∙ (elim (has_key key d) as (λ v. v || list_any (is_key key) (flat_map (λ d. d.keys) ds) ≡ is_filled (cond v (d ∷ filter (has_key key) ds) (filter (has_key key) ds))) [ true ↦ refl | false ↦ any-flat key ds ])

any-node : (f : FileTree) (key : Key) → list_any (is_key key) (node_keys f) ≡ is_filled (declaring f key)
unfolding node_keys
any-node f key = any-entered (is_key key) [] (flat_map (λ d. d.keys) (declarations_in f)) ∙ or-false (list_any (is_key key) (flat_map (λ d. d.keys) (declarations_in f))) ∙ any-flat key (declarations_in f)

-- The print of a key in the nodes.

print-found : (m : Key → Meaning) (f : FileTree) (ks : List Key) (last : Node) (key : Key) → is_key key last.key ≡ false → print_of (map (node_of m f) ks ++ last ∷ []) key ≡ cond (list_any (is_key key) ks) (Some (node_print m f key)) None
print-found m f [] last key other = rw other refl
print-found m f (k ∷ ks) last key other = (elim (is_key key k) as (λ v. is_key key k ≡ v → cond v (Some (node_print m f k)) (print_of (map (node_of m f) ks ++ last ∷ []) key) ≡ cond (v || list_any (is_key key) ks) (Some (node_print m f key)) None) [
  | true ↦ λ e. ap (λ z. Some (node_print m f z)) (sym (same-key key k e))
  | false ↦ λ e. print-found m f ks last key other
]) refl

map-same : {X Y : Type 0} (f g : X → Y) (xs : List X) → ((x : X) → f x ≡ g x) → map f xs ≡ map g xs
map-same f g [] h = refl
map-same f g (x ∷ xs) h = let first = h x in let rest = map-same f g xs h in λ i. first i ∷ rest i

some-lines : (m : Key → Meaning) (key : Key) (ds : List Declaration) →
    cond (is_filled ds) (Some (text_or_empty (lines_of (map (λ d. value_with m (node_query key d)) ds)))) None ≡ lines_of (map (λ d. value_with m (node_query key d)) ds)
some-lines m key [] = refl
some-lines m key (d ∷ ds) = refl

print-lines : (m : Key → Meaning) (f : FileTree) (key : Key) → cond (is_filled (declaring f key)) (Some (node_print m f key)) None ≡ lines_of (map (printed key (m key)) (declaring f key))
unfolding node_print
print-lines m f key = some-lines m key (declaring f key) ∙ ap lines_of (map-same (λ d. value_with m (node_query key d)) (printed key (m key)) (declaring f key) (λ d. node-value m key d))

-- no key that look-ups ask is that of an implementation
asked-other : (kind : Kind) (aspect : Aspect) (context name path : List ℕ) → is_asked_kind kind ≡ true → is_key (record { kind = kind; aspect = aspect; context = context; name = name }) (source_file path) ≡ false
asked-other TopLevel aspect context name path h = refl
asked-other Nominal aspect context name path h = refl
asked-other Member aspect context name path h = refl
asked-other PotentialMember aspect context name path h = absurd cc
asked-other DynamicLookup aspect context name path h = absurd cc
asked-other ExternalDepend aspect context name path h = absurd cc
asked-other SourceFileProvide aspect context name path h = absurd cc

-- The declarations of a module that are in a file.

less-apart : (a b : List ℕ) → slice_cmp nat_cmp a b ≡ Less → a ≡ b → ⊥
less-apart a b less same =
    let own : slice_cmp nat_cmp a a ≡ Less = ap (slice_cmp nat_cmp a) same ∙ less in
    let turned = nat_list_cmp_total.antisymm a a in
    absurd cc

not-in : (d : Declaration) (path : List ℕ) → (d.path ≡ path → ⊥) → is_in path d ≡ false
not-in d path apart = (elim (is_in path d) as (λ v. is_in path d ≡ v → v ≡ false) [ true ↦ λ e. absurd (apart ((bytes_decides d.path path).0 e)) | false ↦ λ e. refl ]) refl

others-out : (path : List ℕ) (fs : List FileTree) → ((g : FileTree) → Among fs g → g.path ≡ path → ⊥) → filter (is_in path) (flat_map declarations_in fs) ≡ []
others-out path fs apart = filter-none (is_in path) (flat_map declarations_in fs) (λ d m. (let r = among-flat declarations_in fs d m in not-in d path (λ e. apart r.0 r.1 (sym (file-path r.0 d r.2) ∙ e))))

path-above : (path : List ℕ) (fs : List FileTree) → AllByRecursion (λ p. slice_cmp nat_cmp path p ≡ Less) (map (λ f. f.path) fs) → (g : FileTree) → Among fs g → slice_cmp nat_cmp path g.path ≡ Less
path-above path [] all g m = absurd m
path-above path (x ∷ fs) all g m = elim m [ inl e ↦ subst (λ (z : FileTree). slice_cmp nat_cmp path z.path ≡ Less) e all.0 | inr n ↦ path-above path fs all.1 g n ]

append-none : {X : Type 0} (xs : List X) → xs ++ [] ≡ xs
append-none [] = refl
append-none (x ∷ xs) = ap (λ l. x ∷ l) (append-none xs)

in-path : (files : List FileTree) → AreByPath files → (f : FileTree) → Among files f → filter (is_in f.path) (flat_map declarations_in files) ≡ declarations_in f
unfolding IsStrictlySortedBy
in-path [] up f m = absurd m
in-path (x ∷ fs) up f m = filter-append (is_in f.path) (declarations_in x) (flat_map declarations_in fs) ∙ elim m [
  | inl e ↦ (let own : filter (is_in f.path) (declarations_in x) ≡ declarations_in x = filter-each (is_in f.path) (declarations_in x) (λ d n. (bytes_decides d.path f.path).1 (file-path x d n ∙ ap (λ (z : FileTree). z.path) e)) in
      let none : filter (is_in f.path) (flat_map declarations_in fs) ≡ [] = others-out f.path fs (λ g n h. less-apart x.path g.path (path-above x.path fs up.0 g n) (ap (λ (z : FileTree). z.path) e ∙ sym h)) in
      ap (λ l. filter (is_in f.path) (declarations_in x) ++ l) none ∙ append-none (filter (is_in f.path) (declarations_in x)) ∙ own ∙ ap declarations_in e)
  | inr n ↦ (let none : filter (is_in f.path) (declarations_in x) ≡ [] = filter-none (is_in f.path) (declarations_in x) (λ d k. not-in d f.path (λ h. less-apart x.path f.path (path-above x.path fs up.0 f n) (sym (file-path x d k) ∙ h))) in
      ap (λ l. l ++ filter (is_in f.path) (flat_map declarations_in fs)) none ∙ in-path fs up.1 f n)
]

declared-here : (files : List FileTree) → AreByPath files → (f : FileTree) → Among files f → (key : Key) → filter (is_in f.path) (having files key) ≡ declaring f key
unfolding having
declared-here files up f m key = filter-swap (is_in f.path) (has_key key) (flat_map declarations_in files) ∙ ap (filter (has_key key)) (in-path files up f m)

pub prints : NodesHavePrints
unfolding print_in
prints files up f among uses key asked =
    let m = meaning_in files in
    print-found m f (node_keys f) (implementation_node f.path uses) key (asked-other key.kind key.aspect key.context key.name f.path asked)
    ∙ ap (λ v. cond v (Some (node_print m f key)) None) (any-node f key)
    ∙ print-lines m f key
    ∙ ap (λ l. lines_of (map (printed key (m key)) l)) (sym (declared-here files up f among key))

-- The uses of the nodes.

map-among : {X Y : Type 0} (f : X → Y) (xs : List X) (x : X) → Among xs x → Among (map f xs) (f x)
map-among f [] x m = absurd m
map-among f (y ∷ xs) x m = elim m [ inl e ↦ inl (ap f e) | inr n ↦ inr (map-among f xs x n) ]

among-key : (key : Key) (ks : List Key) → list_any (is_key key) ks ≡ true → Among ks key
among-key key [] h = absurd cc
among-key key (k ∷ ks) h = (elim (is_key key k) as (λ v. is_key key k ≡ v → v || list_any (is_key key) ks ≡ true → Among (k ∷ ks) key) [
  | true ↦ λ e h. inl (sym (same-key key k e))
  | false ↦ λ e h. inr (among-key key ks h)
]) refl h

or-true : (a : Bool) → a || true ≡ true
or-true true = refl
or-true false = refl

any-among : (key : Key) (ks : List Key) → is_key key key ≡ true → Among ks key → list_any (is_key key) ks ≡ true
any-among key [] own m = absurd m
any-among key (k ∷ ks) own m = elim m [
  | inl e ↦ ap (λ z. is_key key z || list_any (is_key key) ks) e ∙ ap (λ b. b || list_any (is_key key) ks) own
  | inr n ↦ ap (λ b. is_key key k || b) (any-among key ks own n) ∙ or-true (is_key key k)
]

definition-use : (files : List FileTree) (f : FileTree) (key u : Key) → Among (node_uses (meaning_in files) f key) u → IsDefinitionUse files f u
unfolding node_uses
definition-use files f key u m = elim (entered-from [] (flat_map (λ d. dependencies (meaning_in files) (node_query key d)) (declaring f key)) u m) [
  | inl none ↦ absurd none
  | inr n ↦ (let r = among-flat (λ (d : Declaration). dependencies (meaning_in files) (node_query key d)) (declaring f key) u n in
      let kept = kept-from (has_key key) (declarations_in f) r.0 r.1 in
      record { declaration = r.0; declared = kept.0; key = key; has = among-key key r.0.keys kept.1; uses = r.2 })
]

node-uses : (files : List FileTree) (f : FileTree) (u : Key) → IsDefinitionUse files f u → (key : Key) × Among (node_keys f) key × Among (node_uses (meaning_in files) f key) u
unfolding node_keys node_uses
node-uses files f u r =
    let has : has_key r.key r.declaration ≡ true = any-among r.key r.declaration.keys (ap is_eq (tied_itself key_order_total r.key)) r.has in (
      r.key,
      entered-has [] (flat_map (λ d. d.keys) (declarations_in f)) r.key (flat-among (λ (d : Declaration). d.keys) (declarations_in f) r.declaration r.key r.declared r.has),
      entered-has [] (flat_map (λ d. dependencies (meaning_in files) (node_query r.key d)) (declaring f r.key)) u
          (flat-among (λ (d : Declaration). dependencies (meaning_in files) (node_query r.key d)) (declaring f r.key) r.declaration u (kept-some (has_key r.key) (declarations_in f) r.declaration r.declared has) r.uses),
    )

used : (files : List FileTree) (implementation : FileTree → List Key) (f : FileTree) (u : Key) → Among (uses_of (graph_of (meaning_in files) (implementation f) f).nodes) u → IsUse implementation files f u
used files implementation f u m =
    let m-of = meaning_in files in
    let last = implementation_node f.path (implementation f) in
    let r = among-flat (λ (node : Node). node.uses) (map (node_of m-of f) (node_keys f) ++ last ∷ []) u m in
    elim (among-append (map (node_of m-of f) (node_keys f)) (last ∷ []) r.0 r.1) [
      | inl n ↦ (let k = among-map (node_of m-of f) (node_keys f) r.0 n in inl (definition-use files f k.0 u (subst (λ (node : Node). Among node.uses u) (sym k.2) r.2)))
      | inr n ↦ elim n [ inl e ↦ inr (subst (λ (node : Node). Among node.uses u) (sym e) r.2) | inr none ↦ absurd none ]
    ]

noted : (files : List FileTree) (implementation : FileTree → List Key) (f : FileTree) (u : Key) → IsUse implementation files f u → Among (uses_of (graph_of (meaning_in files) (implementation f) f).nodes) u
noted files implementation f u use_of =
    let m-of = meaning_in files in
    let last = implementation_node f.path (implementation f) in
    let nodes = map (node_of m-of f) (node_keys f) ++ last ∷ [] in
    elim use_of [
      | inl r ↦ (let k = node-uses files f u r in
          flat-among (λ (node : Node). node.uses) nodes (node_of m-of f k.0) u (among-left (map (node_of m-of f) (node_keys f)) (last ∷ []) (node_of m-of f k.0) (map-among (node_of m-of f) (node_keys f) k.0 k.1)) k.2)
      | inr n ↦ flat-among (λ (node : Node). node.uses) nodes last u (among-right (map (node_of m-of f) (node_keys f)) (last ∷ []) last (inl refl)) n
    ]

pub uses : NodesHaveUses
uses files implementation f u = (used files implementation f u, noted files implementation f u)

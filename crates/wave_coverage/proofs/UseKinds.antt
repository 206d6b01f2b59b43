-- What the recorded nodes of a file use are keys that look-ups ask.
use Rattle.std.proofs.Common.{◌≡◌, ℕ, true, List, [], ◌∷◌, ◌++◌, map, refl, sym, ap, subst, inl, inr}
use Rattle.queries.specs.Queries.{Task, Done, Fetch, ◌>>=◌, Among}
use Rattle.checks.specs.OwnKeys.{Asked, Use, Own, uses, asks}
use Rattle.dep_key.specs.declared.key.Key.{Key}
use Rattle.dep_key.specs.declared.graph.Node.{Node}
use Rattle.dep_key.specs.declared.kind.Kind.TheVariants.{TopLevel, Nominal, PotentialMember, Member, DynamicLookup, ExternalDepend, SourceFileProvide}
use Rattle.dep_key.specs.Digests.{digested_node, digested}
use Rattle.dep_key.specs.Moved.{uses_of}
use Rattle.swift_ast.specs.declared.declarations.FileTree.{FileTree}
use Rattle.decl_index.specs.Declarations.{Item, Declaration}
use Rattle.type_rules.specs.declared.meaning.Meaning.{Meaning}
use Rattle.type_infer.specs.Readings.{Query, query_by_kind, definition_query}
use Rattle.type_infer.specs.Meanings.{meaning_in}
use Rattle.type_infer.specs.Plain.{HasPlainNames}
use Rattle.type_infer.specs.Sound.{Anything, AsksKeys, is_asked_kind}
use Rattle.type_infer.proofs.Combining.{sound-then}
use Rattle.type_infer.proofs.PlainMeanings.{meanings-plain, readings-ask}
use Rattle.iface_print.specs.Nodes.{node_by_kind, node_query}
use Rattle.iface_print.specs.Coverage.{IsDefinitionUse, IsUse}
use Rattle.iface_print.proofs.Covering.{asked-kind}
use Rattle.body_check.specs.Declarations.{file_check}
use Rattle.body_check.specs.Files.{file_uses, file_asks}
use Rattle.file_nodes.proofs.AmongLemmas.{entered-from}
use Rattle.file_nodes.proofs.NodeLemmas.{uses as node-uses}
use Rattle.file_coverage.specs.Laws.{implementation}
use Rattle.file_coverage.proofs.FileLemmas.{asked-keys}
use Rattle.module_compile.specs.Compiled.{graph_with}

asks-bind : {X Y : Type 0} (q : Query X) (f : X → Query Y) → AsksKeys q → ((x : X) → AsksKeys (f x)) → AsksKeys (q >>= f)
asks-bind q f a h = sound-then Anything Anything q f a (λ x _. h x)

-- the query of a node asks such keys alone
node-asks : (key : Key) (d : Declaration) → AsksKeys (node_query key d)
node-asks key d = (elim key.kind as (λ kind. (kind ≡ key.kind) → ((path : List ℕ) (item : Item) → AsksKeys (query_by_kind kind path key item)) → AsksKeys (node_by_kind kind key d)) [
  | TopLevel ↦ λ e asks. (ap is_asked_kind (sym e), λ own _. asks-bind (definition_query d.path key d.item) _ (asks d.path d.item) (λ _. tt))
  | Nominal ↦ λ e asks. (ap is_asked_kind (sym e), λ own _. asks-bind (definition_query d.path key d.item) _ (asks d.path d.item) (λ _. tt))
  | Member ↦ λ e asks. (ap is_asked_kind (sym e), λ own _. asks-bind (definition_query d.path key d.item) _ (asks d.path d.item) (λ _. tt))
  | PotentialMember ↦ λ e asks. (refl, λ a _. tt)
  | DynamicLookup ↦ λ e asks. (refl, λ a _. tt)
  | ExternalDepend ↦ λ e asks. (refl, λ a _. tt)
  | SourceFileProvide ↦ λ e asks. (refl, λ a _. tt)
]) refl (λ path item. readings-ask path key item)

definition-asked : (files : List FileTree) → HasPlainNames files → (f : FileTree) (u : Key) → IsDefinitionUse files f u → is_asked_kind u.kind ≡ true
definition-asked files h f u r = asked-kind (meaning_in files) (meanings-plain files h) (node_query r.key r.declaration) (node-asks r.key r.declaration) u r.uses

-- what is used is asked
uses-asked : {X : Type 0} (m : Key → Meaning) (task : Task (Asked Key) Meaning X) (u : Key) → Among (uses m task) u → Among (asks m task) u
uses-asked m (Done x) u w = absurd w
uses-asked m (Fetch (Use k) g) u w = elim w [ inl e ↦ inl e | inr n ↦ inr (uses-asked m (g (m k)) u n) ]
uses-asked m (Fetch (Own k) g) u w = inr (uses-asked m (g (m k)) u w)

implementation-asked : (files : List FileTree) → HasPlainNames files → (f : FileTree) → Among files f → (u : Key) → Among (implementation files f) u → is_asked_kind u.kind ≡ true
unfolding file_uses file_asks
implementation-asked files h f mf u w = elim (entered-from [] (uses (meaning_in files) (file_check f)) u w) [
  | inl none ↦ absurd none
  | inr n ↦ (asked-keys files h f mf u (uses-asked (meaning_in files) (file_check f) u n)).0
]

-- digests change no uses
uses-kept : (nodes : List Node) → uses_of (map digested_node nodes) ≡ uses_of nodes
uses-kept [] = refl
uses-kept (node ∷ nodes) = ap (λ l. node.uses ++ l) (uses-kept nodes)

-- What recorded nodes use is of a kind that look-ups ask.
pub asked : (files : List FileTree) → HasPlainNames files → (f : FileTree) → Among files f → (u : Key) → Among (uses_of (digested (graph_with (meaning_in files) f)).nodes) u → is_asked_kind u.kind ≡ true
asked files h f mf u w =
    let use_of : IsUse (implementation files) files f u = (node-uses files (implementation files) f u).0 (subst (λ (l : List Key). Among l u) (uses-kept (graph_with (meaning_in files) f).nodes) w) in
    elim use_of [ inl r ↦ definition-asked files h f u r | inr n ↦ implementation-asked files h f mf u n ]

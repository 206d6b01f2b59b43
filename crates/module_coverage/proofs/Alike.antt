-- A covered file has the same errors, the same texts and the same graph in both modules.
use Rattle.std.proofs.Common.{◌≡◌, ◌==◌, ℕ, Bool, true, false, List, [], ◌∷◌, ◌++◌, map, refl, ap, inl, inr}
use Rattle.std.specs.Prelude.{length, flat_map, if◌then◌else◌}
use Rattle.checks.specs.Logs.{set_of}
use Rattle.queries.specs.Queries.{Among, dependencies, value_with}
use Rattle.dep_key.specs.declared.key.Key.{Key}
use Rattle.dep_key.specs.KeyOrder.{key_order}
use Rattle.dep_key.specs.declared.graph.FileGraph.{FileGraph}
use Rattle.swift_ast.specs.declared.declarations.FileTree.{FileTree}
use Rattle.decl_index.specs.Declarations.{Declaration, declarations_in}
use Rattle.type_infer.specs.Meanings.{has_key, meaning_in}
use Rattle.type_infer.proofs.ListFacts.{kept-from}
use Rattle.type_infer.proofs.Ending.{has-among}
use Rattle.iface_print.specs.Prints.{lines_of}
use Rattle.iface_print.specs.Nodes.{node_query}
use Rattle.iface_print.specs.Coverage.{CoversChanges, NodesAgree}
use Rattle.iface_print.specs.Partials.{partial_text}
use Rattle.iface_print.proofs.Covered.{nodes as nodes-covered}
use Rattle.body_check.specs.Files.{file_errors, file_units, file_uses}
use Rattle.object_emit.specs.Objects.{object_text}
use Rattle.file_nodes.specs.Graphs.{declaring, node_keys, node_print, node_uses, node_of, implementation_node, graph_of, text_or_empty}
use Rattle.file_coverage.specs.Laws.{implementation}
use Rattle.file_coverage.proofs.FileLemmas.{unchanged-files}
use Rattle.object_coverage.proofs.TextLemmas.{unchanged-texts}
use Rattle.module_compile.specs.declared.compiled.Outcome.TheVariants.{Texts, Errors}
use Rattle.module_compile.specs.Compiled.{error_in, compiled_in}
use Rattle.module_coverage.specs.Laws.{CoveredFilesAreAlike}

map-same : {X Y : Type 0} (f g : X → Y) (xs : List X) → ((x : X) → Among xs x → f x ≡ g x) → map f xs ≡ map g xs
map-same f g [] h = refl
map-same f g (x ∷ xs) h =
    let head : f x ≡ g x = h x (inl refl) in
    let tail : map f xs ≡ map g xs = map-same f g xs (λ y m. h y (inr m)) in
    λ i. head i ∷ tail i

flat-same : {X Y : Type 0} (f g : X → List Y) (xs : List X) → ((x : X) → Among xs x → f x ≡ g x) → flat_map f xs ≡ flat_map g xs
flat-same f g [] h = refl
flat-same f g (x ∷ xs) h =
    let head : f x ≡ g x = h x (inl refl) in
    let tail : flat_map f xs ≡ flat_map g xs = flat-same f g xs (λ y m. h y (inr m)) in
    λ i. head i ++ tail i

-- the nodes of a covered file
module _ (changed : List ℕ → Bool) (p s : List FileTree) (agree : NodesAgree changed p s) (f : FileTree) (mf : Among p f) (free : changed f.path ≡ false) where
  declared-same : (key : Key) (d : Declaration) → Among (declaring f key) d →
      (value_with (meaning_in p) (node_query key d) ≡ value_with (meaning_in s) (node_query key d)) × (dependencies (meaning_in p) (node_query key d) ≡ dependencies (meaning_in s) (node_query key d))
  declared-same key d m = let kept = kept-from (has_key key) (declarations_in f) d m in agree f mf free d kept.0 key (has-among key d kept.1)

  print-same : (key : Key) → node_print (meaning_in p) f key ≡ node_print (meaning_in s) f key
  unfolding node_print
  print-same key = ap (λ l. text_or_empty (lines_of l)) (map-same (λ (d : Declaration). value_with (meaning_in p) (node_query key d)) (λ (d : Declaration). value_with (meaning_in s) (node_query key d)) (declaring f key) (λ d m. (declared-same key d m).0))

  uses-same : (key : Key) → node_uses (meaning_in p) f key ≡ node_uses (meaning_in s) f key
  unfolding node_uses
  uses-same key = ap (set_of key_order) (flat-same (λ (d : Declaration). dependencies (meaning_in p) (node_query key d)) (λ (d : Declaration). dependencies (meaning_in s) (node_query key d)) (declaring f key) (λ d m. (declared-same key d m).1))

  node-same : (key : Key) → node_of (meaning_in p) f key ≡ node_of (meaning_in s) f key
  node-same key =
      let print : node_print (meaning_in p) f key ≡ node_print (meaning_in s) f key = print-same key in
      let uses : node_uses (meaning_in p) f key ≡ node_uses (meaning_in s) f key = uses-same key in
      λ i. record { key = key; print = print i; uses = uses i }

  graph-same : (used others : List Key) → used ≡ others → graph_of (meaning_in p) used f ≡ graph_of (meaning_in s) others f
  graph-same used others uses =
      let nodes : map (node_of (meaning_in p) f) (node_keys f) ≡ map (node_of (meaning_in s) f) (node_keys f) = map-same (node_of (meaning_in p) f) (node_of (meaning_in s) f) (node_keys f) (λ key m. node-same key) in
      λ i. record { path = f.path; nodes = nodes i ++ implementation_node f.path (uses i) ∷ [] }

pub alike : CoveredFilesAreAlike
unfolding compiled_in
alike changed p s hp hs c f mf free =
    let checked = unchanged-files changed p s hp hs c f mf free in
    let texts = unchanged-texts changed p s hp hs c f mf free in
    let errors : file_errors (meaning_in p) f ≡ file_errors (meaning_in s) f = checked.errors in
    let object : object_text (meaning_in p) f.path (file_units (meaning_in p) f) ≡ object_text (meaning_in s) f.path (file_units (meaning_in s) f) = texts.object in
    let partial : partial_text (meaning_in p) f ≡ partial_text (meaning_in s) f = texts.partial in
    let graph : graph_of (meaning_in p) (file_uses (meaning_in p) f) f ≡ graph_of (meaning_in s) (file_uses (meaning_in s) f) f =
    graph-same changed p s (nodes-covered (implementation p) changed p s hp hs c) f mf free (file_uses (meaning_in p) f) (file_uses (meaning_in s) f) checked.uses in
    λ i. record {
      outcome = if (length (errors i) == 0) then Texts (record { object = object i; partial = partial i }) else Errors (map (error_in f.path) (errors i));
      graph = graph i;
    }

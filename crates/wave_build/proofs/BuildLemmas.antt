-- A build on its way, step by step, from its beginning to its end.
use Rattle.std.proofs.Common.{◌≡◌, ◌∙◌, ℕ, Bool, List, [], ◌∷◌, map, set, Option, Some, None, IfSome, option_map, refl, sym, ap, subst}
use Rattle.std.specs.List.{AllByRecursion, slice_get}
use Rattle.dep_graph.specs.Arcs.{Files, nodes_in}
use Rattle.dep_graph.specs.Moves.{node_reading}
use Rattle.dep_key.specs.Digests.{digested, digested_node}
use Rattle.dep_key.specs.GraphOrder.{AreAscending, AreInOrder, keys_of}
use Rattle.dep_key.specs.declared.graph.FileGraph.{FileGraph}
use Rattle.dep_key.specs.declared.graph.Node.{Node}
use Rattle.module_compile.proofs.CompiledLemmas.{compiled_path}
use Rattle.module_compile.specs.Compiled.{compiled_in, compiled_with}
use Rattle.module_compile.specs.declared.compiled.CompiledFile.{CompiledFile}
use Rattle.swift_ast.specs.declared.declarations.FileTree.{FileTree}
use Rattle.type_infer.specs.Meanings.{meaning_in}
use Rattle.wave_build.specs.Built.{IsUnderWay, no_result, result_of}
use Rattle.wave_build.proofs.PathLemmas.{AreByPath, map-set, some-is}
use Rattle.wave_build.proofs.RecordedLemmas.{recorded-is}
use Rattle.wave_build.proofs.StageLemmas.{finished-here, finished-others, nothing-built, taken-results}
use Rattle.wave_core.specs.Cores.{AreRemoved, Follows, Kept, Module, change_of, is_among, state_of}
use Rattle.wave_coverage.specs.Modules.{recorded_at}
use Rattle.waves.specs.Machine.{IsFinish, IsTake}

keys-stay : (nodes : List Node) → keys_of (map digested_node nodes) ≡ keys_of nodes
keys-stay [] = refl
keys-stay (node ∷ nodes) = ap (λ keys. node.key ∷ keys) (keys-stay nodes)

uses-stay : (nodes : List Node) → AllByRecursion (λ (node : Node). AreAscending node.uses) nodes → AllByRecursion (λ (node : Node). AreAscending node.uses) (map digested_node nodes)
uses-stay [] h = tt
uses-stay (node ∷ nodes) h = (h.0, uses-stay nodes h.1)

-- digests leave nodes in order
pub digested-ordered : (file : FileGraph) → AreInOrder file.nodes → AreInOrder (digested file).nodes
digested-ordered file h = (subst AreAscending (sym (keys-stay file.nodes)) h.0, uses-stay file.nodes h.1)

-- A core has begun: the recorded graph is that of the module before.
pub begun : (recorded : Files) (was now : List FileTree) (core : Kept) (removed gone first paths : List (List ℕ)) → gone ≡ removed → paths ≡ first →
    ((other : Module) → AreRemoved (nodes_in recorded) other gone → Follows (change_of (nodes_in recorded) other (is_among paths)) core) →
    ((path : List ℕ) → nodes_in recorded path ≡ recorded_at was path) → AreRemoved (recorded_at was) (recorded_at now) removed →
    Follows (change_of (recorded_at was) (recorded_at now) (is_among first)) core
begun recorded was now core removed gone first paths same_gone same_first opens same away =
    let graph : nodes_in recorded ≡ recorded_at was = (λ i path. same path i) in
    let there : AreRemoved (nodes_in recorded) (recorded_at now) gone = subst (λ (g : Module). AreRemoved g (recorded_at now) gone) (sym graph) (subst (AreRemoved (recorded_at was) (recorded_at now)) (sym same_gone) away) in
    subst (λ (g : Module). Follows (change_of g (recorded_at now) (is_among first)) core) graph
    (subst (λ ps. Follows (change_of (nodes_in recorded) (recorded_at now) (is_among ps)) core) same_first (opens (recorded_at now) there))

-- One file was taken.
pub taken-on : (trees : List FileTree) (before : Module) (first : List ℕ → Bool) (old new : Kept) (file : List ℕ) (files : List (Option CompiledFile)) → IsTake file (state_of old) (state_of new) →
    (Follows (change_of before (recorded_at trees) first) old → Follows (change_of before (recorded_at trees) first) new) → IsUnderWay trees before first old files → IsUnderWay trees before first new files
taken-on trees before first old new file files take follows way = record {
  follows = follows way.follows;
  files = way.files ∙ taken-results trees trees old new file take;
}

-- One file was finished.
finished-on : (trees : List FileTree) (n : ℕ) (tree : FileTree) (made : CompiledFile) (graph : FileGraph) (old new : Kept) → AreByPath trees → slice_get trees n ≡ Some tree →
    made ≡ compiled_in trees tree → graph ≡ digested made.graph → IsFinish node_reading graph.path (Some graph.nodes) (state_of old) (state_of new) →
    (recorded_at trees graph.path ≡ Some graph.nodes) × (map (result_of trees new) trees ≡ set (map (result_of trees old) trees) n (Some made))
finished-on trees n tree made graph old new up at is digest finish =
    let graph_is : graph ≡ digested (compiled_in trees tree).graph = digest ∙ ap (λ (c : CompiledFile). digested c.graph) is in
    let path_is : graph.path ≡ tree.path = ap (λ (g : FileGraph). g.path) graph_is ∙ compiled_path trees tree in (
      ap (recorded_at trees) path_is ∙ recorded-is trees n tree up at ∙ ap (λ (g : FileGraph). Some g.nodes) (sym graph_is),
      map-set (result_of trees old) (result_of trees new) trees n tree (Some made) up at
          (finished-here trees tree old new graph.path (Some graph.nodes) finish path_is ∙ ap Some (sym is))
          (λ t apart. finished-others trees t old new graph.path (Some graph.nodes) finish (λ e. apart (e ∙ path_is))),
    )

compiled-is : (trees meant : List FileTree) (tree : FileTree) (made : CompiledFile) → meant ≡ trees → made ≡ compiled_with (meaning_in meant) tree → made ≡ compiled_in trees tree
unfolding compiled_in
compiled-is trees meant tree made same is = is ∙ ap (λ ts. compiled_with (meaning_in ts) tree) same

-- A running file was built.
pub built-on : (trees meant : List FileTree) (n : ℕ) (made : CompiledFile) (graph : FileGraph) (old new : Kept) (files after : List (Option CompiledFile)) → meant ≡ trees → AreByPath trees →
    Some made ≡ option_map (compiled_with (meaning_in meant)) (slice_get trees n) → graph ≡ digested made.graph → IsFinish node_reading graph.path (Some graph.nodes) (state_of old) (state_of new) →
    ((before now : Module) (first : List ℕ → Bool) → now graph.path ≡ Some graph.nodes → Follows (change_of before now first) old → Follows (change_of before now first) new) →
    after ≡ set files n (Some made) → (before : Module) (first : List ℕ → Bool) → IsUnderWay trees before first old files → IsUnderWay trees before first new after
built-on trees meant n made graph old new files after same up compiled digest finish follows kept before first way =
    (elim (slice_get trees n) as (λ o. slice_get trees n ≡ o → Some made ≡ option_map (compiled_with (meaning_in meant)) o → IsUnderWay trees before first new after) [
      | None ↦ λ at is. cc
      | Some tree ↦ λ at is.
          let on : (recorded_at trees graph.path ≡ Some graph.nodes) × (map (result_of trees new) trees ≡ set (map (result_of trees old) trees) n (Some made)) =
          finished-on trees n tree made graph old new up at (compiled-is trees meant tree made same (some-is made (compiled_with (meaning_in meant) tree) is)) digest finish in
          record {
            follows = follows before (recorded_at trees) first on.0 way.follows;
            files = kept ∙ ap (λ fs. set fs n (Some made)) way.files ∙ sym on.1;
          }
    ]) refl compiled

-- One file was taken, where one was pending.
pub taken-some : (trees : List FileTree) (before : Module) (first : List ℕ → Bool) (old new : Kept) (found : Option (List ℕ)) (file : List ℕ) (files : List (Option CompiledFile)) → found ≡ Some file →
    IfSome found (λ f. IsTake f (state_of old) (state_of new)) → (Follows (change_of before (recorded_at trees) first) old → Follows (change_of before (recorded_at trees) first) new) →
    IsUnderWay trees before first old files → IsUnderWay trees before first new files
taken-some trees before first old new found file files is take = taken-on trees before first old new file files (subst (λ o. IfSome o (λ f. IsTake f (state_of old) (state_of new))) is take)

-- A build with nothing built, before anything happened.
pub set-out : (trees listed : List FileTree) (before : Module) (first : List ℕ → Bool) (core : Kept) (files : List (Option CompiledFile)) → listed ≡ trees → files ≡ map no_result listed →
    core.3 ≡ [] → Follows (change_of before (recorded_at trees) first) core → IsUnderWay trees before first core files
set-out trees listed before first core files same empty none follows = record {
  follows = follows;
  files = empty ∙ ap (map no_result) same ∙ nothing-built before (recorded_at trees) first core trees trees none follows;
}

-- A build that is under way goes on from equal values.
pub same-way : (trees : List FileTree) (before : Module) (first : List ℕ → Bool) (core seen : Kept) (files held : List (Option CompiledFile)) → core ≡ seen → files ≡ held →
    IsUnderWay trees before first seen held → IsUnderWay trees before first core files
same-way trees before first core seen files held same_core same_files way = record {
  follows = subst (Follows (change_of before (recorded_at trees) first)) (sym same_core) way.follows;
  files = same_files ∙ way.files ∙ ap (λ (k : Kept). map (result_of trees k) trees) (sym same_core);
}

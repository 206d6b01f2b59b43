-- What priors record of a file of a module whose paths ascend.
use Rattle.std.proofs.Common.{◌≡◌, ◌∙◌, ℕ, zero, suc, Bool, true, false, cond, List, [], ◌∷◌, ◌++◌, map, Option, Some, None, IsSome, is_some, refl, sym, ap, subst, is_eq, inl, inr}
use Rattle.std.specs.Prelude.{nat_eq, option_map}
use Rattle.std.specs.List.{slice_get, find}
use Rattle.std.specs.List.Sorted.{IsStrictlySortedBy}
use Rattle.std.specs.BTreeMap.{is_at}
use Rattle.std.specs.Cmp.Lexicographic.{pointwise, texts_ties}
use Rattle.std.specs.declared.cmp.Ordering.TheVariants.{Less}
use Rattle.dep_graph.specs.Arcs.{path_order}
use Rattle.dep_key.specs.Digests.{digested}
use Rattle.dep_key.specs.declared.graph.FileGraph.{FileGraph}
use Rattle.module_compile.specs.Compiled.{compiled_in, graph_with}
use Rattle.swift_ast.specs.declared.declarations.FileTree.{FileTree}
use Rattle.type_infer.specs.Meanings.{meaning_in}
use Rattle.wave_build.specs.Built.{path_of, paths_at}
use Rattle.wave_build.proofs.PathLemmas.{AreByPath, path-holds, some-is}
use Rattle.wave_core.proofs.WakingLemmas.{at-path, path-itself}
use Rattle.wave_core.specs.Cores.{is_among}
use Rattle.wave_coverage.specs.Modules.{module_change, recorded_at}
use Rattle.waves.proofs.Stages.{or-true}
use Rattle.waves.specs.Builds.{IsPlan}

-- whether the graph stands under the path
abbrev is_under : List ℕ → FileGraph → Bool
is_under path file = pointwise nat_eq file.path path

is-same : (a b : List ℕ) → a ≡ b → pointwise nat_eq a b ≡ true
is-same a b e = texts_ties a b ∙ ap (is_at (path_order a)) (sym e) ∙ path-itself a

is-other : (a b : List ℕ) → path_order a b ≡ Less → pointwise nat_eq a b ≡ false
is-other a b less = texts_ties a b ∙ ap is_eq less

-- the first graph under the path of a file is that of the file
first-is : (g : FileTree → FileGraph) → ((t : FileTree) → (g t).path ≡ t.path) → (trees : List FileTree) (n : ℕ) (tree : FileTree) → AreByPath trees → slice_get trees n ≡ Some tree →
    find (is_under tree.path) (map g trees) ≡ Some (g tree)
unfolding IsStrictlySortedBy
first-is g under [] n tree up is = cc
first-is g under (first ∷ trees) zero tree up is =
    let it : first ≡ tree = some-is first tree is in
    let same : is_under tree.path (g first) ≡ true = is-same (g first).path tree.path (under first ∙ ap (λ (t : FileTree). t.path) it) in
    ap (λ b. cond b (Some (g first)) (find (is_under tree.path) (map g trees))) same ∙ ap (λ t. Some (g t)) it
first-is g under (first ∷ trees) (suc n) tree up is =
    let less : path_order first.path tree.path ≡ Less = path-holds (λ p. path_order first.path p ≡ Less) trees n tree up.0 is in
    let other : is_under tree.path (g first) ≡ false = ap (λ p. pointwise nat_eq p tree.path) (under first) ∙ is-other first.path tree.path less in
    ap (λ b. cond b (Some (g first)) (find (is_under tree.path) (map g trees))) other ∙ first-is g under trees n tree up.1 is

twice : (g : FileTree → FileGraph) (trees : List FileTree) → map digested (map g trees) ≡ map (λ t. digested (g t)) trees
twice g [] = refl
twice g (t ∷ trees) = ap (λ gs. digested (g t) ∷ gs) (twice g trees)

graph-path : (trees : List FileTree) (tree : FileTree) → (digested (graph_with (meaning_in trees) tree)).path ≡ tree.path
graph-path trees tree = refl

compiled-graph : (trees : List FileTree) (tree : FileTree) → graph_with (meaning_in trees) tree ≡ (compiled_in trees tree).graph
unfolding compiled_in
compiled-graph trees tree = refl

-- Priors record the digested graph of a file that was compiled.
pub recorded-is : (trees : List FileTree) (n : ℕ) (tree : FileTree) → AreByPath trees → slice_get trees n ≡ Some tree → recorded_at trees tree.path ≡ Some (digested (compiled_in trees tree).graph).nodes
recorded-is trees n tree up is =
    ap (λ gs. option_map (λ (file : FileGraph). file.nodes) (find (is_under tree.path) gs)) (twice (graph_with (meaning_in trees)) trees)
    ∙ ap (option_map (λ (file : FileGraph). file.nodes)) (first-is (λ t. digested (graph_with (meaning_in trees) t)) (graph-path trees) trees n tree up is)
    ∙ ap (λ (file : FileGraph). Some (digested file).nodes) (compiled-graph trees tree)

some-recorded : {A : Type 0} (found : Option A) (a : A) → found ≡ Some a → IsSome found
some-recorded found a e = ap is_some e

-- Files of a module are files of a change to it.
pub plan-is : (was trees : List FileTree) → AreByPath trees → (numbers : List ℕ) → IsPlan (module_change was trees (is_among (paths_at trees numbers)))
plan-is was trees up numbers = record { first = file numbers }
  where
    file : (numbers : List ℕ) (path : List ℕ) → is_among (paths_at trees numbers) path ≡ true → IsSome (recorded_at trees path)
    file [] path h = cc
    file (number ∷ numbers) path h = (elim (slice_get trees number) as (λ o. slice_get trees number ≡ o → is_among (path_of o ++ paths_at trees numbers) path ≡ true → IsSome (recorded_at trees path)) [
      | None ↦ λ is among. file numbers path among
      | Some tree ↦ λ is among. elim (or-true (is_at (path_order path) tree.path) (is_among (paths_at trees numbers) path) among) [
        | inl same ↦ subst (λ p. IsSome (recorded_at trees p)) (sym (at-path path tree.path same)) (some-recorded (recorded_at trees tree.path) (digested (compiled_in trees tree).graph).nodes (recorded-is trees number tree up is))
        | inr rest ↦ file numbers path rest
      ]
    ]) refl h

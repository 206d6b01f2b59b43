-- The numbers of files by their paths.
use Rattle.std.proofs.Common.{◌≡◌, ◌≢◌, ◌∙◌, ℕ, ◌+◌, ◌<◌, ◌≤◌, IsSome, subst, arith, true, false, cond, List, [], ◌∷◌, Option, Some, refl, sym, ap}
use Rattle.std.specs.List.{slice_get}
use Rattle.std.specs.BTreeMap.{is_at}
use Rattle.dep_graph.specs.Arcs.{path_order}
use Rattle.swift_ast.specs.declared.declarations.FileTree.{FileTree}
use Rattle.wave_build.specs.Built.{AreNumbered, AreNumbers, path_of}
use Rattle.wave_build.proofs.PathLemmas.{some-is}
use Rattle.wave_core.proofs.WakingLemmas.{at-path, path-itself}

-- one file more has its number
pub numbers-more : (trees : List FileTree) (old new : List ℕ → Option ℕ) (n : ℕ) (tree : FileTree) (name : List ℕ) (number : ℕ) → slice_get trees n ≡ Some tree → name ≡ tree.path → number ≡ n →
    ((path : List ℕ) → new path ≡ cond (is_at (path_order name) path) (Some number) (old path)) → AreNumbers trees old → AreNumbers trees new
numbers-more trees old new n tree name number is named numbered updates had = record {
  at = λ path m e. (elim (is_at (path_order name) path) as (λ v. is_at (path_order name) path ≡ v → cond v (Some number) (old path) ≡ Some m → path_of (slice_get trees m) ≡ path ∷ []) [
    | true ↦ λ here found.
        let same : m ≡ n = sym (some-is number m found) ∙ numbered in
        ap (λ k. path_of (slice_get trees k)) same ∙ ap path_of is ∙ ap (λ p. p ∷ []) (sym named ∙ at-path name path here)
    | false ↦ λ here found. had.at path m found
  ]) refl (sym (updates path) ∙ e);
}

-- one file more is numbered
pub numbered-more : (trees : List FileTree) (old new : List ℕ → Option ℕ) (place : ℕ) (file : FileTree) (name : List ℕ) (number : ℕ) → slice_get trees place ≡ Some file → name ≡ file.path →
    ((path : List ℕ) → new path ≡ cond (is_at (path_order name) path) (Some number) (old path)) → AreNumbered trees old place → AreNumbered trees new (place + 1)
numbered-more trees old new place file name number found named updates had = record {
  each = λ n tree less is. subst (λ (o : Option ℕ). IsSome o) (sym (updates tree.path))
      ((elim (is_at (path_order name) tree.path) as (λ v. is_at (path_order name) tree.path ≡ v → IsSome (cond v (Some number) (old tree.path))) [
        | true ↦ λ e. refl
        | false ↦ λ e.
            let apart : n ≢ place = (λ same.
            let it : file ≡ tree = some-is file tree (sym found ∙ ap (slice_get trees) (sym same) ∙ is) in
            let bad : true ≡ false = sym (path-itself name) ∙ ap (is_at (path_order name)) (named ∙ ap (λ (t : FileTree). t.path) it) ∙ e in
            cc) in
            let below : n < place = omega arith in
            had.each n tree below is
      ]) refl);
}

-- where a longer list of the first files is numbered, each shorter one is
pub numbered-all : (trees : List FileTree) (numbers : List ℕ → Option ℕ) (count place : ℕ) → count ≤ place → AreNumbered trees numbers place → AreNumbered trees numbers count
numbered-all trees numbers count place most had = record { each = λ n tree less is. let below : n < place = omega arith in had.each n tree below is }

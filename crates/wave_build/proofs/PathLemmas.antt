-- Paths that ascend are each one's own.
use Rattle.std.proofs.Common.{◌≡◌, ◌≢◌, ℕ, zero, suc, true, false, List, [], ◌∷◌, map, set, Some, refl, sym, ap, ◌∙◌, subst, is_eq}
use Rattle.std.specs.List.{AllByRecursion, slice_get}
use Rattle.std.specs.List.Sorted.{IsStrictlySortedBy}
use Rattle.std.specs.declared.cmp.Ordering.TheVariants.{Less}
use Rattle.dep_graph.specs.Arcs.{path_order}
use Rattle.swift_ast.specs.declared.declarations.FileTree.{FileTree}
use Rattle.wave_core.proofs.WakingLemmas.{path-itself}

-- the paths of files, in their order
abbrev pub paths_of : List FileTree → List (List ℕ)
paths_of trees = map (λ (f : FileTree). f.path) trees

-- each path is below those that follow
abbrev pub AreByPath : List FileTree → Type 0
AreByPath trees = IsStrictlySortedBy path_order (paths_of trees)

pub some-is : {A : Type 0} (a b : A) → Some a ≡ Some b → a ≡ b
some-is a b e = cc

pub less-apart : (a b : List ℕ) → path_order a b ≡ Less → a ≢ b
less-apart a b less same = let bad : true ≡ false = sym (path-itself a) ∙ ap (λ p. is_eq (path_order a p)) same ∙ ap is_eq less in cc

-- what is so of all paths is so of that of a file at a place
pub path-holds : (P : List ℕ → Type 0) (trees : List FileTree) (n : ℕ) (tree : FileTree) → AllByRecursion P (paths_of trees) → slice_get trees n ≡ Some tree → P tree.path
path-holds P [] n tree all is = cc
path-holds P (first ∷ trees) zero tree all is = subst (λ (t : FileTree). P t.path) (some-is first tree is) all.0
path-holds P (first ∷ trees) (suc n) tree all is = path-holds P trees n tree all.1 is

-- two functions that agree at each file behind one whose path is below theirs
all-but-first : {Y : Type 0} (f g : FileTree → Y) (first : FileTree) (trees : List FileTree) → AllByRecursion (λ p. path_order first.path p ≡ Less) (paths_of trees) →
    ((t : FileTree) → t.path ≢ first.path → g t ≡ f t) → map g trees ≡ map f trees
all-but-first f g first [] below same = refl
all-but-first f g first (t ∷ trees) below same =
    let one : g t ≡ f t = same t (λ e. less-apart first.path t.path below.0 (sym e)) in
    let rest : map g trees ≡ map f trees = all-but-first f g first trees below.1 same in
    (λ i. one i ∷ rest i)

-- Two functions that agree at each file but one differ in what stands at its place.
pub map-set : {Y : Type 0} (f g : FileTree → Y) (trees : List FileTree) (n : ℕ) (tree : FileTree) (y : Y) → AreByPath trees → slice_get trees n ≡ Some tree → g tree ≡ y →
    ((t : FileTree) → t.path ≢ tree.path → g t ≡ f t) → map g trees ≡ set (map f trees) n y
unfolding IsStrictlySortedBy
map-set f g [] n tree y up is here same = cc
map-set f g (first ∷ trees) zero tree y up is here same =
    let it : first ≡ tree = some-is first tree is in
    let one : g first ≡ y = ap g it ∙ here in
    let rest : map g trees ≡ map f trees = all-but-first f g first trees up.0 (λ t apart. same t (λ e. apart (e ∙ ap (λ (x : FileTree). x.path) (sym it)))) in
    (λ i. one i ∷ rest i)
map-set f g (first ∷ trees) (suc n) tree y up is here same =
    let less : path_order first.path tree.path ≡ Less = path-holds (λ p. path_order first.path p ≡ Less) trees n tree up.0 is in
    let one : g first ≡ f first = same first (less-apart first.path tree.path less) in
    let rest : map g trees ≡ set (map f trees) n y = map-set f g trees n tree y up.1 is here same in
    (λ i. one i ∷ rest i)

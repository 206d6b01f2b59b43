-- What stands at a path of a module: one file, with its nodes, or none.
use Rattle.std.proofs.Common.{◌≡◌, ℕ, Bool, true, false, cond, List, [], ◌∷◌, map, Option, Some, None, refl, sym, ap, ◌∙◌, subst, inl, inr, nat_cmp}
use Rattle.std.specs.Prelude.{nat_eq, find, option_map}
use Rattle.std.specs.List.{AllByRecursion}
use Rattle.std.specs.List.Sorted.{IsStrictlySortedBy}
use Rattle.std.specs.Ordering.{ordering_reverse}
use Rattle.std.specs.Cmp.Lexicographic.{pointwise, slice_cmp, nat_list_cmp_total, bytes_decides}
use Rattle.std.specs.declared.cmp.Ordering.TheVariants.{Less}
use Rattle.queries.specs.Queries.{Among}
use Rattle.dep_key.specs.declared.graph.FileGraph.{FileGraph}
use Rattle.dep_key.specs.declared.graph.Node.{Node}
use Rattle.dep_key.specs.Digests.{digested_node, digested}
use Rattle.swift_ast.specs.declared.declarations.FileTree.{FileTree}
use Rattle.type_infer.specs.Meanings.{meaning_in}
use Rattle.file_nodes.specs.Laws.{AreByPath}
use Rattle.module_compile.specs.Compiled.{graph_with}
use Rattle.module_compile.specs.ModuleGraph.{module_graph}
use Rattle.wave_coverage.specs.Modules.{recorded_at}
use Rattle.wave_coverage.specs.Laws.{nodes_or_none, printed_at}

-- the file at a path
abbrev pub file_at : List FileTree → List ℕ → Option FileTree
file_at trees path = find (λ (f : FileTree). pointwise nat_eq f.path path) trees

-- the recorded nodes of a file
abbrev pub recorded_of : List FileTree → FileTree → List Node
recorded_of trees f = map digested_node (graph_with (meaning_in trees) f).nodes

find-map : {X Y : Type 0} (g : X → Y) (t : Y → Bool) (xs : List X) → find t (map g xs) ≡ option_map g (find (λ x. t (g x)) xs)
find-map g t [] = refl
find-map g t (x ∷ xs) = elim (t (g x)) as (λ v. cond v (Some (g x)) (find t (map g xs)) ≡ option_map g (cond v (Some x) (find (λ x. t (g x)) xs))) [ true ↦ refl | false ↦ find-map g t xs ]

abbrev has_path : List ℕ → FileGraph → Bool
has_path path file = pointwise nat_eq file.path path

pub printed : (trees : List FileTree) (path : List ℕ) → printed_at trees path ≡ nodes_or_none (option_map (graph_with (meaning_in trees)) (file_at trees path))
printed trees path = ap nodes_or_none (find-map (graph_with (meaning_in trees)) (has_path path) trees)

fused : (trees : List FileTree) (o : Option FileTree) → option_map (λ (file : FileGraph). file.nodes) (option_map digested (option_map (graph_with (meaning_in trees)) o)) ≡ option_map (recorded_of trees) o
fused trees None = refl
fused trees (Some f) = refl

pub recorded : (trees : List FileTree) (path : List ℕ) → recorded_at trees path ≡ option_map (recorded_of trees) (file_at trees path)
recorded trees path =
    ap (option_map (λ (file : FileGraph). file.nodes))
    (find-map digested (has_path path) (module_graph trees) ∙ ap (option_map digested) (find-map (graph_with (meaning_in trees)) (has_path path) trees))
    ∙ fused trees (file_at trees path)

pub found : (trees : List FileTree) (path : List ℕ) (f : FileTree) → file_at trees path ≡ Some f → Among trees f × (f.path ≡ path)
found [] path f h = absurd cc
found (x ∷ xs) path f h =
    (elim (pointwise nat_eq x.path path) as (λ v. pointwise nat_eq x.path path ≡ v → cond v (Some x) (file_at xs path) ≡ Some f → Among (x ∷ xs) f × (f.path ≡ path)) [
      | true ↦ λ e h. (let same : x ≡ f = cc in (inl same, ap (λ (z : FileTree). z.path) (sym same) ∙ (bytes_decides x.path path).0 e))
      | false ↦ λ e h. (let rest = found xs path f h in (inr rest.0, rest.1))
    ]) refl h

pub missing : (trees : List FileTree) (path : List ℕ) → file_at trees path ≡ None → (f : FileTree) → Among trees f → f.path ≡ path → ⊥
missing [] path h f m e = m
missing (x ∷ xs) path h f m e =
    (elim (pointwise nat_eq x.path path) as (λ v. pointwise nat_eq x.path path ≡ v → cond v (Some x) (file_at xs path) ≡ None → ⊥) [
      | true ↦ λ t h. absurd cc
      | false ↦ λ t h. elim m [
        | inl same ↦ (let here : pointwise nat_eq x.path path ≡ true = (bytes_decides x.path path).1 (ap (λ (z : FileTree). z.path) same ∙ e) in absurd cc)
        | inr n ↦ missing xs path h f n e
      ]
    ]) refl h

-- a path that is below those of all files is below that of each
pub path-above : (path : List ℕ) (fs : List FileTree) → AllByRecursion (λ p. slice_cmp nat_cmp path p ≡ Less) (map (λ f. f.path) fs) → (g : FileTree) → Among fs g → slice_cmp nat_cmp path g.path ≡ Less
path-above path [] all g m = absurd m
path-above path (x ∷ fs) all g m = elim m [ inl e ↦ subst (λ (z : FileTree). slice_cmp nat_cmp path z.path ≡ Less) e all.0 | inr n ↦ path-above path fs all.1 g n ]

pub less-apart : (a b : List ℕ) → slice_cmp nat_cmp a b ≡ Less → a ≡ b → ⊥
less-apart a b less same =
    let own : slice_cmp nat_cmp a a ≡ Less = ap (slice_cmp nat_cmp a) same ∙ less in
    let turned : slice_cmp nat_cmp a a ≡ ordering_reverse (slice_cmp nat_cmp a a) = nat_list_cmp_total.antisymm a a in
    absurd cc

-- A path has one file.
pub one-file : (trees : List FileTree) → AreByPath trees → (f g : FileTree) → Among trees f → Among trees g → f.path ≡ g.path → f ≡ g
unfolding IsStrictlySortedBy
one-file [] up f g m n e = absurd m
one-file (x ∷ xs) up f g m n e = elim m [
  | inl here ↦ elim n [
    | inl also ↦ sym here ∙ also
    | inr later ↦ absurd (less-apart x.path g.path (path-above x.path xs up.0 g later) (ap (λ (z : FileTree). z.path) here ∙ e))
  ]
  | inr there ↦ elim n [
    | inl here ↦ absurd (less-apart x.path f.path (path-above x.path xs up.0 f there) (ap (λ (z : FileTree). z.path) here ∙ sym e))
    | inr later ↦ one-file xs up.1 f g there later e
  ]
]

pub file-is : (trees : List FileTree) → AreByPath trees → (f : FileTree) → Among trees f → file_at trees f.path ≡ Some f
file-is trees up f m = (elim (file_at trees f.path) as (λ o. file_at trees f.path ≡ o → o ≡ Some f) [
  | None ↦ λ e. absurd (missing trees f.path e f m refl)
  | Some g ↦ λ e. (let r = found trees f.path g e in ap Some (one-file trees up g f r.0 m r.1))
]) refl

-- The recorded nodes at the path of a file.
pub recorded-is : (trees : List FileTree) → AreByPath trees → (f : FileTree) → Among trees f → recorded_at trees f.path ≡ Some (recorded_of trees f)
recorded-is trees up f m = recorded trees f.path ∙ ap (option_map (recorded_of trees)) (file-is trees up f m)

-- Outside a closed set the files of a module are the same before and now.
use Rattle.std.proofs.Common.{◌≡◌, ℕ, Bool, true, false, cond, List, [], ◌∷◌, map, Some, None, refl, sym, ap, ◌∙◌, subst, inl, inr, nat_cmp}
use Rattle.std.specs.Prelude.{not, is_some, option_map}
use Rattle.std.specs.List.{filter, AllByRecursion}
use Rattle.std.specs.List.Sorted.{IsStrictlySortedBy}
use Rattle.std.specs.Ordering.{ordering_reverse}
use Rattle.std.specs.Cmp.Lexicographic.{slice_cmp, nat_list_cmp_total}
use Rattle.std.specs.declared.cmp.Ordering.TheVariants.{Less, Greater}
use Rattle.queries.specs.Queries.{Among}
use Rattle.swift_ast.specs.declared.declarations.FileTree.{FileTree}
use Rattle.type_infer.proofs.ListFacts.{kept-from, kept-some}
use Rattle.file_nodes.specs.Laws.{AreByPath}
use Rattle.waves.specs.Builds.{IsClosed}
use Rattle.wave_coverage.specs.Modules.{module_change}
use Rattle.wave_coverage.specs.Laws.{Became}
use Rattle.wave_coverage.proofs.PathLemmas.{file_at, recorded_of, recorded, found, path-above, less-apart, one-file}

-- ---- lists of files that ascend by path

above-kept : (t : FileTree → Bool) (path : List ℕ) (fs : List FileTree) → AllByRecursion (λ p. slice_cmp nat_cmp path p ≡ Less) (map (λ f. f.path) fs) →
    AllByRecursion (λ p. slice_cmp nat_cmp path p ≡ Less) (map (λ f. f.path) (filter t fs))
above-kept t path [] all = tt
above-kept t path (x ∷ xs) all = elim (t x) as (λ v. AllByRecursion (λ p. slice_cmp nat_cmp path p ≡ Less) (map (λ f. f.path) (cond v (x ∷ filter t xs) (filter t xs)))) [
  | true ↦ (all.0, above-kept t path xs all.1)
  | false ↦ above-kept t path xs all.1
]

kept-ascends : (t : FileTree → Bool) (fs : List FileTree) → AreByPath fs → AreByPath (filter t fs)
unfolding IsStrictlySortedBy
kept-ascends t [] up = tt
kept-ascends t (x ∷ xs) up = elim (t x) as (λ v. AreByPath (cond v (x ∷ filter t xs) (filter t xs))) [
  | true ↦ (above-kept t x.path xs up.0, kept-ascends t xs up.1)
  | false ↦ kept-ascends t xs up.1
]

never-both : (x y : List ℕ) → slice_cmp nat_cmp y x ≡ Less → slice_cmp nat_cmp x y ≡ Less → ⊥
never-both x y e f = let more : slice_cmp nat_cmp y x ≡ Greater = nat_list_cmp_total.antisymm y x ∙ ap ordering_reverse f in let same : Less ≡ Greater = sym e ∙ more in cc

-- each of the files has a higher path
abbrev AreAbove : FileTree → List FileTree → Type 0
AreAbove x xs = AllByRecursion (λ p. slice_cmp nat_cmp x.path p ≡ Less) (map (λ f. f.path) xs)

first-is : (x y : FileTree) (xs ys : List FileTree) → AreAbove x xs → AreAbove y ys → Among (y ∷ ys) x → Among (x ∷ xs) y → x ≡ y
first-is x y xs ys up rise m n = elim m [
  | inl e ↦ sym e
  | inr later ↦ elim n [
    | inl e ↦ e
    | inr also ↦ absurd (never-both x.path y.path (path-above y.path ys rise x later) (path-above x.path xs up y also))
  ]
]

rest-in : (z x y : FileTree) (xs ys : List FileTree) → AreAbove x xs → x ≡ y → Among xs z → Among (y ∷ ys) z → Among ys z
rest-in z x y xs ys up same m n = elim n [
  | inl e ↦ absurd (less-apart x.path z.path (path-above x.path xs up z m) (ap (λ (f : FileTree). f.path) (same ∙ e)))
  | inr later ↦ later
]

-- Lists that ascend by path and have the same files are one.
same-files : (xs ys : List FileTree) → AreByPath xs → AreByPath ys → ((z : FileTree) → Among xs z → Among ys z) → ((z : FileTree) → Among ys z → Among xs z) → xs ≡ ys
unfolding IsStrictlySortedBy
same-files [] [] up rise to back = refl
same-files [] (y ∷ ys) up rise to back = absurd (back y (inl refl))
same-files (x ∷ xs) [] up rise to back = absurd (to x (inl refl))
same-files (x ∷ xs) (y ∷ ys) up rise to back =
    let first : x ≡ y = first-is x y xs ys up.0 rise.0 (to x (inl refl)) (back y (inl refl)) in
    let rest : xs ≡ ys = same-files xs ys up.1 rise.1
    (λ z m. rest-in z x y xs ys up.0 first m (to z (inr m)))
    (λ z m. rest-in z y x ys xs rise.0 (sym first) m (back z (inr m))) in
    λ i. first i ∷ rest i

-- ---- files outside a closed set

from-not : (b : Bool) → not b ≡ true → b ≡ false
from-not true h = absurd cc
from-not false h = refl

module _ (was now : List FileTree) (first : List ℕ → Bool) (became : Became was now first) (set : List ℕ → Bool) (closed : IsClosed (module_change was now first) set) where
  not-first : (path : List ℕ) → set path ≡ false → first path ≡ false
  not-first path free = (elim (first path) as (λ v. first path ≡ v → v ≡ false) [
    | true ↦ λ e. absurd (let one : set path ≡ true = closed.first path e in cc)
    | false ↦ λ e. refl
  ]) refl

  -- a file of now stood there before
  pub stood : (f : FileTree) → Among now f → set f.path ≡ false → Among was f
  stood f m free = became.unchanged f m (not-first f.path free)

  -- a path outside has a file now
  pub has-file : (path : List ℕ) → set path ≡ false → (f : FileTree) × Among now f × (f.path ≡ path)
  has-file path free = (elim (file_at now path) as (λ o. file_at now path ≡ o → (f : FileTree) × Among now f × (f.path ≡ path)) [
    | None ↦ λ e. absurd (let one : set path ≡ true = closed.others path (ap is_some (recorded now path ∙ ap (option_map (recorded_of now)) e)) in cc)
    | Some f ↦ λ e. (let r = found now path f e in (f, r.0, r.1))
  ]) refl

  -- and a file of before stands there now
  pub stands : (f : FileTree) → Among was f → set f.path ≡ false → Among now f
  stands f m free =
      let r = has-file f.path free in
      let before : Among was r.0 = stood r.0 r.1 (ap set r.2 ∙ free) in
      subst (λ (g : FileTree). Among now g) (one-file was became.ascending_before r.0 f before m r.2) r.1

  pub same-outside : filter (λ (f : FileTree). not (set f.path)) was ≡ filter (λ (f : FileTree). not (set f.path)) now
  same-outside =
      let outside = λ (f : FileTree). not (set f.path) in
      same-files (filter outside was) (filter outside now) (kept-ascends outside was became.ascending_before) (kept-ascends outside now became.ascending_now)
      (λ z m. (let kept = kept-from outside was z m in kept-some outside now z (stands z kept.0 (from-not (set z.path) kept.1)) kept.1))
      (λ z m. (let kept = kept-from outside now z m in kept-some outside was z (stood z kept.0 (from-not (set z.path) kept.1)) kept.1))

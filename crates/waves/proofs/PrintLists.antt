-- The lists of (file, print) of a key, compared file by file.
use Rattle.std.proofs.Common.{◌≡◌, ◌↔◌, true, false, List, [], ◌∷◌, ◌++◌, Option, Some, None, is_some, refl, ap, sym, subst, inl, inr}
use Rattle.waves.specs.Builds.{Among, IsOnce, Reading, Graph, print_in, HaveSamePrints, one_print, prints_of, Lists}
use Rattle.waves.proofs.Stages.{is-none}

first-among : {F N K V : Type 0} (r : Reading N K V) (fs : List F) (g : Graph F N) (k : K) (f : F) (v : V) (rest : List (F × V)) → prints_of r fs g k ≡ (f, v) ∷ rest → Among fs f
first-among r [] g k f v rest e = cc
first-among {F} {N} {K} {V} r (x ∷ xs) g k f v rest e =
    (elim (print_in r (g x) k) as (λ o. one_print x o ++ prints_of r xs g k ≡ (f, v) ∷ rest → Among (x ∷ xs) f) [
      | None ↦ λ e. inr (first-among r xs g k f v rest e)
      | Some w ↦ λ e. inl (let both : ◌≡◌ {A = F × V} (x, w) (f, v) = cc in ap (λ (p : F × V). p.0) both)
    ]) e

both-parts : {F N K V : Type 0} (r : Reading N K V) (x : F) (xs : List F) (g h : Graph F N) (k : K) → (Among xs x → ⊥) → (o p : Option V) →
    one_print x o ++ prints_of r xs g k ≡ one_print x p ++ prints_of r xs h k → (o ≡ p) × (prints_of r xs g k ≡ prints_of r xs h k)
both-parts r x xs g h k once None None e = (refl, e)
both-parts r x xs g h k once None (Some w) e = absurd (once (first-among r xs g k x w _ e))
both-parts r x xs g h k once (Some v) None e = absurd (once (first-among r xs h k x v _ (sym e)))
both-parts {F} {N} {K} {V} r x xs g h k once (Some v) (Some w) e =
    let here : ◌≡◌ {A = F × V} (x, v) (x, w) = cc in
    (ap (λ (p : F × V). Some p.1) here, cc)

lists-by-file : {F N K V : Type 0} (r : Reading N K V) (fs : List F) → IsOnce fs → (g h : Graph F N) (k : K) → prints_of r fs g k ≡ prints_of r fs h k →
    (f : F) → Among fs f → print_in r (g f) k ≡ print_in r (h f) k
lists-by-file r [] once g h k e f m = absurd m
lists-by-file {F} {N} {K} {V} r (x ∷ xs) once g h k e f m =
    let both : (print_in r (g x) k ≡ print_in r (h x) k) × (prints_of r xs g k ≡ prints_of r xs h k) = both-parts r x xs g h k once.0 _ _ e in
    elim m [ inl here ↦ subst (λ y. print_in r (g y) k ≡ print_in r (h y) k) here both.0 | inr m ↦ lists-by-file r xs once.1 g h k both.1 f m ]

files-to-lists : {F N K V : Type 0} (r : Reading N K V) (fs : List F) (g h : Graph F N) (k : K) → HaveSamePrints r g h k → prints_of r fs g k ≡ prints_of r fs h k
files-to-lists r [] g h k same = refl
files-to-lists r (x ∷ xs) g h k same = rw (same.at x) (ap (λ rest. one_print x (print_in r (h x) k) ++ rest) (files-to-lists r xs g h k same))

pub lists-equal : {F N K V : Type 0} (r : Reading N K V) (files : List F) → IsOnce files → (g h : Graph F N) → Lists files g → Lists files h → (k : K) →
    (prints_of r files g k ≡ prints_of r files h k) ↔ HaveSamePrints r g h k
lists-equal r files once g h in_g in_h k = (
  λ e. record {
    at = λ f. (elim (is_some (g f)) as (λ b. is_some (g f) ≡ b → print_in r (g f) k ≡ print_in r (h f) k) [
      | true ↦ λ here. lists-by-file r files once g h k e f (in_g.at f here)
      | false ↦ λ none. (elim (is_some (h f)) as (λ b. is_some (h f) ≡ b → print_in r (g f) k ≡ print_in r (h f) k) [
        | true ↦ λ here. lists-by-file r files once g h k e f (in_h.at f here)
        | false ↦ λ none_either. rw (is-none (g f) none, is-none (h f) none_either) refl
      ]) refl
    ]) refl;
  },
  λ same. files-to-lists r files g h k same,
)

-- What stands at a path, where files are taken from the end of a list.
use Rattle.std.proofs.Common.{◌≡◌, ◌≢◌, ◌∙◌, ◌++◌, ℕ, Bool, true, false, cond, List, [], ◌∷◌, Option, Some, None, nat_eq, refl, sym, ap}
use Rattle.std.specs.Prelude.{find, option_map}
use Rattle.std.specs.List.{AllByRecursion}
use Rattle.std.specs.Cmp.{eq_by_cmp_equiv}
use Rattle.std.specs.Cmp.Lexicographic.{pointwise, texts_ties, nat_list_cmp_total}
use Rattle.dep_key.specs.declared.graph.Node.{Node}
use Rattle.dep_graph.specs.Arcs.{Files, nodes_in}
use Rattle.ordered_lists.proofs.AmongLemmas.{same_symbol}

-- the first, where there is one, and else the second
abbrev pub or_else : {A : Type 0} → Option A → Option A → Option A
or_else None other = other
or_else (Some a) other = Some a

module _ {A B : Type 0} (f : A → B) (test : A → Bool) where
  -- One element less in the list, and one more behind it.
  map-last : (xs : List A) (x : A) (behind : Option B) → or_else (option_map f (find test (xs ++ x ∷ []))) behind ≡ or_else (option_map f (find test xs)) (cond (test x) (Some (f x)) behind)
  map-last [] x behind = (elim (test x) as (λ b. or_else (option_map f (cond b (Some x) None)) behind ≡ cond b (Some (f x)) behind) [ true ↦ refl | false ↦ refl ])
  map-last (y ∷ xs) x behind = (elim (test y) as (λ b. or_else (option_map f (cond b (Some y) (find test (xs ++ x ∷ [])))) behind ≡ or_else (option_map f (cond b (Some y) (find test xs))) (cond (test x) (Some (f x)) behind)) [ true ↦ refl | false ↦ map-last xs x behind ])

  pub map_back : (xs whole : List A) (x : A) (behind now all : Option B) → whole ≡ xs ++ x ∷ [] → now ≡ cond (test x) (Some (f x)) behind → or_else (option_map f (find test whole)) behind ≡ all → or_else (option_map f (find test xs)) now ≡ all
  map_back xs whole x behind now all split entered before = ap (or_else (option_map f (find test xs))) entered ∙ sym (map-last xs x behind) ∙ ap (λ ys. or_else (option_map f (find test ys)) behind) (sym split) ∙ before

module _ {A : Type 0} (test : A → Bool) where
  find-last : (xs : List A) (x : A) (behind : Option A) → or_else (find test (xs ++ x ∷ [])) behind ≡ or_else (find test xs) (cond (test x) (Some x) behind)
  find-last [] x behind = (elim (test x) as (λ b. or_else (cond b (Some x) None) behind ≡ cond b (Some x) behind) [ true ↦ refl | false ↦ refl ])
  find-last (y ∷ xs) x behind = (elim (test y) as (λ b. or_else (cond b (Some y) (find test (xs ++ x ∷ []))) behind ≡ or_else (cond b (Some y) (find test xs)) (cond (test x) (Some x) behind)) [ true ↦ refl | false ↦ find-last xs x behind ])

  pub find_back : (xs whole : List A) (x : A) (behind now all : Option A) → whole ≡ xs ++ x ∷ [] → now ≡ cond (test x) (Some x) behind → or_else (find test whole) behind ≡ all → or_else (find test xs) now ≡ all
  find_back xs whole x behind now all split entered before = ap (or_else (find test xs)) entered ∙ sym (find-last xs x behind) ∙ ap (λ ys. or_else (find test ys) behind) (sym split) ∙ before

pub all_last : {A : Type 0} (P : A → Type 0) (xs : List A) (x : A) → AllByRecursion P (xs ++ x ∷ []) → AllByRecursion P xs × P x
all_last P [] x h = (tt, h.0)
all_last P (y ∷ xs) x h = let rest = all_last P xs x h.1 in ((h.0, rest.0), rest.1)

same_path : (path : List ℕ) → pointwise nat_eq path path ≡ true
same_path path = texts_ties path path ∙ (eq_by_cmp_equiv nat_list_cmp_total).refl path

-- A graph has the new nodes at their path, and its old ones at the others.
pub nodes_entered : (q path : List ℕ) (new old : Files) (nodes : List Node) → nodes_in new path ≡ Some nodes → ((f : List ℕ) → f ≢ path → nodes_in new f ≡ nodes_in old f) → nodes_in new q ≡ cond (pointwise nat_eq path q) (Some nodes) (nodes_in old q)
nodes_entered q path new old nodes here others = (elim (pointwise nat_eq path q) as (λ b. pointwise nat_eq path q ≡ b → nodes_in new q ≡ cond b (Some nodes) (nodes_in old q)) [
  | true ↦ λ e. ap (nodes_in new) (sym (same_symbol path q e)) ∙ here
  | false ↦ λ e. others q (λ is. let same : pointwise nat_eq path q ≡ true = ap (pointwise nat_eq path) is ∙ same_path path in cc)
]) refl

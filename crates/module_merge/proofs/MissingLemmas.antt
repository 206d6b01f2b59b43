-- The least of some symbols, and the symbols that are used and not defined.
use Rattle.std.proofs.Common.{◌≡◌, ◌≢◌, ◌∙◌, ◌&&◌, ◌++◌, ℕ, Bool, true, false, not, cond, List, [], ◌∷◌, Option, Some, None, refl, sym, subst, nat_cmp}
use Rattle.std.specs.Ordering.{is_le, ordering_reverse}
use Rattle.std.specs.Cmp.Lexicographic.{slice_cmp, nat_list_cmp_total}
use Rattle.std.specs.declared.cmp.Ordering.{Ordering}
use Rattle.std.specs.declared.cmp.Ordering.TheVariants.{Less, Equal, Greater}
use Rattle.module_merge.specs.Image.{undefined, lesser, IsLeastOf, IsMissing, all_defined, all_used}
use Rattle.module_merge.specs.Ends.{IsFirstMissing}
use Rattle.ordered_lists.specs.Among.{is_among}
use Rattle.ordered_lists.proofs.AmongLemmas.{not_below_itself, among_last, among_more, by_place, among_filter}

abbrev order : List ℕ → List ℕ → Ordering
order = slice_cmp nat_cmp

order_back : (x y : List ℕ) → order x y ≡ ordering_reverse (order y x)
order_back x y = nat_list_cmp_total.antisymm x y

le_back : (r : Ordering) → is_le r ≡ true → ordering_reverse r ≢ Less
le_back Less e f = cc
le_back Equal e f = cc
le_back Greater e f = cc

gt_back : (r : Ordering) → is_le r ≡ false → ordering_reverse r ≡ Less
gt_back Less e = cc
gt_back Equal e = cc
gt_back Greater e = refl

with_first : (xs : List (List ℕ)) (x : List ℕ) → IsLeastOf xs None → IsLeastOf (xs ++ x ∷ []) (Some x)
with_first xs x h = (among_last xs x, λ q r. by_place xs x q r (λ e. absurd (let none = h q in cc)) (λ e. subst (λ s. order s x ≢ Less) e (not_below_itself x)))

with_upper : (xs : List (List ℕ)) (x y : List ℕ) → IsLeastOf xs (Some y) → is_le (order y x) ≡ true → IsLeastOf (xs ++ x ∷ []) (Some y)
with_upper xs x y h e = (among_more xs x y h.0, λ q r. by_place xs x q r (h.1 q) (λ s. subst (λ s. order s y ≢ Less) s (λ f. le_back (order y x) e (sym (order_back x y) ∙ f))))

with_lower : (xs : List (List ℕ)) (x y : List ℕ) → IsLeastOf xs (Some y) → is_le (order y x) ≡ false → IsLeastOf (xs ++ x ∷ []) (Some x)
with_lower xs x y h e =
    let lower : order x y ≡ Less = order_back x y ∙ gt_back (order y x) e in
    (among_last xs x, λ q r. by_place xs x q r (λ a f. h.1 q a (nat_list_cmp_total.trans q x y f lower)) (λ s. subst (λ s. order s x ≢ Less) s (not_below_itself x)))

pub least_with : (xs : List (List ℕ)) (x : List ℕ) (least : Option (List ℕ)) → IsLeastOf xs least → IsLeastOf (xs ++ x ∷ []) (lesser x least)
least_with xs x None h = with_first xs x h
least_with xs x (Some y) h = elim (is_le (order y x)) as (λ b. is_le (order y x) ≡ b → IsLeastOf (xs ++ x ∷ []) (cond b (Some y) (Some x))) [
  | true ↦ λ e. with_upper xs x y h e
  | false ↦ λ e. with_lower xs x y h e
] refl

missing_parts : (d u : Bool) → not d && u ≡ true → (u ≡ true) × (d ≡ false)
missing_parts true u e = cc
missing_parts false u e = (e, refl)

missing_whole : (d u : Bool) → u ≡ true → d ≡ false → not d && u ≡ true
missing_whole true u e f = cc
missing_whole false u e f = e

among_undefined : (objects : List (List ℕ)) (symbol : List ℕ) → IsMissing objects symbol → is_among (undefined (all_defined objects) (all_used objects)) symbol ≡ true
among_undefined objects symbol h = among_filter (λ s. not (is_among (all_defined objects) s)) symbol (all_used objects) ∙ missing_whole _ _ h.0 h.1

undefined_is : (objects : List (List ℕ)) (symbol : List ℕ) → is_among (undefined (all_defined objects) (all_used objects)) symbol ≡ true → IsMissing objects symbol
undefined_is objects symbol h = missing_parts _ _ (sym (among_filter (λ s. not (is_among (all_defined objects) s)) symbol (all_used objects)) ∙ h)

pub first_missing : (objects : List (List ℕ)) (found : Option (List ℕ)) → IsLeastOf (undefined (all_defined objects) (all_used objects)) found → IsFirstMissing objects found
first_missing objects None h = λ symbol m. let some = among_undefined objects symbol m in let none = h symbol in cc
first_missing objects (Some symbol) h = (undefined_is objects symbol h.0, λ other m. h.1 other (among_undefined objects other m))

-- One text more in a set.
use Rattle.std.proofs.Common.{◌≡◌, ◌∙◌, ◌||◌, ℕ, Bool, true, false, cond, List, nat_eq, refl, sym, ap}
use Rattle.std.specs.BTreeMap.{is_at}
use Rattle.std.specs.Cmp.Lexicographic.{pointwise, texts_ties}
use Rattle.dep_graph.specs.Arcs.{path_order}

-- one more among those that are known, and one fewer among those that are left
one_more_known : (at known left : Bool) → cond at true known || left ≡ known || (at || left)
one_more_known true true left = refl
one_more_known true false left = refl
one_more_known false true left = refl
one_more_known false false left = refl

-- A text enters a set that was among those that were left.
pub enters_set : (q text copy : List ℕ) (known now left rest all : Bool) → copy ≡ text → now ≡ cond (is_at (path_order copy) q) true known → left ≡ pointwise nat_eq text q || rest → known || left ≡ all → now || rest ≡ all
enters_set q text copy known now left rest all copied entered split before =
    let tested : is_at (path_order copy) q ≡ pointwise nat_eq text q = ap (λ k. is_at (path_order k) q) copied ∙ sym (texts_ties text q) in
    ap (λ b. b || rest) (entered ∙ ap (λ b. cond b true known) tested) ∙ one_more_known (pointwise nat_eq text q) known rest ∙ ap (λ b. known || b) (sym split) ∙ before

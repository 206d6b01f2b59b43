use Rattle.std.proofs.Common.{◌≡◌, ◌∙◌, subst, sym, nat_cmp}
use Rattle.std.specs.Prelude.{option_copied}
use Rattle.std.specs.Cmp.Lexicographic.{slice_cmp}
use Rattle.ordered_lists.specs.Repeats.{IsLeastRepeat}
use Rattle.module_merge.specs.Image.{all_defined}
use Rattle.module_merge.proofs.linking.twice.Goals as goal

pub returns : goal.returns
returns c =
    let objects = c.args.objects.now in
    let defined : c.deref.result.now ≡ all_defined objects = c.deref.ensures.value ∙ c.in_ok-defined.ensures in
    subst (IsLeastRepeat (slice_cmp nat_cmp) (all_defined objects)) (sym c.in_ok-symbol.ensures)
    (subst (λ ss. IsLeastRepeat (slice_cmp nat_cmp) ss (option_copied c.in_ok-least_repeat.field-0)) defined c.in_ok-least_repeat.ensures)

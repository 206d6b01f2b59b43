use Rattle.std.proofs.Common.{◌≡◌, ◌∙◌, subst, sym}
use Rattle.module_merge.specs.Image.{IsLeastOf, undefined, all_defined, all_used}
use Rattle.module_merge.proofs.MissingLemmas.{first_missing}
use Rattle.module_merge.proofs.linking.missing.Goals as goal

pub returns : goal.returns
returns c =
    let objects = c.args.objects.now in
    let defined : c.deref-2.result.now ≡ all_defined objects = c.deref-2.ensures.value ∙ c.in_ok-defined.ensures in
    let used : c.deref.result.now ≡ all_used objects = c.deref.ensures.value ∙ c.in_ok-used.ensures in
    let left : c.deref-3.result.now ≡ undefined (all_defined objects) (all_used objects) = c.deref-3.ensures.value ∙ c.in_ok-left.ensures ∙ λ i. undefined (defined i) (used i) in
    first_missing objects c.in_ok-symbol.symbol (subst (λ ss. IsLeastOf ss c.in_ok-symbol.symbol) left (subst (IsLeastOf c.deref-3.result.now) (sym c.in_ok-symbol.ensures) c.least_of.ensures))

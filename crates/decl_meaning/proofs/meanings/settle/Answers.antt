use Rattle.std.proofs.Common.{ap, subst, ◌∙◌}
use Rattle.std.specs.BTreeMap.{get}
use Rattle.dep_key.specs.KeyOrder.{key_order}
use Rattle.type_infer.specs.Meanings.{module_keys}
use Rattle.decl_meaning.specs.Settled.{AreAnswered}
use Rattle.decl_meaning.proofs.SettleLemmas.{settled}
use Rattle.decl_meaning.proofs.meanings.settle.Goals as goal

pub invariant_of-result : goal.invariant_of-result
invariant_of-result c =
    settled c.args.index.now _ (subst (AreAnswered c.args.index.now (get key_order c.answer_all.new.memo)) (c.as_slice.ensures.value ∙ c.in_ok-keys.ensures ∙ ap module_keys c.files.ensures.files) c.in_ok-answer_all.ensures.answered)

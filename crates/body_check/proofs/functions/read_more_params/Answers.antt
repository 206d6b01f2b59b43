use Rattle.std.proofs.Common.{sym, ◌∙◌}
use Rattle.body_check.proofs.FunctionLemmas.{params_turn}
use Rattle.body_check.proofs.functions.read_more_params.Goals as goal

pub loop-param-preserved : goal.loop-param-preserved
loop-param-preserved g c =
    sym (params_turn (g.A.Answers.meanings c.args.answers.now) _ _ _ _ _ _ _ c.loop-param-test.true c.param-item.is c.in_ok-read_param.ensures) ∙ c.loop-param.invariant

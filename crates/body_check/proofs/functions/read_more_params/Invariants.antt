use Rattle.std.proofs.Common.{◌≡◌, map, drop}
use Rattle.checks.specs.Logs.{made}
use Rattle.expr_check.specs.Messages.{orders}
use Rattle.body_check.specs.Declarations.{params_read}
use Rattle.body_check.proofs.functions.read_more_params.Given as goal

abbrev pub invariant-loop-param : goal.invariant-loop-param
invariant-loop-param g l =
    let meanings = g.A.Answers.meanings l.answers in
    made orders meanings (params_read (map (λ p. p.1) (drop l.param-index l.params)) l.scope) l.log
    ≡ made orders meanings (params_read (map (λ p. p.1) l.params) l.fn.scope) l.fn.log

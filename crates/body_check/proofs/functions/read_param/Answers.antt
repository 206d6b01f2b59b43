use Rattle.std.proofs.Common.{rules, ◌≡◌, false}
use Rattle.expr_check.specs.Scopes.{declaring}
use Rattle.body_check.proofs.FunctionLemmas.{param_made}
use Rattle.body_check.proofs.functions.read_param.Goals as goal

pub returns : goal.returns
returns g c =
    let declared : c.declare.new.scope ≡ declaring c.args.scope.now c.args.param.now.name.text c.in_ok-ty.ty false = search rules in
    param_made (g.A.Answers.meanings c.args.answers.now) c.args.param.now c.args.scope.now c.declare.new.scope c.in_ok-ty.ty c.in_ok-not_declared.field-0
    c.args.log.now c.type_written.new.log c.not_declared.new.log c.in_ok-ty.ensures c.in_ok-not_declared.ensures declared

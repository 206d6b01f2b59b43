use Rattle.std.proofs.Common.{ap, ◌∙◌}
use Rattle.body_check.specs.Declarations as spec
use Rattle.body_check.proofs.FunctionLemmas.{function_made}
use Rattle.body_check.proofs.functions.read_function.Goals as goal

pub returns : goal.returns
returns g c =
    function_made (g.A.Answers.meanings c.args.answers.now) c.args.scope.now c.open_function.new.scope c.read_params.new.scope c.read_block.new.scope c.args.symbol c.args.name.now (spec.params_of c.args.params.now) c.args.body.now c.args.gives
    c.in_ok-receiver.receiver c.in_ok-count.count c.in_ok-code.code c.falls_through-falls.result c.in_ok-types.types c.in_ok-units.units c.args.log.now c.read_params.new.log c.read_block.new.log c.check_end.new.log
    c.in_ok-open_function.ensures c.in_ok-read_params.ensures c.in_ok-code.ensures.reads c.falls_through-falls.ensures c.in_ok-check_end.ensures (c.in_ok-types.ensures ∙ ap spec.all_there c.as_slice.ensures) c.in_ok-receiver.ensures c.in_ok-count.ensures c.in_ok-units.ensures

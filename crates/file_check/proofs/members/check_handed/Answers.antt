use Rattle.std.proofs.Common.{◌∙◌, Some, ap, sym}
use Rattle.checks.specs.Logs.{made}
use Rattle.expr_check.specs.Messages.{orders}
use Rattle.expr_check.specs.Types.{type_written}
use Rattle.body_check.specs.Declarations.{handed_in}
use Rattle.file_check.proofs.MemberLemmas.{handed_run}
use Rattle.file_check.proofs.members.check_handed.Goals as goal

pub returns : goal.returns
returns g c =
    let meanings = g.A.Answers.meanings c.args.answers.now in
    let f = c.args.site.now in
    let t = c.args.t.now in
    ap (λ i. (Some i, c.type_written.new.log)) c.handed_in.ensures
    ∙ ap (λ m. (Some (handed_in m.0), m.1)) (c.in_ok-of.ensures ∙ ap (λ s. made orders meanings (type_written s t) c.args.log.now) c.in_ok-scope.ensures)
    ∙ sym (handed_run meanings f t c.args.log.now)

use Rattle.std.proofs.Common.{rules, ◌≡◌, ap, ◌∙◌}
use Rattle.checks.specs.Logs.{made}
use Rattle.expr_check.specs.Messages.{orders}
use Rattle.expr_check.specs.Scopes.{declaring}
use Rattle.expr_check.specs.Phrases.{expr_phrase}
use Rattle.body_check.specs.Statements as spec
use Rattle.body_check.proofs.LocalLemmas.{local_made}
use Rattle.body_check.proofs.locals.read_local.Goals as goal

pub returns-clause-reads : goal.returns-clause-reads
returns-clause-reads g c =
    let meanings = g.A.Answers.meanings c.args.answers.now in
    let declared : c.declare.new.scope ≡ declaring c.args.scope.now c.args.name.now.text c.in_ok-ty.ty c.args.mutable = search rules in
    let coded = c.in_ok-code.ensures ∙ ap (λ first. made orders meanings (spec.set_local c.args.scope.now c.args.name.now first c.in_ok-wanted.wanted c.in_ok-found.found) c.check_expression.new.log) c.first_place-first.ensures in
    local_made meanings c.args.mutable c.args.name.now c.args.annotation.now (expr_phrase c.args.value.now) c.args.scope.now c.declare.new.scope c.in_ok-wanted.wanted c.in_ok-found.found c.in_ok-ty.ty c.in_ok-code.code
    c.args.log.now c.annotated.new.log c.check_expression.new.log c.set_local.new.log c.in_ok-wanted.ensures c.in_ok-found.ensures coded c.in_ok-ty.ensures declared

use Rattle.std.proofs.Common.{Some, sym, subst}
use Rattle.grammar.specs.Faults.{Parsed}
use Rattle.swift_ast.specs.Tests.{on, is_cmp_operator}
use Rattle.swift_ast.specs.Expressions.{cmp_operator_form, cmp_form, sum_form}
use Rattle.swift_ast.proofs.ExpressionShows.{cmp_made}
use Rattle.swift_ast.proofs.ExpressionExits as exits
use Rattle.swift_parser.proofs.Exits.{passes, took, untaken}
use Rattle.swift_parser.proofs.expressions.Grammar.cmp_behind.Goals as goal

pub returns-in_err-left-clause-reads : goal.returns-in_err-left-clause-reads
returns-in_err-left-clause-reads g c = λ old t.
    passes sum_form cmp_form c.from_residual.result c.in_err-left.field-0.0 old c.sum_behind.new.tokens old c.sum_behind.new.tokens c.from_residual.ensures.1 (c.in_err-left.ensures.reads old t) (λ r. exits.cmp_first r)

pub returns-in_err-operand-clause-reads : goal.returns-in_err-operand-clause-reads
returns-in_err-operand-clause-reads g c = λ old t.
    let u = took (on is_cmp_operator) cmp_operator_form c.in_ok-operator.field-0 c.in-Some.operator c.sum_behind.new.tokens c.cmp_operator.new.tokens c.in_ok-operator.ensures.takes c.in-Some.is in
    passes sum_form cmp_form c.from_residual-in_err-operand.result c.in_err-operand.field-0.0 c.cmp_operator.new.tokens c.sum.new.tokens old c.sum.new.tokens c.from_residual-in_err-operand.ensures.1 c.in_err-operand.ensures.reads
    (λ r. exits.cmp_later (c.in_ok-left.ensures.reads old t) u r)

pub returns-in_default-clause-reads : goal.returns-in_default-clause-reads
returns-in_default-clause-reads g c = λ old t.
    let e = untaken (on is_cmp_operator) cmp_operator_form c.in_ok-operator.field-0 c.sum_behind.new.tokens c.cmp_operator.new.tokens c.in_ok-operator.ensures.takes c.in_default.is in
    exits.cmp_alone (subst (λ ts. Parsed sum_form c.in_ok-left.left (sum_form.continues c.in_ok-left.left) old ts) e.0 (c.in_ok-left.ensures.reads old t)) e.1

pub returns-clause-reads : goal.returns-clause-reads
returns-clause-reads g c = λ old t.
    let u = took (on is_cmp_operator) cmp_operator_form c.in_ok-operator.field-0 c.in-Some.operator c.sum_behind.new.tokens c.cmp_operator.new.tokens c.in_ok-operator.ensures.takes c.in-Some.is in
    subst (λ right. Parsed cmp_form (cmp_made (c.in_ok-left.left, Some right)) (cmp_form.continues (cmp_made (c.in_ok-left.left, Some right))) old c.sum.new.tokens) (sym c.in_ok-right.ensures)
    (exits.cmp_done (c.in_ok-left.ensures.reads old t) u c.in_ok-operand.ensures.reads)

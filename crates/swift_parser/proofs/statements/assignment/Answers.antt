use Rattle.grammar.specs.Forms.{token}
use Rattle.swift_ast.specs.declared.terminals.Terminal.TheVariants as T
use Rattle.swift_ast.specs.Tests.{on, is}
use Rattle.swift_ast.specs.Expressions.{expr_form}
use Rattle.swift_ast.specs.Statements.{target_form, stmt_form}
use Rattle.swift_parser.proofs.Exits.{passes}
use Rattle.swift_parser.proofs.StatementLemmas as lemmas
use Rattle.swift_parser.proofs.statements.assignment.Goals as goal

pub returns-in_err-target-clause-reads : goal.returns-in_err-target-clause-reads
returns-in_err-target-clause-reads c =
    passes target_form stmt_form c.from_residual.result c.in_err-target.field-0.0 c.args.tokens.now c.target.new.tokens c.args.tokens.now c.target.new.tokens c.from_residual.ensures.1 c.in_err-target.ensures.reads
    (λ r. absurd (lemmas.assign_target c.args.tokens.now c.target.new.tokens c.requires r))

pub returns-in_err-assign-clause-reads : goal.returns-in_err-assign-clause-reads
returns-in_err-assign-clause-reads c =
    passes (token (on (is T.Assign))) stmt_form c.from_residual-in_err-assign.result c.in_err-assign.field-0.0 c.target.new.tokens c.expect.new.self c.args.tokens.now c.expect.new.self c.from_residual-in_err-assign.ensures.1 c.in_err-assign.ensures.reads
    (λ r. absurd (lemmas.assign_sign c.in_ok-target.target c.args.tokens.now c.target.new.tokens c.expect.new.self c.requires c.in_ok-target.ensures.reads r))

pub returns-in_err-value-clause-reads : goal.returns-in_err-value-clause-reads
returns-in_err-value-clause-reads c =
    passes expr_form stmt_form c.from_residual-in_err-value.result c.in_err-value.field-0.0 c.expect.new.self c.expr.new.tokens c.args.tokens.now c.expr.new.tokens c.from_residual-in_err-value.ensures.1 c.in_err-value.ensures.reads
    (λ r. lemmas.assign_refused c.in_ok-target.target c.in_ok-assign.assign c.args.tokens.now c.requires c.in_ok-target.ensures.reads c.in_ok-assign.ensures.reads r)

pub returns-clause-reads : goal.returns-clause-reads
returns-clause-reads c =
    lemmas.assign_taken c.in_ok-target.target c.in_ok-assign.assign c.in_ok-target.ensures.reads c.in_ok-assign.ensures.reads c.in_ok-value.ensures.reads

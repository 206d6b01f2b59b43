use Rattle.std.proofs.Common.{◌++◌}
use Rattle.grammar.specs.Forms.{token}
use Rattle.swift_ast.specs.declared.terminals.Terminal.TheVariants as T
use Rattle.swift_ast.specs.Tests.{on, is}
use Rattle.swift_ast.specs.Expressions.{expr_form}
use Rattle.swift_ast.specs.Statements.{specifier_form, annotation_rule}
use Rattle.swift_ast.specs.Declarations.{global_form}
use Rattle.swift_ast.proofs.StatementExits as exits
use Rattle.swift_parser.proofs.Exits.{passes}
use Rattle.swift_parser.proofs.StatementLemmas as lemmas
use Rattle.swift_parser.proofs.statements.binding_behind.Goals as goal

pub returns-in_err-name-clause-reads : goal.returns-in_err-name-clause-reads
returns-in_err-name-clause-reads c =
    passes (token (on (is T.Identifier))) global_form c.from_residual.result c.in_err-name.field-0.0 c.args.tokens.now c.expect.new.self (specifier_form.tokens c.args.specifier ++ c.args.tokens.now) c.expect.new.self c.from_residual.ensures.1 c.in_err-name.ensures.reads
    (λ r. lemmas.global_refused (exits.binding_no_name c.args.specifier c.requires r))

pub returns-in_err-annotation-clause-reads : goal.returns-in_err-annotation-clause-reads
returns-in_err-annotation-clause-reads c =
    passes annotation_rule global_form c.from_residual-in_err-annotation.result c.in_err-annotation.field-0.0 c.expect.new.self c.annotation.new.tokens (specifier_form.tokens c.args.specifier ++ c.args.tokens.now) c.annotation.new.tokens c.from_residual-in_err-annotation.ensures.1 c.in_err-annotation.ensures.reads
    (λ r. lemmas.global_refused (exits.binding_no_type c.args.specifier c.requires c.in_ok-name.ensures.reads r))

pub returns-in_err-assign-clause-reads : goal.returns-in_err-assign-clause-reads
returns-in_err-assign-clause-reads c =
    passes (token (on (is T.Assign))) global_form c.from_residual-in_err-assign.result c.in_err-assign.field-0.0 c.annotation.new.tokens c.expect-2.new.self (specifier_form.tokens c.args.specifier ++ c.args.tokens.now) c.expect-2.new.self c.from_residual-in_err-assign.ensures.1 c.in_err-assign.ensures.reads
    (λ r. lemmas.global_refused (exits.binding_no_assign c.args.specifier c.requires c.in_ok-name.ensures.reads c.in_ok-annotation.ensures.reads r))

pub returns-in_err-value-clause-reads : goal.returns-in_err-value-clause-reads
returns-in_err-value-clause-reads c =
    passes expr_form global_form c.from_residual-in_err-value.result c.in_err-value.field-0.0 c.expect-2.new.self c.expr.new.tokens (specifier_form.tokens c.args.specifier ++ c.args.tokens.now) c.expr.new.tokens c.from_residual-in_err-value.ensures.1 c.in_err-value.ensures.reads
    (λ r. lemmas.global_refused (exits.binding_no_value c.args.specifier c.requires c.in_ok-name.ensures.reads c.in_ok-annotation.ensures.reads c.in_ok-assign.ensures.reads r))

pub returns-clause-reads : goal.returns-clause-reads
returns-clause-reads c =
    lemmas.global_taken (exits.binding_done c.args.specifier c.requires c.in_ok-name.ensures.reads c.in_ok-annotation.ensures.reads c.in_ok-assign.ensures.reads c.in_ok-value.ensures.reads)

use Rattle.std.proofs.Common.{◌∷◌}
use Rattle.grammar.specs.Forms.{token}
use Rattle.swift_ast.specs.declared.terminals.Terminal.TheVariants as T
use Rattle.swift_ast.specs.Tests.{on, is}
use Rattle.swift_ast.specs.Statements.{block_form}
use Rattle.swift_ast.specs.Declarations.{params_rule, result_rule, func_form}
use Rattle.swift_ast.proofs.DeclarationExits as exits
use Rattle.swift_parser.proofs.Exits.{passes}
use Rattle.swift_parser.proofs.declarations.func_behind.Goals as goal

pub returns-in_err-name-clause-reads : goal.returns-in_err-name-clause-reads
returns-in_err-name-clause-reads c = passes (token (on (is T.Identifier))) func_form c.from_residual.result c.in_err-name.field-0.0 c.args.tokens.now c.expect.new.self (c.args.keyword ∷ c.args.tokens.now) c.expect.new.self c.from_residual.ensures.1 c.in_err-name.ensures.reads
    (λ r. exits.func_no_name c.args.keyword c.requires.keyword r)

pub returns-in_err-opening-clause-reads : goal.returns-in_err-opening-clause-reads
returns-in_err-opening-clause-reads c = passes (token (on (is T.LeftParenthesis))) func_form c.from_residual-in_err-opening.result c.in_err-opening.field-0.0 c.expect.new.self c.expect-2.new.self (c.args.keyword ∷ c.args.tokens.now) c.expect-2.new.self c.from_residual-in_err-opening.ensures.1 c.in_err-opening.ensures.reads
    (λ r. exits.func_unopened c.args.keyword c.requires.keyword c.in_ok-name.ensures.reads r)

pub returns-in_err-params-clause-reads : goal.returns-in_err-params-clause-reads
returns-in_err-params-clause-reads c = passes params_rule func_form c.from_residual-in_err-params.result c.in_err-params.field-0.0 c.expect-2.new.self c.params.new.tokens (c.args.keyword ∷ c.args.tokens.now) c.params.new.tokens c.from_residual-in_err-params.ensures.1 c.in_err-params.ensures.reads
    (λ r. exits.func_no_params c.args.keyword c.requires.keyword c.in_ok-name.ensures.reads c.in_ok-opening.ensures.reads r)

pub returns-in_err-closing-clause-reads : goal.returns-in_err-closing-clause-reads
returns-in_err-closing-clause-reads c = passes (token (on (is T.RightParenthesis))) func_form c.from_residual-in_err-closing.result c.in_err-closing.field-0.0 c.params.new.tokens c.expect-3.new.self (c.args.keyword ∷ c.args.tokens.now) c.expect-3.new.self c.from_residual-in_err-closing.ensures.1 c.in_err-closing.ensures.reads
    (λ r. exits.func_unclosed c.args.keyword c.requires.keyword c.in_ok-name.ensures.reads c.in_ok-opening.ensures.reads c.in_ok-params.ensures.reads r)

pub returns-in_err-result_type-clause-reads : goal.returns-in_err-result_type-clause-reads
returns-in_err-result_type-clause-reads c = passes result_rule func_form c.from_residual-in_err-result_type.result c.in_err-result_type.field-0.0 c.expect-3.new.self c.result_type.new.tokens (c.args.keyword ∷ c.args.tokens.now) c.result_type.new.tokens c.from_residual-in_err-result_type.ensures.1 c.in_err-result_type.ensures.reads
    (λ r. exits.func_no_result c.args.keyword c.requires.keyword c.in_ok-name.ensures.reads c.in_ok-opening.ensures.reads c.in_ok-params.ensures.reads c.in_ok-closing.ensures.reads r)

pub returns-in_err-body-clause-reads : goal.returns-in_err-body-clause-reads
returns-in_err-body-clause-reads c = passes block_form func_form c.from_residual-in_err-body.result c.in_err-body.field-0.0 c.result_type.new.tokens c.block.new.tokens (c.args.keyword ∷ c.args.tokens.now) c.block.new.tokens c.from_residual-in_err-body.ensures.1 c.in_err-body.ensures.reads
    (λ r. exits.func_no_body c.args.keyword c.requires.keyword c.in_ok-name.ensures.reads c.in_ok-opening.ensures.reads c.in_ok-params.ensures.reads c.in_ok-closing.ensures.reads c.in_ok-result_type.ensures.reads r)

pub returns-clause-reads : goal.returns-clause-reads
returns-clause-reads c = exits.func_done c.args.keyword c.requires.keyword c.in_ok-name.ensures.reads c.in_ok-opening.ensures.reads c.in_ok-params.ensures.reads c.in_ok-closing.ensures.reads c.in_ok-result_type.ensures.reads c.in_ok-body.ensures.reads

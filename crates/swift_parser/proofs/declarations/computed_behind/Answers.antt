use Rattle.std.proofs.Common.{◌∷◌}
use Rattle.grammar.specs.Forms.{token}
use Rattle.swift_ast.specs.declared.terminals.Terminal.TheVariants as T
use Rattle.swift_ast.specs.Tests.{on, is}
use Rattle.swift_ast.specs.Statements.{type_form, block_form}
use Rattle.swift_ast.specs.Declarations.{computed_form}
use Rattle.swift_ast.proofs.DeclarationExits as exits
use Rattle.swift_parser.proofs.Exits.{passes}
use Rattle.swift_parser.proofs.declarations.computed_behind.Goals as goal

pub returns-in_err-name-clause-reads : goal.returns-in_err-name-clause-reads
returns-in_err-name-clause-reads c = passes (token (on (is T.Identifier))) computed_form c.from_residual.result c.in_err-name.field-0.0 c.args.tokens.now c.expect.new.self (c.args.keyword ∷ c.args.tokens.now) c.expect.new.self c.from_residual.ensures.1 c.in_err-name.ensures.reads
    (λ r. exits.computed_no_name c.args.keyword c.requires.keyword r)

pub returns-in_err-colon-clause-reads : goal.returns-in_err-colon-clause-reads
returns-in_err-colon-clause-reads c = passes (token (on (is T.Colon))) computed_form c.from_residual-in_err-colon.result c.in_err-colon.field-0.0 c.expect.new.self c.expect-2.new.self (c.args.keyword ∷ c.args.tokens.now) c.expect-2.new.self c.from_residual-in_err-colon.ensures.1 c.in_err-colon.ensures.reads
    (λ r. exits.computed_no_colon c.args.keyword c.requires.keyword c.in_ok-name.ensures.reads r)

pub returns-in_err-type_name-clause-reads : goal.returns-in_err-type_name-clause-reads
returns-in_err-type_name-clause-reads c = passes type_form computed_form c.from_residual-in_err-type_name.result c.in_err-type_name.field-0.0 c.expect-2.new.self c.type_name.new.tokens (c.args.keyword ∷ c.args.tokens.now) c.type_name.new.tokens c.from_residual-in_err-type_name.ensures.1 c.in_err-type_name.ensures.reads
    (λ r. exits.computed_no_type c.args.keyword c.requires.keyword c.in_ok-name.ensures.reads c.in_ok-colon.ensures.reads r)

pub returns-in_err-body-clause-reads : goal.returns-in_err-body-clause-reads
returns-in_err-body-clause-reads c = passes block_form computed_form c.from_residual-in_err-body.result c.in_err-body.field-0.0 c.type_name.new.tokens c.block.new.tokens (c.args.keyword ∷ c.args.tokens.now) c.block.new.tokens c.from_residual-in_err-body.ensures.1 c.in_err-body.ensures.reads
    (λ r. exits.computed_no_body c.args.keyword c.requires.keyword c.in_ok-name.ensures.reads c.in_ok-colon.ensures.reads c.in_ok-type_name.ensures.reads r)

pub returns-clause-reads : goal.returns-clause-reads
returns-clause-reads c = exits.computed_done c.args.keyword c.requires.keyword c.in_ok-name.ensures.reads c.in_ok-colon.ensures.reads c.in_ok-type_name.ensures.reads c.in_ok-body.ensures.reads

use Rattle.std.proofs.Common.{◌∷◌}
use Rattle.grammar.specs.Forms.{token}
use Rattle.swift_ast.specs.declared.terminals.Terminal.TheVariants as T
use Rattle.swift_ast.specs.Tests.{on, is}
use Rattle.swift_ast.specs.Statements.{type_form}
use Rattle.swift_ast.specs.Declarations.{param_form}
use Rattle.swift_ast.proofs.DeclarationExits as exits
use Rattle.swift_parser.proofs.Exits.{passes}
use Rattle.swift_parser.proofs.declarations.plain_behind.Goals as goal

pub returns-in_err-colon-clause-reads : goal.returns-in_err-colon-clause-reads
returns-in_err-colon-clause-reads c = passes (token (on (is T.Colon))) param_form c.from_residual.result c.in_err-colon.field-0.0 c.args.tokens.now c.expect.new.self (c.args.name ∷ c.args.tokens.now) c.expect.new.self c.from_residual.ensures.1 c.in_err-colon.ensures.reads
    (λ r. exits.param_plain_no_colon c.args.name c.requires.name c.requires.alone r)

pub returns-in_err-written-clause-reads : goal.returns-in_err-written-clause-reads
returns-in_err-written-clause-reads c = passes type_form param_form c.from_residual-in_err-written.result c.in_err-written.field-0.0 c.expect.new.self c.type_name.new.tokens (c.args.name ∷ c.args.tokens.now) c.type_name.new.tokens c.from_residual-in_err-written.ensures.1 c.in_err-written.ensures.reads
    (λ r. exits.param_plain_no_type c.args.name c.requires.name c.requires.alone c.in_ok-colon.ensures.reads r)

pub returns-clause-reads : goal.returns-clause-reads
returns-clause-reads c = exits.param_plain_done c.args.name c.requires.name c.in_ok-colon.ensures.reads c.in_ok-written.ensures.reads

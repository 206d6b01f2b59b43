use Rattle.std.proofs.Common.{◌∷◌}
use Rattle.grammar.specs.Forms.{token}
use Rattle.swift_ast.specs.declared.terminals.Terminal.TheVariants as T
use Rattle.swift_ast.specs.Tests.{on, is}
use Rattle.swift_ast.specs.Declarations.{stored_value_form, stored_form}
use Rattle.swift_ast.proofs.DeclarationExits as exits
use Rattle.swift_parser.proofs.Exits.{passes}
use Rattle.swift_parser.proofs.declarations.constant_behind.Goals as goal

pub returns-in_err-name-clause-reads : goal.returns-in_err-name-clause-reads
returns-in_err-name-clause-reads c = passes (token (on (is T.Identifier))) stored_form c.from_residual.result c.in_err-name.field-0.0 c.args.tokens.now c.expect.new.self (c.args.keyword ∷ c.args.tokens.now) c.expect.new.self c.from_residual.ensures.1 c.in_err-name.ensures.reads
    (λ r. exits.constant_no_name c.args.keyword c.requires.keyword r)

pub returns-in_err-value-clause-reads : goal.returns-in_err-value-clause-reads
returns-in_err-value-clause-reads c = passes stored_value_form stored_form c.from_residual-in_err-value.result c.in_err-value.field-0.0 c.expect.new.self c.stored_value.new.tokens (c.args.keyword ∷ c.args.tokens.now) c.stored_value.new.tokens c.from_residual-in_err-value.ensures.1 c.in_err-value.ensures.reads
    (λ r. exits.constant_no_value c.args.keyword c.requires.keyword c.in_ok-name.ensures.reads r)

pub returns-clause-reads : goal.returns-clause-reads
returns-clause-reads c = exits.constant_done c.args.keyword c.requires.keyword c.in_ok-name.ensures.reads c.in_ok-value.ensures.reads

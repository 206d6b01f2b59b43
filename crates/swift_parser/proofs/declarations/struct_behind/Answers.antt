use Rattle.std.proofs.Common.{◌∷◌}
use Rattle.grammar.specs.Forms.{token}
use Rattle.swift_ast.specs.declared.terminals.Terminal.TheVariants as T
use Rattle.swift_ast.specs.Tests.{on, is}
use Rattle.swift_ast.specs.Declarations.{struct_form}
use Rattle.swift_ast.proofs.DeclarationLaws.{struct_members_form}
use Rattle.swift_ast.proofs.DeclarationExits as exits
use Rattle.swift_parser.proofs.Exits.{passes}
use Rattle.swift_parser.proofs.declarations.struct_behind.Goals as goal

pub returns-in_err-name-clause-reads : goal.returns-in_err-name-clause-reads
returns-in_err-name-clause-reads c = passes (token (on (is T.Identifier))) struct_form c.from_residual.result c.in_err-name.field-0.0 c.args.tokens.now c.expect.new.self (c.args.keyword ∷ c.args.tokens.now) c.expect.new.self c.from_residual.ensures.1 c.in_err-name.ensures.reads
    (λ r. exits.struct_no_name c.args.keyword c.requires.keyword r)

pub returns-in_err-opening-clause-reads : goal.returns-in_err-opening-clause-reads
returns-in_err-opening-clause-reads c = passes (token (on (is T.LeftBrace))) struct_form c.from_residual-in_err-opening.result c.in_err-opening.field-0.0 c.expect.new.self c.expect-2.new.self (c.args.keyword ∷ c.args.tokens.now) c.expect-2.new.self c.from_residual-in_err-opening.ensures.1 c.in_err-opening.ensures.reads
    (λ r. exits.struct_unopened c.args.keyword c.requires.keyword c.in_ok-name.ensures.reads r)

pub returns-in_err-members-clause-reads : goal.returns-in_err-members-clause-reads
returns-in_err-members-clause-reads c = passes struct_members_form struct_form c.from_residual-in_err-members.result c.in_err-members.field-0.0 c.expect-2.new.self c.struct_members.new.tokens (c.args.keyword ∷ c.args.tokens.now) c.struct_members.new.tokens c.from_residual-in_err-members.ensures.1 c.in_err-members.ensures.reads
    (λ r. exits.struct_inside c.args.keyword c.requires.keyword c.in_ok-name.ensures.reads c.in_ok-opening.ensures.reads r)

pub returns-in_err-closing-clause-reads : goal.returns-in_err-closing-clause-reads
returns-in_err-closing-clause-reads c = passes (token (on (is T.RightBrace))) struct_form c.from_residual-in_err-closing.result c.in_err-closing.field-0.0 c.struct_members.new.tokens c.expect-3.new.self (c.args.keyword ∷ c.args.tokens.now) c.expect-3.new.self c.from_residual-in_err-closing.ensures.1 c.in_err-closing.ensures.reads
    (λ r. exits.struct_unclosed c.args.keyword c.requires.keyword c.in_ok-name.ensures.reads c.in_ok-opening.ensures.reads c.in_ok-members.ensures.reads r)

pub returns-clause-reads : goal.returns-clause-reads
returns-clause-reads c = exits.struct_done c.args.keyword c.requires.keyword c.in_ok-name.ensures.reads c.in_ok-opening.ensures.reads c.in_ok-members.ensures.reads c.in_ok-closing.ensures.reads

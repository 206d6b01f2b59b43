use Rattle.std.proofs.Common.{◌∷◌, sym, ◌∙◌}
use Rattle.grammar.proofs.Basics.{not_begins}
use Rattle.swift_ast.specs.declared.terminals.Terminal.TheVariants as T
use Rattle.swift_ast.specs.Tests.{on, is}
use Rattle.swift_ast.specs.Statements.{type_form, block_form}
use Rattle.swift_ast.specs.Declarations.{initial_rule, struct_member_form}
use Rattle.swift_ast.proofs.DeclarationExits as exits
use Rattle.swift_parser.proofs.Exits.{passes}
use Rattle.swift_parser.proofs.declarations.typed_property_behind.Goals as goal

pub returns-in_err-type_name-clause-reads : goal.returns-in_err-type_name-clause-reads
returns-in_err-type_name-clause-reads c = passes type_form struct_member_form c.from_residual.result c.in_err-type_name.field-0.0 c.args.tokens.now c.type_name.new.tokens (c.args.keyword ∷ (c.args.name ∷ (c.args.colon ∷ c.args.tokens.now))) c.type_name.new.tokens c.from_residual.ensures.1 c.in_err-type_name.ensures.reads
    (λ r. exits.property_no_type c.args.keyword c.args.name c.args.colon c.requires.keyword c.requires.name c.requires.colon r)

pub returns-in_err-body-clause-reads : goal.returns-in_err-body-clause-reads
returns-in_err-body-clause-reads c = passes block_form struct_member_form c.from_residual-in_err-body.result c.in_err-body.field-0.0 c.type_name.new.tokens c.block.new.tokens (c.args.keyword ∷ (c.args.name ∷ (c.args.colon ∷ c.args.tokens.now))) c.block.new.tokens c.from_residual-in_err-body.ensures.1 c.in_err-body.ensures.reads
    (λ r. exits.property_no_body c.args.keyword c.args.name c.args.colon c.requires.keyword c.requires.name c.requires.colon c.in_ok-type_name.ensures.reads (sym c.sees.ensures ∙ c.if-sees.true) r)

pub returns-in_err-value-clause-reads : goal.returns-in_err-value-clause-reads
returns-in_err-value-clause-reads c = passes initial_rule struct_member_form c.from_residual-in_err-value.result c.in_err-value.field-0.0 c.type_name.new.tokens c.initial.new.tokens (c.args.keyword ∷ (c.args.name ∷ (c.args.colon ∷ c.args.tokens.now))) c.initial.new.tokens c.from_residual-in_err-value.ensures.1 c.in_err-value.ensures.reads
    (λ r. exits.property_no_initial c.args.keyword c.args.name c.args.colon c.requires.keyword c.requires.name c.requires.colon c.in_ok-type_name.ensures.reads (not_begins (on (is T.LeftBrace)) c.type_name.new.tokens (sym c.sees.ensures ∙ c.if-sees.false)) r)

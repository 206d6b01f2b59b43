use Rattle.std.proofs.Common.{◌∷◌, sym, subst, Some}
use Rattle.grammar.specs.Faults.{Parsed}
use Rattle.grammar.proofs.Basics.{refused_from}
use Rattle.swift_ast.specs.declared.terminals.Terminal.TheVariants as T
use Rattle.swift_ast.specs.Tests.{on, is}
use Rattle.swift_ast.specs.Statements.{type_form, annotation_rule}
use Rattle.swift_ast.proofs.StatementExits as exits
use Rattle.swift_parser.proofs.Exits.{passes, eaten}
use Rattle.swift_parser.proofs.statements.annotation.Goals as goal

pub returns-in_err-written-clause-reads : goal.returns-in_err-written-clause-reads
returns-in_err-written-clause-reads c =
    let e = eaten (on (is T.Colon)) c.in_ok-colon.field-0 c.in-Some.colon c.args.tokens.now c.eat.new.self c.in_ok-colon.ensures.eaten c.in-Some.is in
    passes type_form annotation_rule c.from_residual-in_err-written.result c.in_err-written.field-0.0 c.eat.new.self c.type_name.new.tokens c.args.tokens.now c.type_name.new.tokens c.from_residual-in_err-written.ensures.1 c.in_err-written.ensures.reads
    (λ r. refused_from annotation_rule (c.in-Some.colon ∷ c.eat.new.self) c.args.tokens.now c.type_name.new.tokens (exits.annotation_refused c.in-Some.colon e.1 r) e.0)

pub returns-clause-reads : goal.returns-clause-reads
returns-clause-reads c =
    let e = eaten (on (is T.Colon)) c.in_ok-colon.field-0 c.in-Some.colon c.args.tokens.now c.eat.new.self c.in_ok-colon.ensures.eaten c.in-Some.is in
    subst (λ ts. Parsed annotation_rule (Some (c.in-Some.colon, c.in_ok-written.written)) (annotation_rule.continues (Some (c.in-Some.colon, c.in_ok-written.written))) ts c.type_name.new.tokens) (sym e.0) (exits.annotation_taken c.in-Some.colon e.1 c.in_ok-written.ensures.reads)

use Rattle.std.proofs.Common.{◌∷◌, ◌∙◌}
use Rattle.grammar.specs.Forms.{token}
use Rattle.grammar.proofs.Basics.{refused_from}
use Rattle.swift_ast.specs.declared.terminals.Terminal.TheVariants as T
use Rattle.swift_ast.specs.Tests.{on, is}
use Rattle.swift_ast.specs.Declarations.{func_form, stored_form, struct_member_form}
use Rattle.swift_ast.proofs.DeclarationExits as exits
use Rattle.swift_parser.proofs.Exits.{passes, eaten, uneaten}
use Rattle.swift_parser.proofs.DeclarationLemmas.{stops_at}
use Rattle.swift_parser.proofs.declarations.struct_member.Goals as goal

pub returns-in_err-found-clause-reads : goal.returns-in_err-found-clause-reads
returns-in_err-found-clause-reads c =
    let e = eaten (on (is T.Func)) c.in_ok-keyword.field-0 c.in-Some.keyword c.args.tokens.now c.eat.new.self c.in_ok-keyword.ensures.eaten c.in-Some.is in
    passes func_form struct_member_form c.from_residual-in_err-found.result c.in_err-found.field-0.0 (c.in-Some.keyword ∷ c.eat.new.self) c.func_behind.new.tokens c.args.tokens.now c.func_behind.new.tokens c.from_residual-in_err-found.ensures.1 c.in_err-found.ensures.reads
    (λ r. refused_from struct_member_form (c.in-Some.keyword ∷ c.eat.new.self) c.args.tokens.now c.func_behind.new.tokens (exits.struct_func_refused e.1 r) e.0)

pub returns-in_err-found-2-clause-reads : goal.returns-in_err-found-2-clause-reads
returns-in_err-found-2-clause-reads c =
    let u = uneaten (on (is T.Func)) c.in_ok-keyword.field-0 c.args.tokens.now c.eat.new.self c.in_ok-keyword.ensures.eaten c.in_default.is in
    let e = eaten (on (is T.Let)) c.in_ok-keyword-2.field-0 c.in-Some-2.keyword c.eat.new.self c.eat-2.new.self c.in_ok-keyword-2.ensures.eaten c.in-Some-2.is in
    passes stored_form struct_member_form c.from_residual-in_err-found-2.result c.in_err-found-2.field-0.0 (c.in-Some-2.keyword ∷ c.eat-2.new.self) c.constant_behind.new.tokens c.args.tokens.now c.constant_behind.new.tokens c.from_residual-in_err-found-2.ensures.1 c.in_err-found-2.ensures.reads
    (λ r. refused_from struct_member_form (c.in-Some-2.keyword ∷ c.eat-2.new.self) c.args.tokens.now c.constant_behind.new.tokens (exits.struct_let_refused c.in-Some-2.keyword e.1 r) (u.0 ∙ e.0))

pub returns-in_err-keyword-3-clause-reads : goal.returns-in_err-keyword-3-clause-reads
returns-in_err-keyword-3-clause-reads c =
    let u = uneaten (on (is T.Func)) c.in_ok-keyword.field-0 c.args.tokens.now c.eat.new.self c.in_ok-keyword.ensures.eaten c.in_default.is in
    let v = uneaten (on (is T.Let)) c.in_ok-keyword-2.field-0 c.eat.new.self c.eat-2.new.self c.in_ok-keyword-2.ensures.eaten c.in_default-2.is in
    passes (token (on (is T.Var))) struct_member_form c.from_residual-in_err-keyword-3.result c.in_err-keyword-3.field-0.0 c.eat-2.new.self c.expect.new.self c.args.tokens.now c.expect.new.self c.from_residual-in_err-keyword-3.ensures.1 c.in_err-keyword-3.ensures.reads
    (λ r. refused_from struct_member_form c.eat-2.new.self c.args.tokens.now c.expect.new.self (exits.struct_member_none (stops_at (on (is T.Func)) c.eat.new.self c.eat-2.new.self u.1 v.0) v.1 r) (u.0 ∙ v.0))

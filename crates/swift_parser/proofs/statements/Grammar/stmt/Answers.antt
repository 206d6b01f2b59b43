use Rattle.std.proofs.Common.{◌∷◌, sym, ◌∙◌, subst}
use Rattle.grammar.specs.Faults.{Parsed, Stops}
use Rattle.grammar.proofs.Basics.{refused_from}
use Rattle.swift_ast.specs.declared.terminals.Terminal.TheVariants as T
use Rattle.swift_ast.specs.declared.statements.Stmt.TheVariants as stmt
use Rattle.swift_ast.specs.Tests.{on, is, is_specifier}
use Rattle.swift_ast.specs.Statements.{specifier_form, stmt_form, if_form}
use Rattle.swift_ast.proofs.StatementExits as exits
use Rattle.token_cursor.specs.Reading.{Parses}
use Rattle.swift_parser.proofs.Exits.{passes, eaten, uneaten, took, untaken}
use Rattle.swift_parser.proofs.statements.Grammar.stmt.Goals as goal

pub local_behind-requires : goal.local_behind-requires
local_behind-requires g c =
    let u = took (on is_specifier) specifier_form c.in_ok-found.field-0 c.in-Some.found c.args.tokens.now c.specifier.new.tokens c.in_ok-found.ensures.takes c.in-Some.is in
    u.right

pub returns-in-Some-clause-reads : goal.returns-in-Some-clause-reads
returns-in-Some-clause-reads g c =
    let u = took (on is_specifier) specifier_form c.in_ok-found.field-0 c.in-Some.found c.args.tokens.now c.specifier.new.tokens c.in_ok-found.ensures.takes c.in-Some.is in
    subst (λ ts. Parses stmt_form c.local_behind.result ts c.local_behind.new.tokens) (sym (u.spelled)) c.local_behind.ensures.reads

pub returns-in-Some-2-clause-reads : goal.returns-in-Some-2-clause-reads
returns-in-Some-2-clause-reads g c =
    let d = untaken (on is_specifier) specifier_form c.in_ok-found.field-0 c.args.tokens.now c.specifier.new.tokens c.in_ok-found.ensures.takes c.in_default.is in
    let e = eaten (on (is T.Return)) c.in_ok-return_keyword.field-0 c.in-Some-2.return_keyword c.specifier.new.tokens c.eat.new.self c.in_ok-return_keyword.ensures.eaten c.in-Some-2.is in
    subst (λ ts. Parses stmt_form c.return_behind.result ts c.return_behind.new.tokens) (sym (d.0 ∙ e.0)) c.return_behind.ensures.reads

pub returns-in_err-conditional-clause-reads : goal.returns-in_err-conditional-clause-reads
returns-in_err-conditional-clause-reads g c =
    let d = untaken (on is_specifier) specifier_form c.in_ok-found.field-0 c.args.tokens.now c.specifier.new.tokens c.in_ok-found.ensures.takes c.in_default.is in
    let f = uneaten (on (is T.Return)) c.in_ok-return_keyword.field-0 c.specifier.new.tokens c.eat.new.self c.in_ok-return_keyword.ensures.eaten c.in_default-2.is in
    let e = eaten (on (is T.If)) c.in_ok-if_keyword.field-0 c.in-Some-3.if_keyword c.eat.new.self c.eat-2.new.self c.in_ok-if_keyword.ensures.eaten c.in-Some-3.is in
    passes if_form stmt_form c.from_residual-in_err-conditional.result c.in_err-conditional.field-0.0 (c.in-Some-3.if_keyword ∷ c.eat-2.new.self) c.if_behind.new.tokens c.args.tokens.now c.if_behind.new.tokens c.from_residual-in_err-conditional.ensures.1 c.in_err-conditional.ensures.reads
    (λ r. refused_from stmt_form (c.in-Some-3.if_keyword ∷ c.eat-2.new.self) c.args.tokens.now c.if_behind.new.tokens (exits.if_stmt_refused e.1 r) (d.0 ∙ f.0 ∙ e.0))

pub returns-in-Some-3-clause-reads : goal.returns-in-Some-3-clause-reads
returns-in-Some-3-clause-reads g c =
    let d = untaken (on is_specifier) specifier_form c.in_ok-found.field-0 c.args.tokens.now c.specifier.new.tokens c.in_ok-found.ensures.takes c.in_default.is in
    let f = uneaten (on (is T.Return)) c.in_ok-return_keyword.field-0 c.specifier.new.tokens c.eat.new.self c.in_ok-return_keyword.ensures.eaten c.in_default-2.is in
    let e = eaten (on (is T.If)) c.in_ok-if_keyword.field-0 c.in-Some-3.if_keyword c.eat.new.self c.eat-2.new.self c.in_ok-if_keyword.ensures.eaten c.in-Some-3.is in
    subst (λ ts. Parsed stmt_form (stmt.If c.in_ok-conditional.conditional) (stmt_form.continues (stmt.If c.in_ok-conditional.conditional)) ts c.if_behind.new.tokens) (sym (d.0 ∙ f.0 ∙ e.0)) (exits.if_stmt_taken c.in_ok-conditional.ensures.reads)

pub returns-in-Some-4-clause-reads : goal.returns-in-Some-4-clause-reads
returns-in-Some-4-clause-reads g c =
    let d = untaken (on is_specifier) specifier_form c.in_ok-found.field-0 c.args.tokens.now c.specifier.new.tokens c.in_ok-found.ensures.takes c.in_default.is in
    let f = uneaten (on (is T.Return)) c.in_ok-return_keyword.field-0 c.specifier.new.tokens c.eat.new.self c.in_ok-return_keyword.ensures.eaten c.in_default-2.is in
    let i = uneaten (on (is T.If)) c.in_ok-if_keyword.field-0 c.eat.new.self c.eat-2.new.self c.in_ok-if_keyword.ensures.eaten c.in_default-3.is in
    let e = eaten (on (is T.While)) c.in_ok-while_keyword.field-0 c.in-Some-4.while_keyword c.eat-2.new.self c.eat-3.new.self c.in_ok-while_keyword.ensures.eaten c.in-Some-4.is in
    subst (λ ts. Parses stmt_form c.while_behind.result ts c.while_behind.new.tokens) (sym (d.0 ∙ f.0 ∙ i.0 ∙ e.0)) c.while_behind.ensures.reads

pub assignment-requires : goal.assignment-requires
assignment-requires g c =
    sym c.sees_assign.ensures ∙ c.if-sees_assign.true

pub returns-then-sees_assign-clause-reads : goal.returns-then-sees_assign-clause-reads
returns-then-sees_assign-clause-reads g c =
    let d = untaken (on is_specifier) specifier_form c.in_ok-found.field-0 c.args.tokens.now c.specifier.new.tokens c.in_ok-found.ensures.takes c.in_default.is in
    let f = uneaten (on (is T.Return)) c.in_ok-return_keyword.field-0 c.specifier.new.tokens c.eat.new.self c.in_ok-return_keyword.ensures.eaten c.in_default-2.is in
    let i = uneaten (on (is T.If)) c.in_ok-if_keyword.field-0 c.eat.new.self c.eat-2.new.self c.in_ok-if_keyword.ensures.eaten c.in_default-3.is in
    let w = uneaten (on (is T.While)) c.in_ok-while_keyword.field-0 c.eat-2.new.self c.eat-3.new.self c.in_ok-while_keyword.ensures.eaten c.in_default-4.is in
    subst (λ ts. Parses stmt_form c.assignment.result ts c.assignment.new.tokens) (sym (d.0 ∙ f.0 ∙ i.0 ∙ w.0)) c.assignment.ensures.reads

pub call-requires-clause-no_local : goal.call-requires-clause-no_local
call-requires-clause-no_local g c =
    let d = untaken (on is_specifier) specifier_form c.in_ok-found.field-0 c.args.tokens.now c.specifier.new.tokens c.in_ok-found.ensures.takes c.in_default.is in
    let f = uneaten (on (is T.Return)) c.in_ok-return_keyword.field-0 c.specifier.new.tokens c.eat.new.self c.in_ok-return_keyword.ensures.eaten c.in_default-2.is in
    let i = uneaten (on (is T.If)) c.in_ok-if_keyword.field-0 c.eat.new.self c.eat-2.new.self c.in_ok-if_keyword.ensures.eaten c.in_default-3.is in
    let w = uneaten (on (is T.While)) c.in_ok-while_keyword.field-0 c.eat-2.new.self c.eat-3.new.self c.in_ok-while_keyword.ensures.eaten c.in_default-4.is in
    subst (λ ts. Stops (on is_specifier) ts) (f.0 ∙ i.0 ∙ w.0) d.1

pub call-requires-clause-no_return : goal.call-requires-clause-no_return
call-requires-clause-no_return g c =
    let d = untaken (on is_specifier) specifier_form c.in_ok-found.field-0 c.args.tokens.now c.specifier.new.tokens c.in_ok-found.ensures.takes c.in_default.is in
    let f = uneaten (on (is T.Return)) c.in_ok-return_keyword.field-0 c.specifier.new.tokens c.eat.new.self c.in_ok-return_keyword.ensures.eaten c.in_default-2.is in
    let i = uneaten (on (is T.If)) c.in_ok-if_keyword.field-0 c.eat.new.self c.eat-2.new.self c.in_ok-if_keyword.ensures.eaten c.in_default-3.is in
    let w = uneaten (on (is T.While)) c.in_ok-while_keyword.field-0 c.eat-2.new.self c.eat-3.new.self c.in_ok-while_keyword.ensures.eaten c.in_default-4.is in
    subst (λ ts. Stops (on (is T.Return)) ts) (i.0 ∙ w.0) f.1

pub call-requires-clause-no_if : goal.call-requires-clause-no_if
call-requires-clause-no_if g c =
    let d = untaken (on is_specifier) specifier_form c.in_ok-found.field-0 c.args.tokens.now c.specifier.new.tokens c.in_ok-found.ensures.takes c.in_default.is in
    let f = uneaten (on (is T.Return)) c.in_ok-return_keyword.field-0 c.specifier.new.tokens c.eat.new.self c.in_ok-return_keyword.ensures.eaten c.in_default-2.is in
    let i = uneaten (on (is T.If)) c.in_ok-if_keyword.field-0 c.eat.new.self c.eat-2.new.self c.in_ok-if_keyword.ensures.eaten c.in_default-3.is in
    let w = uneaten (on (is T.While)) c.in_ok-while_keyword.field-0 c.eat-2.new.self c.eat-3.new.self c.in_ok-while_keyword.ensures.eaten c.in_default-4.is in
    subst (λ ts. Stops (on (is T.If)) ts) w.0 i.1

pub call-requires-clause-no_while : goal.call-requires-clause-no_while
call-requires-clause-no_while g c =
    let d = untaken (on is_specifier) specifier_form c.in_ok-found.field-0 c.args.tokens.now c.specifier.new.tokens c.in_ok-found.ensures.takes c.in_default.is in
    let f = uneaten (on (is T.Return)) c.in_ok-return_keyword.field-0 c.specifier.new.tokens c.eat.new.self c.in_ok-return_keyword.ensures.eaten c.in_default-2.is in
    let i = uneaten (on (is T.If)) c.in_ok-if_keyword.field-0 c.eat.new.self c.eat-2.new.self c.in_ok-if_keyword.ensures.eaten c.in_default-3.is in
    let w = uneaten (on (is T.While)) c.in_ok-while_keyword.field-0 c.eat-2.new.self c.eat-3.new.self c.in_ok-while_keyword.ensures.eaten c.in_default-4.is in
    w.1

pub call-requires-clause-no_assign : goal.call-requires-clause-no_assign
call-requires-clause-no_assign g c =
    sym c.sees_assign.ensures ∙ c.if-sees_assign.false

pub returns-clause-reads : goal.returns-clause-reads
returns-clause-reads g c =
    let d = untaken (on is_specifier) specifier_form c.in_ok-found.field-0 c.args.tokens.now c.specifier.new.tokens c.in_ok-found.ensures.takes c.in_default.is in
    let f = uneaten (on (is T.Return)) c.in_ok-return_keyword.field-0 c.specifier.new.tokens c.eat.new.self c.in_ok-return_keyword.ensures.eaten c.in_default-2.is in
    let i = uneaten (on (is T.If)) c.in_ok-if_keyword.field-0 c.eat.new.self c.eat-2.new.self c.in_ok-if_keyword.ensures.eaten c.in_default-3.is in
    let w = uneaten (on (is T.While)) c.in_ok-while_keyword.field-0 c.eat-2.new.self c.eat-3.new.self c.in_ok-while_keyword.ensures.eaten c.in_default-4.is in
    subst (λ ts. Parses stmt_form c.call.result ts c.call.new.tokens) (sym (d.0 ∙ f.0 ∙ i.0 ∙ w.0)) c.call.ensures.reads

use Rattle.std.proofs.Common.{◌∷◌, ◌++◌, ◌∙◌}
use Rattle.grammar.specs.Forms.{token}
use Rattle.grammar.proofs.Basics.{refused_from, begins_left}
use Rattle.swift_ast.specs.declared.terminals.Terminal.TheVariants as T
use Rattle.swift_ast.specs.Tests.{on, is, is_specifier}
use Rattle.swift_ast.specs.Statements.{specifier_form}
use Rattle.swift_ast.specs.Declarations.{global_form, func_form, struct_form, alias_form, named_form}
use Rattle.swift_ast.proofs.StatementLaws.{specifier_begun}
use Rattle.swift_ast.proofs.DeclarationExits as exits
use Rattle.swift_parser.proofs.Exits.{passes, eaten, uneaten, took, untaken}
use Rattle.swift_parser.proofs.DeclarationLemmas.{stops_at}
use Rattle.swift_parser.proofs.declarations.named_decl.Goals as goal

pub returns-in_err-global-clause-reads : goal.returns-in_err-global-clause-reads
returns-in_err-global-clause-reads c =
    let u = took (on is_specifier) specifier_form c.in_ok-found.field-0 c.in-Some.found c.args.tokens.now c.specifier.new.tokens c.in_ok-found.ensures.takes c.in-Some.is in
    passes global_form named_form c.from_residual-in_err-global.result c.in_err-global.field-0.0 (specifier_form.tokens c.in-Some.found ++ c.specifier.new.tokens) c.binding_behind.new.tokens c.args.tokens.now c.binding_behind.new.tokens c.from_residual-in_err-global.ensures.1 c.in_err-global.ensures.reads
    (λ r. refused_from named_form (specifier_form.tokens c.in-Some.found ++ c.specifier.new.tokens) c.args.tokens.now c.binding_behind.new.tokens (exits.named_global_refused (begins_left (on is_specifier) (specifier_form.tokens c.in-Some.found) c.specifier.new.tokens (specifier_begun c.in-Some.found u.right)) r) u.spelled)

pub returns-in_err-found-2-clause-reads : goal.returns-in_err-found-2-clause-reads
returns-in_err-found-2-clause-reads c =
    let u = untaken (on is_specifier) specifier_form c.in_ok-found.field-0 c.args.tokens.now c.specifier.new.tokens c.in_ok-found.ensures.takes c.in_default.is in
    let e = eaten (on (is T.Func)) c.in_ok-keyword.field-0 c.in-Some-2.keyword c.specifier.new.tokens c.eat.new.self c.in_ok-keyword.ensures.eaten c.in-Some-2.is in
    passes func_form named_form c.from_residual-in_err-found-2.result c.in_err-found-2.field-0.0 (c.in-Some-2.keyword ∷ c.eat.new.self) c.func_behind.new.tokens c.args.tokens.now c.func_behind.new.tokens c.from_residual-in_err-found-2.ensures.1 c.in_err-found-2.ensures.reads
    (λ r. refused_from named_form (c.in-Some-2.keyword ∷ c.eat.new.self) c.args.tokens.now c.func_behind.new.tokens (exits.named_func_refused e.1 r) (u.0 ∙ e.0))

pub returns-in_err-found-3-clause-reads : goal.returns-in_err-found-3-clause-reads
returns-in_err-found-3-clause-reads c =
    let u = untaken (on is_specifier) specifier_form c.in_ok-found.field-0 c.args.tokens.now c.specifier.new.tokens c.in_ok-found.ensures.takes c.in_default.is in
    let v = uneaten (on (is T.Func)) c.in_ok-keyword.field-0 c.specifier.new.tokens c.eat.new.self c.in_ok-keyword.ensures.eaten c.in_default-2.is in
    let e = eaten (on (is T.Struct)) c.in_ok-keyword-2.field-0 c.in-Some-3.keyword c.eat.new.self c.eat-2.new.self c.in_ok-keyword-2.ensures.eaten c.in-Some-3.is in
    passes struct_form named_form c.from_residual-in_err-found-3.result c.in_err-found-3.field-0.0 (c.in-Some-3.keyword ∷ c.eat-2.new.self) c.struct_behind.new.tokens c.args.tokens.now c.struct_behind.new.tokens c.from_residual-in_err-found-3.ensures.1 c.in_err-found-3.ensures.reads
    (λ r. refused_from named_form (c.in-Some-3.keyword ∷ c.eat-2.new.self) c.args.tokens.now c.struct_behind.new.tokens (exits.named_struct_refused e.1 r) (u.0 ∙ v.0 ∙ e.0))

pub returns-in_err-keyword-3-clause-reads : goal.returns-in_err-keyword-3-clause-reads
returns-in_err-keyword-3-clause-reads c =
    let u = untaken (on is_specifier) specifier_form c.in_ok-found.field-0 c.args.tokens.now c.specifier.new.tokens c.in_ok-found.ensures.takes c.in_default.is in
    let v = uneaten (on (is T.Func)) c.in_ok-keyword.field-0 c.specifier.new.tokens c.eat.new.self c.in_ok-keyword.ensures.eaten c.in_default-2.is in
    let w = uneaten (on (is T.Struct)) c.in_ok-keyword-2.field-0 c.eat.new.self c.eat-2.new.self c.in_ok-keyword-2.ensures.eaten c.in_default-3.is in
    passes (token (on (is T.Typealias))) named_form c.from_residual-in_err-keyword-3.result c.in_err-keyword-3.field-0.0 c.eat-2.new.self c.expect.new.self c.args.tokens.now c.expect.new.self c.from_residual-in_err-keyword-3.ensures.1 c.in_err-keyword-3.ensures.reads
    (λ r. refused_from named_form c.eat-2.new.self c.args.tokens.now c.expect.new.self (exits.named_none (stops_at (on is_specifier) c.specifier.new.tokens c.eat-2.new.self u.1 (v.0 ∙ w.0)) (stops_at (on (is T.Func)) c.eat.new.self c.eat-2.new.self v.1 w.0) w.1 r) (u.0 ∙ v.0 ∙ w.0))

pub returns-in_err-found-4-clause-reads : goal.returns-in_err-found-4-clause-reads
returns-in_err-found-4-clause-reads c =
    let u = untaken (on is_specifier) specifier_form c.in_ok-found.field-0 c.args.tokens.now c.specifier.new.tokens c.in_ok-found.ensures.takes c.in_default.is in
    let v = uneaten (on (is T.Func)) c.in_ok-keyword.field-0 c.specifier.new.tokens c.eat.new.self c.in_ok-keyword.ensures.eaten c.in_default-2.is in
    let w = uneaten (on (is T.Struct)) c.in_ok-keyword-2.field-0 c.eat.new.self c.eat-2.new.self c.in_ok-keyword-2.ensures.eaten c.in_default-3.is in
    passes alias_form named_form c.from_residual-in_err-found-4.result c.in_err-found-4.field-0.0 (c.in_ok-keyword-3.keyword ∷ c.expect.new.self) c.alias_behind.new.tokens c.args.tokens.now c.alias_behind.new.tokens c.from_residual-in_err-found-4.ensures.1 c.in_err-found-4.ensures.reads
    (λ r. refused_from named_form c.eat-2.new.self c.args.tokens.now c.alias_behind.new.tokens (exits.named_alias_refused (stops_at (on is_specifier) c.specifier.new.tokens c.eat-2.new.self u.1 (v.0 ∙ w.0)) (stops_at (on (is T.Func)) c.eat.new.self c.eat-2.new.self v.1 w.0) w.1 (refused_from alias_form (c.in_ok-keyword-3.keyword ∷ c.expect.new.self) c.eat-2.new.self c.alias_behind.new.tokens r c.in_ok-keyword-3.ensures.reads.spelled)) (u.0 ∙ v.0 ∙ w.0))

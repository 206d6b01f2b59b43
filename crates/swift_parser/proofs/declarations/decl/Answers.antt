use Rattle.std.proofs.Common.{◌∷◌}
use Rattle.grammar.proofs.Basics.{refused_from}
use Rattle.swift_ast.specs.declared.terminals.Terminal.TheVariants as T
use Rattle.swift_ast.specs.declared.declarations.Decl.TheVariants as variants
use Rattle.swift_ast.specs.Tests.{on, is}
use Rattle.swift_ast.specs.Declarations.{extension_form, named_form, decl_form}
use Rattle.swift_ast.proofs.DeclarationExits as exits
use Rattle.swift_parser.proofs.Exits.{passes, eaten, uneaten}
use Rattle.swift_parser.proofs.DeclarationLemmas.{access_read, taken_from}
use Rattle.swift_parser.proofs.declarations.decl.Goals as goal

pub returns-in_err-found-clause-reads : goal.returns-in_err-found-clause-reads
returns-in_err-found-clause-reads c =
    let e = eaten (on (is T.Extension)) c.in_ok-keyword.field-0 c.in-Some.keyword c.args.tokens.now c.eat.new.self c.in_ok-keyword.ensures.eaten c.in-Some.is in
    passes extension_form decl_form c.from_residual-in_err-found.result c.in_err-found.field-0.0 (c.in-Some.keyword ∷ c.eat.new.self) c.extension_behind.new.tokens c.args.tokens.now c.extension_behind.new.tokens c.from_residual-in_err-found.ensures.1 c.in_err-found.ensures.reads
    (λ r. refused_from decl_form (c.in-Some.keyword ∷ c.eat.new.self) c.args.tokens.now c.extension_behind.new.tokens (exits.decl_extension_refused e.1 r) e.0)

pub returns-in_err-named-clause-reads : goal.returns-in_err-named-clause-reads
returns-in_err-named-clause-reads c =
    let u = uneaten (on (is T.Extension)) c.in_ok-keyword.field-0 c.args.tokens.now c.eat.new.self c.in_ok-keyword.ensures.eaten c.in_default.is in
    passes named_form decl_form c.from_residual-in_err-named.result c.in_err-named.field-0.0 c.access.new.tokens c.named_decl.new.tokens c.args.tokens.now c.named_decl.new.tokens c.from_residual-in_err-named.ensures.1 c.in_err-named.ensures.reads
    (λ r. refused_from decl_form c.eat.new.self c.args.tokens.now c.named_decl.new.tokens (exits.decl_named_refused u.1 (access_read c.in_ok-access.access c.eat.new.self c.access.new.tokens c.in_ok-access.ensures.takes) r) u.0)

pub returns-clause-reads : goal.returns-clause-reads
returns-clause-reads c =
    let u = uneaten (on (is T.Extension)) c.in_ok-keyword.field-0 c.args.tokens.now c.eat.new.self c.in_ok-keyword.ensures.eaten c.in_default.is in
    taken_from decl_form (variants.Named c.in_ok-access.access c.in_ok-named.named) c.eat.new.self c.args.tokens.now c.named_decl.new.tokens
    (exits.decl_named_taken (access_read c.in_ok-access.access c.eat.new.self c.access.new.tokens c.in_ok-access.ensures.takes) c.in_ok-named.ensures.reads) u.0

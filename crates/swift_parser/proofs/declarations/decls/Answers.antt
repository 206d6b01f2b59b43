use Rattle.std.proofs.Common.{sym, ◌∙◌, subst, arith}
use Rattle.grammar.proofs.Basics.{not_begins, taken_shorter}
use Rattle.swift_ast.specs.Tests.{on, begins_decl, begins_next_decl}
use Rattle.swift_ast.specs.Declarations.{decl_form, decls_form}
use Rattle.swift_ast.proofs.DeclarationLaws.{decl_begun}
use Rattle.swift_ast.proofs.DeclarationExits as exits
use Rattle.swift_parser.proofs.Exits.{passes}
use Rattle.swift_parser.proofs.declarations.decls.Goals as goal

pub returns-in_err-next-clause-reads : goal.returns-in_err-next-clause-reads
returns-in_err-next-clause-reads c = passes decl_form decls_form c.from_residual.result c.in_err-next.field-0.0 c.loop-alloc.tokens c.decl.new.tokens c.args.tokens.now c.decl.new.tokens c.from_residual.ensures.1 c.in_err-next.ensures.reads
    (λ r. exits.decls_later c.loop-alloc.all c.loop-alloc.invariant.0 (sym c.sees.ensures ∙ c.loop-alloc-test.true) r)

pub loop-alloc-init : goal.loop-alloc-init
loop-alloc-init c = (subst (λ xs. exits.DeclsSo xs c.args.tokens.now c.args.tokens.now) (sym c.new-all.ensures) (exits.decls_none c.args.tokens.now), omega arith)

pub loop-alloc-preserved : goal.loop-alloc-preserved
loop-alloc-preserved c = (
  subst (λ xs. exits.DeclsSo xs c.args.tokens.now c.decl.new.tokens) (sym c.in_ok-push.ensures.ok) (exits.decls_pushed c.loop-alloc.all c.loop-alloc.invariant.0 (sym c.sees.ensures ∙ c.loop-alloc-test.true) c.in_ok-next.ensures.reads),
  omega (arith, c.loop-alloc.invariant.1, c.in_ok-next.ensures.shrinks),
)

pub loop-alloc-smaller : goal.loop-alloc-smaller
loop-alloc-smaller c = taken_shorter (on begins_decl) decl_begun c.in_ok-next.ensures.reads

pub returns-clause-reads : goal.returns-clause-reads
returns-clause-reads c = exits.decls_done c.loop-alloc.all c.loop-alloc.invariant.0 (not_begins (on begins_next_decl) c.loop-alloc.tokens (sym c.sees.ensures ∙ c.loop-alloc-test.false))

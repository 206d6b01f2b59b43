use Rattle.std.proofs.Common.{[], ◌∷◌, ◌++◌, sym, ◌∙◌, ap, subst, arith}
use Rattle.grammar.specs.Faults.{Parsed}
use Rattle.swift_ast.specs.Statements.{stmt_form}
use Rattle.swift_ast.proofs.StatementShows as shows
use Rattle.swift_parser.proofs.Exits.{passes}
use Rattle.swift_parser.proofs.StatementLemmas as lemmas
use Rattle.swift_parser.proofs.statements.Grammar.stmts.Goals as goal

pub returns-then-not-sees-clause-reads : goal.returns-then-not-sees-clause-reads
returns-then-not-sees-clause-reads g c =
    subst (λ xs. Parsed shows.stmts_form xs (shows.stmts_form.continues xs) c.args.tokens.now c.args.tokens.now) (sym c.new-all.ensures) (lemmas.stmts_none c.args.tokens.now (sym c.sees.ensures ∙ c.if-not-sees.true))

pub returns-in_err-first-clause-reads : goal.returns-in_err-first-clause-reads
returns-in_err-first-clause-reads g c =
    passes stmt_form shows.stmts_form c.from_residual.result c.in_err-first.field-0.0 c.args.tokens.now c.stmt.new.tokens c.args.tokens.now c.stmt.new.tokens c.from_residual.ensures.1 c.in_err-first.ensures.reads
    (λ r. lemmas.stmts_first (sym c.sees.ensures ∙ c.if-not-sees.false) r)

pub loop-tokens-init : goal.loop-tokens-init
loop-tokens-init g c = (
  subst (λ xs. lemmas.StmtsSo xs c.args.tokens.now c.stmt.new.tokens) (sym (c.in_ok-push.ensures.ok ∙ ap (λ xs. xs ++ (c.in_ok-first.first ∷ [])) c.new-all.ensures))
      (lemmas.stmts_begun c.in_ok-first.ensures.reads),
  c.in_ok-first.ensures.shrinks,
)

pub returns-in_err-later-clause-reads : goal.returns-in_err-later-clause-reads
returns-in_err-later-clause-reads g c =
    passes stmt_form shows.stmts_form c.from_residual-in_err-later.result c.in_err-later.field-0.0 c.loop-tokens.tokens c.stmt-in-loop-tokens.new.tokens c.args.tokens.now c.stmt-in-loop-tokens.new.tokens c.from_residual-in_err-later.ensures.1 c.in_err-later.ensures.reads
    (λ r. lemmas.stmts_later c.loop-tokens.invariant.0 (sym c.sees-in-loop-tokens.ensures ∙ c.loop-tokens-test.true) r)

pub loop-tokens-preserved : goal.loop-tokens-preserved
loop-tokens-preserved g c = (
  subst (λ xs. lemmas.StmtsSo xs c.args.tokens.now c.stmt-in-loop-tokens.new.tokens) (sym c.in_ok-push-2.ensures.ok)
      (lemmas.stmts_pushed c.loop-tokens.invariant.0 (sym c.sees-in-loop-tokens.ensures ∙ c.loop-tokens-test.true) c.in_ok-later.ensures.reads),
  omega (arith, c.loop-tokens.invariant.1, c.in_ok-later.ensures.shrinks),
)

pub loop-tokens-smaller : goal.loop-tokens-smaller
loop-tokens-smaller g c =
    lemmas.stmt_shorter c.in_ok-later.ensures.reads

pub returns-clause-reads : goal.returns-clause-reads
returns-clause-reads g c =
    lemmas.stmts_done c.loop-tokens.invariant.0 (sym c.sees-in-loop-tokens.ensures ∙ c.loop-tokens-test.false)

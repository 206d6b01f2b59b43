use Rattle.std.proofs.Common.{◌≤◌, length}
use Rattle.swift_parser.proofs.StatementLemmas.{StmtsSo}
use Rattle.swift_parser.proofs.statements.Grammar.stmts.Given as goal

abbrev pub invariant-loop-tokens : goal.invariant-loop-tokens
invariant-loop-tokens g l = (StmtsSo l.all l.fn.tokens l.tokens) × (length l.tokens ≤ length l.fn.tokens)

abbrev pub decreases-loop-tokens : goal.decreases-loop-tokens
decreases-loop-tokens g l = length l.tokens

use Rattle.std.proofs.Common.{◌≤◌, length}
use Rattle.swift_ast.proofs.StatementExits as exits
use Rattle.swift_parser.proofs.statements.target.Given as goal

abbrev pub invariant-loop-members : goal.invariant-loop-members
invariant-loop-members l = (exits.TargetSo (l.root, l.members) l.fn.tokens l.tokens) × (length l.tokens ≤ length l.fn.tokens)

abbrev pub decreases-loop-members : goal.decreases-loop-members
decreases-loop-members l = length l.tokens

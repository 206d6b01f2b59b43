use Rattle.std.proofs.Common.{◌≤◌, length}
use Rattle.swift_ast.proofs.StatementExits as exits
use Rattle.swift_parser.proofs.statements.Grammar.else_parts.Given as goal

abbrev pub invariant-loop-else_ifs : goal.invariant-loop-else_ifs
invariant-loop-else_ifs g l = (exits.ElseSo l.else_ifs l.fn.tokens l.tokens) × (length l.tokens ≤ length l.fn.tokens)

abbrev pub decreases-loop-else_ifs : goal.decreases-loop-else_ifs
decreases-loop-else_ifs g l = length l.tokens

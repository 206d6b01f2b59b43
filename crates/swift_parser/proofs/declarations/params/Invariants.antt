use Rattle.std.proofs.Common.{◌≤◌, length}
use Rattle.swift_ast.proofs.DeclarationExits as exits
use Rattle.swift_parser.proofs.declarations.params.Given as goal

abbrev pub invariant-loop-more : goal.invariant-loop-more
invariant-loop-more l = (exits.ParamsSo (l.first, l.more) l.fn.tokens l.tokens) × (length l.tokens ≤ length l.fn.tokens)

abbrev pub decreases-loop-more : goal.decreases-loop-more
decreases-loop-more l = length l.tokens

use Rattle.std.proofs.Common.{◌≤◌, length}
use Rattle.grammar.proofs.Lines.{LinesTaken}
use Rattle.swift_ast.specs.Tests.{on, begins_extension_member, on_new_line}
use Rattle.swift_ast.proofs.DeclarationLaws.{extension_line_form}
use Rattle.swift_parser.proofs.declarations.extension_members.Given as goal

abbrev pub invariant-loop-alloc : goal.invariant-loop-alloc
invariant-loop-alloc l = (LinesTaken (on begins_extension_member) (on (on_new_line begins_extension_member)) extension_line_form l.all l.fn.tokens l.tokens) × (length l.tokens ≤ length l.fn.tokens)

abbrev pub decreases-loop-alloc : goal.decreases-loop-alloc
decreases-loop-alloc l = length l.tokens

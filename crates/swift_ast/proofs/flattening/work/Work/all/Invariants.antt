use Rattle.std.proofs.Common.{◌≡◌, ◌+◌, ◌*◌, ◌++◌, length}
use Rattle.swift_ast.proofs.flattening.work.Work.all.Given as goal

abbrev pub invariant-loop-part : goal.invariant-loop-part
invariant-loop-part l = l.work.done ++ l.work.waiting ≡ l.fn.self.done ++ l.fn.self.waiting

abbrev pub decreases-loop-part : goal.decreases-loop-part
decreases-loop-part l = 16 * length l.work.waiting + l.work.load

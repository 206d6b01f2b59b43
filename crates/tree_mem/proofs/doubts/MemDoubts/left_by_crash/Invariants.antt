use Rattle.std.proofs.Common.{◌≡◌}
use Rattle.drv_outside.specs.Disk.{left_by_crash}
use Rattle.tree_mem.proofs.Plain.{ArePlain}
use Rattle.tree_mem.proofs.doubts.MemDoubts.left_by_crash.Given as goal

-- What the digits that are left leave under the names that are left is what the whole crash leaves.
abbrev pub invariant-loop-name : goal.invariant-loop-name
invariant-loop-name l = (left_by_crash l.digits l.name-iterator l.left ≡ left_by_crash l.fn.choice l.initial.name-iterator l.fn.folder) × ArePlain l.name-iterator

-- What a write or a removal leaves that failed.
use Rattle.std.proofs.Common.{◌≡◌, ℕ, Bool, true, false, List, Some, None, refl, ap}
use Rattle.drv_outside.specs.TreeState.{TreeState, FailsToChange, disk_of, moved, unlisted, left}
use Rattle.drv_outside.specs.declared.types.Call.{Call}
use Rattle.tree_mem.specs.Disk.{after_doubt}
use Rattle.tree_mem.specs.Tree.{state_of}
use Rattle.tree_mem.specs.declared.tree.MemTree.{MemTree}

-- it wasn't listed, for want of memory, or it was, and its name is in doubt
pub change_fails : (before : MemTree) (after : TreeState) (name : List ℕ) (call : Call) (dry : Bool)
    → (dry ≡ false → after ≡ moved call true (after_doubt name (disk_of (state_of before))) (state_of before))
    → (dry ≡ true → after ≡ state_of before)
    → FailsToChange name call (Some (state_of before)) (Some after)
change_fails before after name call true is_listed is_not = unlisted (ap Some (is_not refl))
change_fails before after name call false is_listed is_not = left None (ap Some (is_listed refl))

use Rattle.std.proofs.Common.{sym, subst}
use Rattle.drv_outside.specs.Disk.{IsImage}
use Rattle.drv_outside.specs.TreeState.{disk_of}
use Rattle.disk_images.proofs.ActsLemmas.{crash_is_image}
use Rattle.tree_mem.specs.Tree.{state_of}
use Rattle.tree_mem.proofs.tree.MemTree.crash.Goals as goal

pub returns-clause-image : goal.returns-clause-image
returns-clause-image c =
    subst (λ disk. IsImage (disk_of (state_of c.args.self.now)) disk.folder) (sym c.in_ok-crash.ensures.disk) (crash_is_image c.args.choice (disk_of (state_of c.args.self.now)))

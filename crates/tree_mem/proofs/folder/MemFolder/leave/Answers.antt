use Rattle.std.proofs.Common.{refl, sym}
use Rattle.tree_mem.proofs.Changes.{file_back}
use Rattle.tree_mem.proofs.folder.MemFolder.leave.Goals as goal

pub returns-in-0 : goal.returns-in-0
returns-in-0 c = rw c.in-0.is (sym (file_back c.args.self.now c.args.self.now c.args.name.now (λ q e. refl)))

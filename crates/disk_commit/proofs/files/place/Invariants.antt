use Rattle.std.proofs.Common.{◌≡◌, option_map, take}
use Rattle.drv_outside.specs.Moments.{all_done}
use Rattle.disk_commit.specs.Steps.{writes}
use Rattle.disk_commit.proofs.files.place.Given as goal

-- The files so far are written.
abbrev pub invariant-loop-file : goal.invariant-loop-file
invariant-loop-file g l =
    let observed = g.T.Tree.observed in
    record {
      done : observed l.tree ≡ option_map (all_done (writes (take l.file-index l.files))) (observed l.fn.tree);
      count : g.T.Tree.faults l.tree ≡ g.T.Tree.faults l.fn.tree;
    }

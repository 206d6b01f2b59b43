use Rattle.std.proofs.Common.{◌≡◌, option_map, take}
use Rattle.drv_outside.specs.Moments.{all_done}
use Rattle.disk_commit.specs.Steps.{removals}
use Rattle.disk_commit.proofs.files.sweep.Given as goal

-- The names so far are removed.
abbrev pub invariant-loop-name : goal.invariant-loop-name
invariant-loop-name g l =
    let observed = g.T.Tree.observed in
    record {
      done : observed l.tree ≡ option_map (all_done (removals (take l.name-index l.names))) (observed l.fn.tree);
      count : g.T.Tree.faults l.tree ≡ g.T.Tree.faults l.fn.tree;
    }

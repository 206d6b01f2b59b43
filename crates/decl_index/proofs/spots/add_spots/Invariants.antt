use Rattle.std.proofs.Common.{◌≡◌, ◌≤◌, ◌-◌, ◌++◌}
use Rattle.decl_index.specs.Spots.{decl_spots, member_spots}
use Rattle.decl_index.proofs.spots.add_spots.Given as goal

abbrev pub invariant-loop-member : goal.invariant-loop-member
invariant-loop-member l = record {
  within : l.member ≤ l.count;
  added : l.spots.items ++ member_spots l.decl l.member (l.count - l.member) ≡ l.fn.spots.items ++ decl_spots l.decl l.tree;
}

abbrev pub decreases-loop-member : goal.decreases-loop-member
decreases-loop-member l = l.count - l.member

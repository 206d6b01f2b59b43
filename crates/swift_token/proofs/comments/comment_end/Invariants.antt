use Rattle.std.proofs.Common.{◌≡◌, ◌<◌, ◌≤◌, ◌+◌, drop}
use Rattle.swift_token.specs.Scans.{later, comment_end}
use Rattle.swift_token.proofs.comments.comment_end.Given as goal

abbrev pub invariant-loop-i : goal.invariant-loop-i
invariant-loop-i l = record {
  open_still : 0 < l.inside.depth;
  bounded : l.inside.depth ≤ l.i + 1;
  same : later l.i (comment_end l.inside.depth l.inside.last (drop l.i l.bytes)) ≡ comment_end 1 0 l.bytes;
}

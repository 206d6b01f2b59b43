use Rattle.std.proofs.Common.{◌≡◌, drop}
use Rattle.swift_token.specs.Scans.{later, line_end}
use Rattle.swift_token.proofs.trivia.line_end.Given as goal

abbrev pub invariant-loop-i : goal.invariant-loop-i
invariant-loop-i l = later l.i (line_end (drop l.i l.bytes)) ≡ line_end l.bytes

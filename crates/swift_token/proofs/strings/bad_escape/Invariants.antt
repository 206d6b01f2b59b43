use Rattle.std.proofs.Common.{◌≡◌, false, drop}
use Rattle.swift_token.specs.Scans.{later, bad_escape}
use Rattle.swift_token.proofs.strings.bad_escape.Given as goal

abbrev pub invariant-loop-i : goal.invariant-loop-i
invariant-loop-i l = later l.i (bad_escape l.escaped (drop l.i l.bytes)) ≡ bad_escape false l.bytes

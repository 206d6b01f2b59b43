use Rattle.std.proofs.Common.{◌≡◌, false, drop}
use Rattle.swift_token.specs.Scans.{later, string_end}
use Rattle.swift_token.proofs.strings.string_end.Given as goal

abbrev pub invariant-loop-i : goal.invariant-loop-i
invariant-loop-i l = later l.i (string_end l.escaped (drop l.i l.bytes)) ≡ string_end false l.bytes

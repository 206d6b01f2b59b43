use Rattle.std.proofs.Common.{◌≡◌, ◌≤◌, take}
use Rattle.swift_token.specs.Texts.{number_value}
use Rattle.swift_token.proofs.lexemes.is_narrow.Given as goal

abbrev pub invariant-loop-byte : goal.invariant-loop-byte
invariant-loop-byte l = (l.value ≡ number_value (take l.byte-index l.bytes)) × (l.value ≤ 9223372036854775807)

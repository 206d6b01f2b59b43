use Rattle.std.proofs.Common.{◌≡◌, ◌+◌, drop}
use Rattle.swift_token.specs.NextLexeme.{number_len}
use Rattle.swift_token.proofs.next_lexeme.number_len.Given as goal

abbrev pub invariant-loop-i : goal.invariant-loop-i
invariant-loop-i l = l.i + number_len (drop l.i l.bytes) ≡ number_len l.bytes

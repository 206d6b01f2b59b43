use Rattle.std.proofs.Common.{◌-◌, ◌≤◌, length, take}
use Rattle.std.specs.Str.{IsUtf8, IsCharBoundary}
use Rattle.swift_token.specs.Trivia.{IsTrivia}
use Rattle.swift_token.proofs.trivia.trivia_len.Given as goal

abbrev pub invariant-pieces : goal.invariant-pieces
invariant-pieces l = record { within : l.len ≤ length l.bytes; trivia : IsTrivia (take l.len l.bytes); boundary : IsUtf8 l.bytes → IsCharBoundary l.bytes l.len }

abbrev pub decreases-pieces : goal.decreases-pieces
decreases-pieces l = length l.bytes - l.len

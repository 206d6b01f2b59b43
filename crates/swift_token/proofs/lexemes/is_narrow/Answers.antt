use Rattle.std.proofs.Common.{sym, arith, refl}
use Rattle.swift_token.proofs.Numbers.{wide_front}
use Rattle.swift_token.proofs.lexemes.is_narrow.Goals as goal

pub returns-then-value : goal.returns-then-value
returns-then-value c = sym (wide_front c.args.bytes.now c.loop-byte.byte-index c.loop-byte.value _ c.loop-byte-test.true refl c.if-byte-ne-UNDERSCORE.true c.loop-byte.invariant.0 (omega arith))

pub returns-then-value-gt-MAX_INTEGER : goal.returns-then-value-gt-MAX_INTEGER
returns-then-value-gt-MAX_INTEGER c = sym (wide_front c.args.bytes.now c.loop-byte.byte-index c.loop-byte.value _ c.loop-byte-test.true refl c.if-byte-ne-UNDERSCORE.true c.loop-byte.invariant.0 (omega arith))

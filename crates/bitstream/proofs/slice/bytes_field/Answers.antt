use Rattle.std.proofs.Common.{arith}
use Rattle.bitstream.proofs.StreamLaws.{bytes-read, bytes-short}
use Rattle.bitstream.proofs.slice.bytes_field.Goals as goal

pub returns-then-rest-len-clause-read : goal.returns-then-rest-len-clause-read
returns-then-rest-len-clause-read c = bytes-short c.args.bytes.now c.args.at c.args.len (omega (arith, c.if-rest-len.true, c.split_at.ensures.back_len, c.requires.at, c.requires.whole)) c.requires.at

pub returns-clause-read : goal.returns-clause-read
returns-clause-read c =
    bytes-read c.args.bytes.now _ _ c.args.at c.args.len c.requires.whole (omega (arith, c.if-rest-len.false, c.split_at.ensures.back_len, c.requires.at, c.requires.whole))
    c.split_at.ensures.back c.split_at-2.ensures.front (λ i. omega (arith, c.type_inv.bytes i))

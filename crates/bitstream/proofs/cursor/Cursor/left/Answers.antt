use Rattle.std.proofs.Common.{length-drop, arith}
use Rattle.bitstream.specs.Bits.{bits_of}
use Rattle.bitstream.proofs.BitLaws.{length-bits_of}
use Rattle.bitstream.proofs.cursor.Cursor.left.Goals as goal

pub returns-clause-bits : goal.returns-clause-bits
returns-clause-bits c = omega (arith, length-drop c.args.self.now.at (bits_of c.args.self.now.bytes.now), length-bits_of c.args.self.now.bytes.now)

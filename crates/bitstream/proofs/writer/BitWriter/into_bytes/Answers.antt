use Rattle.bitstream.specs.Writer.{writing}
use Rattle.bitstream.proofs.StandLaws.{stands-read}
use Rattle.bitstream.proofs.WrittenLaws.{written-stands}
use Rattle.bitstream.proofs.writer.BitWriter.into_bytes.Goals as goal

pub returns-clause-stands : goal.returns-clause-stands
returns-clause-stands c = λ items has. written-stands items (writing c.args.self) _ has c.requires.outside c.into_bytes.ensures

pub returns-clause-read_back : goal.returns-clause-read_back
returns-clause-read_back c = λ items has. stands-read _ items (written-stands items (writing c.args.self) _ has c.requires.outside c.into_bytes.ensures)

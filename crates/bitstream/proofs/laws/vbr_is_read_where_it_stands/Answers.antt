use Rattle.bitstream.proofs.SpellingLaws.{vbr-again, vbr-takes}
use Rattle.bitstream.proofs.laws.vbr_is_read_where_it_stands.Goals as goal

pub returns : goal.returns
returns c = record {
  read = λ w n front pos is at rest. vbr-again w n at front rest pos is;
  stands = λ w n p behind pos is. vbr-takes w p behind n pos is;
}

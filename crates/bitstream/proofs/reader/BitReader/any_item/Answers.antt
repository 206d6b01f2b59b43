use Rattle.bitstream.proofs.ItemLaws.{next-sound}
use Rattle.bitstream.proofs.reader.BitReader.any_item.Goals as goal

pub invariant_of-self : goal.invariant_of-self
invariant_of-self c = record { sound = λ none. next-sound _ _ _ _ _ _ (c.args.self.now.sound none) c.in-Ok.ensures }

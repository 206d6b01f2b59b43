use Rattle.bitstream.proofs.ItemLaws.{next-sound}
use Rattle.bitstream.proofs.reader.BitReader.step.Goals as goal

pub invariant_of-self : goal.invariant_of-self
invariant_of-self c = record { sound = λ none. rw c.unabbreviated_fast_path.ensures.context (next-sound _ _ _ _ _ _ (c.args.self.now.sound none) c.in-Some-unabbreviated_fast_path.ensures.found) }

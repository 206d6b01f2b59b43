use Rattle.bitstream.specs.Cursor.{here}
use Rattle.bitstream.proofs.OnwardLaws.{vbr-onward}
use Rattle.bitstream.proofs.ItemLaws.{read-sound}
use Rattle.bitstream.proofs.reader.BitReader.vbr.Goals as goal

pub invariant_of-self : goal.invariant_of-self
invariant_of-self c = record {
  sound = λ none. rw c.vbr.ensures.context (read-sound _ _ (here c.args.self.now.entries.cursor) _ _ _ (vbr-onward c.args.width (here c.args.self.now.entries.cursor)) (c.args.self.now.sound none) c.in-Ok.ensures.read);
}

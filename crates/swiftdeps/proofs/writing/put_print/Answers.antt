use Rattle.std.proofs.Common.{[], length, drop, Some, arith}
use Rattle.std.specs.List.{slice_get}
use Rattle.bitstream.specs.Reading.{Record}
use Rattle.bitstream.specs.Writer.{writing}
use Rattle.swiftdeps.proofs.ShownLaws.{also_one}
use Rattle.swiftdeps.proofs.writing.put_print.Goals as goal

pub put_blob-requires-clause-id : goal.put_blob-requires-clause-id
put_blob-requires-clause-id c = (3, omega arith, λ i. slice_get (drop (c.requires.first i) (c.requires.abbrevs i)) 1)

pub returns-clause-shown : goal.returns-clause-shown
returns-clause-shown c =
    let s = writing c.args.writer.now in
    also_one (length s.bits) (Record 3 [] (Some c.args.print.now)) s (writing c.put_blob.new.self)
    (λ items. c.in_ok-put_blob.ensures.wrote items 3 (omega arith, λ i. slice_get (drop (c.requires.first i) (c.requires.abbrevs i)) 1))

use Rattle.std.proofs.Common.{ℕ, List, [], ◌∷◌, length, drop, Some, subst, arith}
use Rattle.std.specs.List.{slice_get}
use Rattle.bitstream.specs.Reading.{Record}
use Rattle.bitstream.specs.Writer.{writing}
use Rattle.swiftdeps.specs.Shown.{AlsoShows}
use Rattle.swiftdeps.proofs.ShownLaws.{also_one}
use Rattle.swiftdeps.proofs.writing.put_identifier.Goals as goal

pub put_blob-requires-clause-id : goal.put_blob-requires-clause-id
put_blob-requires-clause-id c = (5, omega arith, λ i. slice_get (drop (c.requires.first i) (c.requires.abbrevs i)) 0)

pub returns-clause-shown : goal.returns-clause-shown
returns-clause-shown c =
    let s = writing c.args.writer.now in
    let t = writing c.put_blob.new.self in
    let put : AlsoShows (Record 5 [] (Some c.as_bytes.result.now) ∷ []) s t = also_one (length s.bits) (Record 5 [] (Some c.as_bytes.result.now)) s t
    (λ items. c.in_ok-put_blob.ensures.wrote items 5 (omega arith, λ i. slice_get (drop (c.requires.first i) (c.requires.abbrevs i)) 0)) in
    subst (λ (text : List ℕ). AlsoShows (Record 5 [] (Some text) ∷ []) s t) c.as_bytes.ensures.value put

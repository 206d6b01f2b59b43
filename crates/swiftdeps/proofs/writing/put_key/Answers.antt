use Rattle.std.proofs.Common.{[], ◌∷◌, length, None, ap, ◌∙◌, subst}
use Rattle.swiftdeps.specs.Spelling.{number_of}
use Rattle.bitstream.specs.Reading.{Seen, Record}
use Rattle.bitstream.specs.Writer.{writing}
use Rattle.swiftdeps.specs.Shown.{AlsoShows}
use Rattle.swiftdeps.proofs.ShownLaws.{also_one}
use Rattle.swiftdeps.proofs.writing.put_key.Goals as goal

pub returns-clause-shown : goal.returns-clause-shown
returns-clause-shown c =
    let s = writing c.args.writer.now in
    let t = writing c.put_rec.new.self in
    let ops = c.number.result ∷ c.number-2.result ∷ c.number_of-context.result ∷ c.number_of-name.result ∷ [] in
    let context = c.number_of-context.ensures ∙ ap (number_of c.args.names.now) c.as_str.ensures in
    let name = c.number_of-name.ensures ∙ ap (number_of c.args.names.now) c.as_str-2.ensures in
    let put : AlsoShows (Record c.args.code ops None ∷ []) s t = also_one (length s.bits) (Record c.args.code ops None) s t c.in_ok-put_rec.ensures.wrote in
    subst (λ (item : Seen). AlsoShows (item ∷ []) s t) (λ i. Record c.args.code (c.number.ensures i ∷ c.number-2.ensures i ∷ context i ∷ name i ∷ []) None) put

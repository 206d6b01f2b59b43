use Rattle.std.proofs.Common.{ℕ, List, [], ◌∷◌, map, ap, subst, ◌∙◌}
use Rattle.bitstream.specs.Reading.{Seen}
use Rattle.bitstream.specs.Writer.{writing}
use Rattle.std.proofs.Math.Seq.{take_all}
use Rattle.swiftdeps.specs.Spelling.{identifier_item}
use Rattle.swiftdeps.specs.Shown.{AlsoShows}
use Rattle.swiftdeps.specs.Written.{with_items}
use Rattle.swiftdeps.proofs.ShownLaws.{also_map, whole_map}
use Rattle.swiftdeps.proofs.WriteLaws.{turn_map, named, named_is}
use Rattle.swiftdeps.proofs.writing.put_identifiers.Goals as goal

pub loop-name-preserved : goal.loop-name-preserved
loop-name-preserved c =
    let inv = c.loop-name.invariant in
    let texts = c.as_slice-name-items.result.now in
    let s = writing c.args.writer.now in
    let t = writing c.loop-name.writer in
    let u = writing c.put_identifier.new.writer in
    let written = c.in_ok-put_identifier.ensures.written ∙ ap (λ (x : List ℕ). with_items (identifier_item x ∷ []) t) c.as_str.ensures.value in
    let shown = subst (λ (x : List ℕ). AlsoShows (identifier_item x ∷ []) t u) c.as_str.ensures.value c.in_ok-put_identifier.ensures.shown in
    let turn = turn_map named texts c.loop-name.name-index c.name-item.result s t u c.loop-name-test.true c.name-item.is inv.block inv.written written in
    record { block = turn.0; written = turn.1; shown = also_map named texts c.loop-name.name-index c.name-item.result s t u c.loop-name-test.true c.name-item.is inv.shown shown }

pub returns-clause-written : goal.returns-clause-written
returns-clause-written c =
    let texts = c.as_slice-name-items.result.now in
    c.loop-name.invariant.written
    ∙ ap (λ (items : List Seen). with_items items (writing c.args.writer.now)) (ap (map named) (take_all c.loop-name.name-index texts c.loop-name-test.false) ∙ named_is texts ∙ ap (map identifier_item) c.as_slice-name-items.ensures)

pub returns-clause-shown : goal.returns-clause-shown
returns-clause-shown c =
    let texts = c.as_slice-name-items.result.now in
    let s = writing c.args.writer.now in
    let t = writing c.loop-name.writer in
    subst (λ (items : List Seen). AlsoShows items s t) (named_is texts ∙ ap (map identifier_item) c.as_slice-name-items.ensures)
    (whole_map named texts c.loop-name.name-index s t c.loop-name-test.false c.loop-name.invariant.shown)

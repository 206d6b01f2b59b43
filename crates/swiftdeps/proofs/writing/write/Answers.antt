use Rattle.std.proofs.Common.{◌++◌, ◌∙◌}
use Rattle.swiftdeps.proofs.SpelledLaws.{spells, are_utf8}
use Rattle.swiftdeps.proofs.writing.write.Goals as goal

pub returns-clause-read_back : goal.returns-clause-read_back
returns-clause-read_back c = λ w.
    spells c.args.version c.args.files.now c.in_ok-stream.stream.items c.from_vec.result w (are_utf8 c.args.files.now c.utf8_files.ensures)
    (c.from_vec.ensures ∙ c.in_ok-extend_from_slice.ensures.items ∙ (λ i. (c.in_ok-bytes.ensures.items ∙ c.as_slice.ensures) i ++ c.as_slice-2.ensures.value i)) c.in_ok-stream.ensures.stands

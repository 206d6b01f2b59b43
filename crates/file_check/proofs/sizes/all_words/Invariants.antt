use Rattle.std.proofs.Common.{◌≡◌, drop}
use Rattle.file_check.specs.StructSizes.{added, all_words}
use Rattle.file_check.proofs.sizes.all_words.Given as goal

abbrev pub invariant-loop-member : goal.invariant-loop-member
invariant-loop-member g l =
    let answers = g.A.Answers.meanings l.answers in
    added l.total (all_words answers l.site l.context (drop l.member-index l.members)) ≡ all_words answers l.site l.context l.members

use Rattle.std.proofs.Common.{◌≡◌, ◌++◌, [], Some, map, drop}
use Rattle.body_check.specs.Declarations.{extension_member_check}
use Rattle.file_check.specs.Runs.{gathered}
use Rattle.file_check.proofs.extensions.check_members.Given as goal

abbrev pub invariant-loop-member : goal.invariant-loop-member
invariant-loop-member g l =
    let meanings = g.A.Answers.meanings l.answers in
    let each = extension_member_check l.site l.context l.of in
    gathered (λ us vs. us ++ vs) meanings (Some l.units) (map each (drop l.member-index l.members)) l.log ≡ gathered (λ us vs. us ++ vs) meanings (Some []) (map each l.members) l.fn.log

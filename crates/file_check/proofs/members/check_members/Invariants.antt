use Rattle.std.proofs.Common.{◌≡◌, [], Some, map, drop}
use Rattle.body_check.specs.Declarations.{struct_member_check}
use Rattle.file_check.specs.Members.{code_of, more}
use Rattle.file_check.specs.Runs.{gathered}
use Rattle.file_check.proofs.members.check_members.Given as goal

abbrev pub invariant-loop-member : goal.invariant-loop-member
invariant-loop-member g l =
    let meanings = g.A.Answers.meanings l.answers in
    let each = struct_member_check l.site l.context in
    gathered more meanings (Some (code_of l.initials.items l.units)) (map each (drop l.member-index l.members)) l.log ≡ gathered more meanings (Some (code_of [] [])) (map each l.members) l.fn.log

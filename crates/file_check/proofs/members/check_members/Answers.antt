use Rattle.std.proofs.Common.{◌∙◌, ◌+◌, ◌∷◌, Some, map, drop, ap, sym}
use Rattle.std.proofs.lemmas.List.{at_drop_more}
use Rattle.body_check.specs.Declarations.{struct_member_check}
use Rattle.file_check.specs.Members.{code_of, more}
use Rattle.file_check.specs.Runs.{gathered, joined}
use Rattle.file_check.proofs.members.check_members.Goals as goal

pub loop-member-preserved : goal.loop-member-preserved
loop-member-preserved g c =
    let meanings = g.A.Answers.meanings c.args.answers.now in
    let each = struct_member_check c.args.site.now c.args.context.now in
    let members = c.args.members.now in
    let i = c.loop-member.member-index in
    let m = c.member-item.result in
    let log = c.loop-member.log in
    let y = code_of c.loop-member.initials.items c.loop-member.units in
    let rest = map each (drop (i + 1) members) in
    ap (λ y. gathered more meanings (Some y) rest c.check_member.new.log) c.in_ok-add_part.ensures
    ∙ ap (λ r. gathered more meanings (joined more (Some y) r.0) rest r.1) c.in_ok-part.ensures
    ∙ sym (at_drop_more (λ ms. gathered more meanings (Some y) (map each ms) log) members i m c.loop-member-test.true ∙ ap (λ m. gathered more meanings (Some y) (each m ∷ rest) log) (sym c.member-item.is))
    ∙ c.loop-member.invariant

use Rattle.std.proofs.Common.{◌∙◌, ◌+◌, ◌∷◌, ◌++◌, Some, map, drop, ap, sym}
use Rattle.std.proofs.lemmas.List.{at_drop_more}
use Rattle.body_check.specs.Declarations.{extension_member_check}
use Rattle.file_check.specs.Runs.{run, gathered, joined}
use Rattle.file_check.proofs.extensions.check_members.Goals as goal

pub loop-member-preserved : goal.loop-member-preserved
loop-member-preserved g c =
    let meanings = g.A.Answers.meanings c.args.answers.now in
    let f = c.args.site.now in
    let context = c.args.context.now in
    let each = extension_member_check f context c.args.of.now in
    let members = c.args.members.now in
    let i = c.loop-member.member-index in
    let m = c.member-item.result in
    let log = c.loop-member.log in
    let had = c.loop-member.units in
    let rest = map each (drop (i + 1) members) in
    ap (λ us. gathered (λ us vs. us ++ vs) meanings (Some us) rest c.check_member.new.log) c.in_ok-append.ensures
    ∙ ap (λ r. gathered (λ us vs. us ++ vs) meanings (joined (λ us vs. us ++ vs) (Some had) r.0) rest r.1)
    (c.in_ok-more.ensures ∙ ap (λ own. run meanings (extension_member_check f context own m) log) c.in_ok-own.ensures)
    ∙ sym (at_drop_more (λ ms. gathered (λ us vs. us ++ vs) meanings (Some had) (map each ms) log) members i m c.loop-member-test.true ∙ ap (λ m. gathered (λ us vs. us ++ vs) meanings (Some had) (each m ∷ rest) log) (sym c.member-item.is))
    ∙ c.loop-member.invariant

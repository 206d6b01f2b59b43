use Rattle.std.proofs.Common.{ap, ◌∙◌}
use Rattle.type_infer.specs.Readings.{written_type}
use Rattle.decl_meaning.specs.Asking.{read}
use Rattle.decl_meaning.proofs.ReadLemmas.{read_written}
use Rattle.decl_meaning.proofs.asked.written_type.Goals as goal

pub returns : goal.returns
returns g c =
    let m = g.A.Answers.meanings c.args.answers.now in
    read_written m c.args.path.now c.args.tree.now c.in_ok-ty.ty c.mute.new.self c.type_named.new.log c.in_ok-ty.ensures
    ∙ ap (read m (written_type c.args.path.now c.args.tree.now)) (ap (λ l. l.asked) c.mute.ensures ∙ c.asked.view_is)

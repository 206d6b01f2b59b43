use Rattle.std.proofs.Common.{◌∷◌, ◌++◌, ap, sym, ◌∙◌}
use Rattle.type_infer.specs.Readings.{all_measured, stored_of}
use Rattle.decl_meaning.specs.Asking.{read, items_in, behind}
use Rattle.decl_meaning.proofs.PartLemmas.{measured_step}
use Rattle.decl_meaning.proofs.stored.with_member.Goals as goal

pub returns-in_ok-found-in-Stored : goal.returns-in_ok-found-in-Stored
returns-in_ok-found-in-Stored g c = λ rest.
    let m = g.A.Answers.meanings c.args.answers.now in
    let context = c.args.context.now in
    let before = items_in c.args.before in
    ap (λ xs. behind xs (read m (all_measured context rest) c.read_measured.new.asked)) c.in_ok-found-in-Stored.ensures
    ∙ measured_step m context c.in_ok-stored-in-Stored.stored before c.in_ok-one-in-Stored.one c.args.asked.now c.read_measured.new.asked c.in_ok-one-in-Stored.ensures rest
    ∙ ap (λ s. behind before (read m (all_measured context (s ∷ rest)) c.args.asked.now)) c.in_ok-stored-in-Stored.ensures
    ∙ ap (λ x. behind before (read m (all_measured context (stored_of c.args.path.now c.args.member.now.0 x ++ rest)) c.args.asked.now)) (sym c.in-Stored.is)

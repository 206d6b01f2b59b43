use Rattle.std.proofs.Common.{Some, ap, sym, ◌∙◌}
use Rattle.std.specs.Option.{option_map}
use Rattle.type_infer.specs.Readings.{parameter, label_of}
use Rattle.decl_meaning.proofs.PartLemmas.{param_read}
use Rattle.decl_meaning.proofs.params.read_param.Goals as goal

pub returns-in-None : goal.returns-in-None
returns-in-None g c =
    ap (λ o. (option_map (parameter (label_of c.args.param.now)) o, c.written_type.new.asked)) (sym c.in-None.is)
    ∙ param_read (g.A.Answers.meanings c.args.answers.now) c.args.path.now c.args.param.now c.in_ok-written_type.field-0 c.args.asked.now c.written_type.new.asked c.in_ok-written_type.ensures

pub returns-in_ok-label-in-Some : goal.returns-in_ok-label-in-Some
returns-in_ok-label-in-Some g c =
    ap (λ l. (Some (parameter l c.in-Some.ty), c.written_type.new.asked)) c.in_ok-label-in-Some.ensures
    ∙ ap (λ o. (option_map (parameter (label_of c.args.param.now)) o, c.written_type.new.asked)) (sym c.in-Some.is)
    ∙ param_read (g.A.Answers.meanings c.args.answers.now) c.args.path.now c.args.param.now c.in_ok-written_type.field-0 c.args.asked.now c.written_type.new.asked c.in_ok-written_type.ensures

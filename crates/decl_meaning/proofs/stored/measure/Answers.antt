use Rattle.std.proofs.Common.{rules, ◌≡◌, Some, ap, sym, ◌∙◌}
use Rattle.std.specs.Option.{option_map}
use Rattle.type_infer.specs.Readings.{measured, measured_query}
use Rattle.decl_meaning.specs.Asking.{read}
use Rattle.decl_meaning.proofs.PartLemmas.{measured_read}
use Rattle.decl_meaning.proofs.stored.measure.Goals as goal

pub returns-in-None : goal.returns-in-None
returns-in-None g c =
    let m = g.A.Answers.meanings c.args.answers.now in
    ap (λ o. (option_map (measured c.args.stored c.in-Value.mutable c.in-Value.ty) o, c.read_words.new.asked)) (sym c.in-None.is)
    ∙ measured_read m c.args.stored c.in-Value.mutable c.in-Value.ty c.in_ok-read_words-in-Value.field-0 c.args.asked.now c.read_words.new.asked c.in_ok-read_words-in-Value.ensures
    ∙ ap (λ x. read m (measured_query c.args.stored x) c.args.asked.now) (sym c.in-Value.is)

pub returns-in_ok-ty-in-Some : goal.returns-in_ok-ty-in-Some
returns-in_ok-ty-in-Some g c =
    let m = g.A.Answers.meanings c.args.answers.now in
    let copied : c.in_ok-ty-in-Some.ty ≡ c.in-Value.ty = search rules in
    ap (λ t. (Some (measured (record { name = c.stored.inside.name; has_value = c.stored.inside.has_value }) c.in-Value.mutable t c.in-Some.words), c.read_words.new.asked)) copied
    ∙ ap (λ s. (Some (measured s c.in-Value.mutable c.in-Value.ty c.in-Some.words), c.read_words.new.asked)) c.stored.view_is
    ∙ ap (λ o. (option_map (measured c.args.stored c.in-Value.mutable c.in-Value.ty) o, c.read_words.new.asked)) (sym c.in-Some.is)
    ∙ measured_read m c.args.stored c.in-Value.mutable c.in-Value.ty c.in_ok-read_words-in-Value.field-0 c.args.asked.now c.read_words.new.asked c.in_ok-read_words-in-Value.ensures
    ∙ ap (λ x. read m (measured_query c.args.stored x) c.args.asked.now) (sym c.in-Value.is)

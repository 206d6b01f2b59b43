use Rattle.std.proofs.Common.{ap, sym, ◌∙◌}
use Rattle.decl_index.specs.Found.{shown_item}
use Rattle.type_infer.specs.Readings.{definition_query}
use Rattle.decl_meaning.specs.Asking.{read}
use Rattle.decl_meaning.proofs.definitions.read_definition.Goals as goal

pub returns-in_ok-meaning-in-Global : goal.returns-in_ok-meaning-in-Global
returns-in_ok-meaning-in-Global g c =
    c.in_ok-meaning-in-Global.ensures c.args.key.now ∙ ap (λ x. read (g.A.Answers.meanings c.args.answers.now) (definition_query c.args.path.now c.args.key.now (shown_item x)) c.args.asked.now) (sym c.in-Global.is)

pub returns-in_ok-meaning-in-Func : goal.returns-in_ok-meaning-in-Func
returns-in_ok-meaning-in-Func g c =
    c.in_ok-meaning-in-Func.ensures c.args.key.now ∙ ap (λ x. read (g.A.Answers.meanings c.args.answers.now) (definition_query c.args.path.now c.args.key.now (shown_item x)) c.args.asked.now) (sym c.in-Func.is)

pub returns-in_ok-meaning-in-Alias : goal.returns-in_ok-meaning-in-Alias
returns-in_ok-meaning-in-Alias g c =
    c.in_ok-meaning-in-Alias.ensures c.args.key.now ∙ ap (λ x. read (g.A.Answers.meanings c.args.answers.now) (definition_query c.args.path.now c.args.key.now (shown_item x)) c.args.asked.now) (sym c.in-Alias.is)

pub returns-in_ok-meaning-in-Stored : goal.returns-in_ok-meaning-in-Stored
returns-in_ok-meaning-in-Stored g c =
    c.in_ok-meaning-in-Stored.ensures c.args.key.now ∙ ap (λ x. read (g.A.Answers.meanings c.args.answers.now) (definition_query c.args.path.now c.args.key.now (shown_item x)) c.args.asked.now) (sym c.in-Stored.is)

pub returns-in_ok-meaning-in-Computed : goal.returns-in_ok-meaning-in-Computed
returns-in_ok-meaning-in-Computed g c =
    c.in_ok-meaning-in-Computed.ensures c.args.key.now ∙ ap (λ x. read (g.A.Answers.meanings c.args.answers.now) (definition_query c.args.path.now c.args.key.now (shown_item x)) c.args.asked.now) (sym c.in-Computed.is)

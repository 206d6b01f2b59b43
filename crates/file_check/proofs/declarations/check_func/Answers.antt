use Rattle.std.proofs.Common.{◌∙◌, [], ap, sym}
use Rattle.dep_key.specs.KeyBuilders.{top_level}
use Rattle.checks.specs.Logs.{made}
use Rattle.expr_check.specs.Messages.{orders}
use Rattle.body_check.specs.Declarations.{declared, outside, name_in_keys, function_check, params_of, result_type}
use Rattle.file_check.specs.Runs.{behind_standing}
use Rattle.file_check.proofs.FunctionLemmas.{standing_used}
use Rattle.file_check.proofs.declarations.check_func.Goals as goal

pub returns : goal.returns
returns g c =
    let meanings = g.A.Answers.meanings c.args.answers.now in
    let f = c.args.site.now in
    let d = c.args.tree.now in
    let access = c.args.access.now in
    let n = declared [] access d.name in
    let key = top_level (name_in_keys f access d.name) in
    let log = c.args.log.now in
    let s = outside f in
    c.in_ok-units.ensures
    ∙ ap (λ s. made orders meanings (function_check s c.in_ok-symbol.symbol d.name (params_of d.params) (result_type s d.result_type) d.body) c.check_top_standing.new.log) c.in_ok-scope.ensures
    ∙ ap (λ symbol. made orders meanings (function_check s symbol d.name (params_of d.params) (result_type s d.result_type) d.body) c.check_top_standing.new.log) c.in_ok-symbol.ensures
    ∙ ap (λ l. made orders meanings (function_check s c.in_ok-key.key.name d.name (params_of d.params) (result_type s d.result_type) d.body) l) c.in_ok-check_top_standing.ensures
    ∙ ap (λ k. made orders meanings (function_check s k.name d.name (params_of d.params) (result_type s d.result_type) d.body) (behind_standing meanings f n k d.name log)) c.in_ok-key.ensures
    ∙ sym (standing_used meanings f n key d.name (function_check s key.name d.name (params_of d.params) (result_type s d.result_type) d.body) log)

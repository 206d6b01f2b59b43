use Rattle.std.proofs.Common.{◌∙◌, ap, sym}
use Rattle.dep_key.specs.KeyBuilders.{member}
use Rattle.checks.specs.Logs.{made}
use Rattle.expr_check.specs.Messages.{orders}
use Rattle.expr_check.specs.Expressions.{member_symbol}
use Rattle.body_check.specs.Declarations.{declared, inside, name_in_keys, function_check, params_of, result_type}
use Rattle.file_check.specs.Runs.{behind_standing}
use Rattle.file_check.proofs.FunctionLemmas.{standing_used}
use Rattle.file_check.proofs.functions.check_method.Goals as goal

pub returns : goal.returns
returns g c =
    let meanings = g.A.Answers.meanings c.args.answers.now in
    let f = c.args.site.now in
    let d = c.args.tree.now in
    let context = c.args.context.now in
    let n = declared context c.args.access.now d.name in
    let s = inside f context c.args.of in
    let key = member context (name_in_keys f c.args.access.now d.name) in
    c.in_ok-units.ensures
    ∙ ap (λ s. made orders meanings (function_check s c.in_ok-symbol.symbol d.name (params_of d.params) (result_type s d.result_type) d.body) c.check_standing.new.log) c.in_ok-scope.ensures
    ∙ ap (λ symbol. made orders meanings (function_check s symbol d.name (params_of d.params) (result_type s d.result_type) d.body) c.check_standing.new.log) c.in_ok-symbol.ensures
    ∙ ap (λ l. made orders meanings (function_check s (member_symbol c.in_ok-key.key) d.name (params_of d.params) (result_type s d.result_type) d.body) l) c.in_ok-check_standing.ensures
    ∙ ap (λ k. made orders meanings (function_check s (member_symbol k) d.name (params_of d.params) (result_type s d.result_type) d.body) (behind_standing meanings f n k d.name c.args.log.now)) c.in_ok-key.ensures
    ∙ sym (standing_used meanings f n key d.name (function_check s (member_symbol key) d.name (params_of d.params) (result_type s d.result_type) d.body) c.args.log.now)

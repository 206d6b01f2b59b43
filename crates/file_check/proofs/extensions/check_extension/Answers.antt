use Rattle.std.proofs.Common.{◌∙◌, ap}
use Rattle.dep_key.specs.KeyBuilders.{key_name}
use Rattle.decl_index.specs.Declarations.{is_among}
use Rattle.file_check.specs.Extensions.{extension_in}
use Rattle.file_check.specs.Runs.{run}
use Rattle.file_check.proofs.extensions.check_extension.Goals as goal

pub returns : goal.returns
returns g c =
    let meanings = g.A.Answers.meanings c.args.answers.now in
    let f = c.args.site.now in
    let d = c.args.tree.now in
    let log = c.args.log.now in
    c.in_ok-units.ensures
    ∙ ap (λ context. run meanings (extension_in f context d) log) (c.in_ok-context.ensures ∙ ap (λ n. key_name f.path (is_among f.own_structs n) n) c.as_str.ensures)

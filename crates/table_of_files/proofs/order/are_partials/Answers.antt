use Rattle.std.proofs.Common.{◌∙◌, sym}
use Rattle.table_of_files.proofs.PathLemmas.{all_partials}
use Rattle.table_of_files.proofs.order.are_partials.Goals as goal

pub returns : goal.returns
returns c = λ h. all_partials c.args.partials.now (sym c.all_partials.ensures ∙ h)

use Rattle.std.proofs.Common.{◌∙◌, sym}
use Rattle.table_of_files.proofs.PathLemmas.{all_plain}
use Rattle.table_of_files.proofs.order.are_plain.Goals as goal

pub returns : goal.returns
returns c = λ h. all_plain c.args.paths.now (sym c.all_plain.ensures ∙ h)

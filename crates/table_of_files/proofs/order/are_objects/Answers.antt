use Rattle.std.proofs.Common.{◌∙◌, sym}
use Rattle.table_of_files.proofs.PathLemmas.{all_objects}
use Rattle.table_of_files.proofs.order.are_objects.Goals as goal

pub returns : goal.returns
returns c = λ h. all_objects c.args.objects.now (sym c.all_objects.ensures ∙ h)

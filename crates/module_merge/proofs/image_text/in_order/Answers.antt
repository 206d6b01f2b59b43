use Rattle.module_merge.proofs.PathOrderLemmas.{objects_by_path}
use Rattle.module_merge.proofs.image_text.in_order.Goals as goal

pub returns : goal.returns
returns c = objects_by_path c.args.objects.now c.in_ok-ordered.ordered.items c.requires c.in_ok-ordered.ensures.moved c.in_ok-ordered.ensures.sorted

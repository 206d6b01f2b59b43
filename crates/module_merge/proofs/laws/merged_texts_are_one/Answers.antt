use Rattle.module_merge.proofs.TextLawLemmas.{one_merged, merged_moved, one_image, image_moved}
use Rattle.module_merge.proofs.laws.merged_texts_are_one.Goals as goal

pub returns-clause-merged : goal.returns-clause-merged
returns-clause-merged c = one_merged

pub returns-clause-image : goal.returns-clause-image
returns-clause-image c = one_image

pub returns-clause-merged_moved : goal.returns-clause-merged_moved
returns-clause-merged_moved c = merged_moved

pub returns-clause-image_moved : goal.returns-clause-image_moved
returns-clause-image_moved c = image_moved

use Rattle.disk_images.proofs.ActsLemmas.{crash_is_image}
use Rattle.disk_images.proofs.ImagesLemmas.{reads_as_image}
use Rattle.disk_images.proofs.image_laws.Goals as goal

pub returns-clause-reads : goal.returns-clause-reads
returns-clause-reads c = reads_as_image

pub returns-clause-choice : goal.returns-clause-choice
returns-clause-choice c = crash_is_image

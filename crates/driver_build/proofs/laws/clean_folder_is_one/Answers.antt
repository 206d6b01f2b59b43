use Rattle.driver_build.proofs.OneFolderLemmas.{one_folder}
use Rattle.driver_build.proofs.laws.clean_folder_is_one.Goals as goal

pub returns : goal.returns
returns c = one_folder

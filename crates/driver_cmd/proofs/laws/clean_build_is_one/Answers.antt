use Rattle.driver_cmd.proofs.CleanLemmas.{one_clean}
use Rattle.driver_cmd.proofs.laws.clean_build_is_one.Goals as goal

pub returns : goal.returns
returns c = record { one = one_clean }

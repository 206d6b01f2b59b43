use Rattle.checks.proofs.Made.{made_from_nothing, made_alike}
use Rattle.checks.proofs.check_laws.Goals as goal

pub returns-clause-made : goal.returns-clause-made
returns-clause-made g c = made_from_nothing

pub returns-clause-alike : goal.returns-clause-alike
returns-clause-alike g c = made_alike

use Rattle.wave_coverage.proofs.CoverageLemmas.{changes-covered, others-alike}
use Rattle.wave_coverage.proofs.wave_coverage_laws.Goals as goal

pub returns-clause-covered : goal.returns-clause-covered
returns-clause-covered c = changes-covered

pub returns-clause-alike : goal.returns-clause-alike
returns-clause-alike c = others-alike

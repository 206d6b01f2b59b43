use Rattle.module_coverage.proofs.Alike.{alike}
use Rattle.module_coverage.proofs.Covers.{covered}
use Rattle.module_coverage.proofs.Told.{told}
use Rattle.module_coverage.proofs.module_coverage_laws.Goals as goal

pub returns-clause-covered : goal.returns-clause-covered
returns-clause-covered c = covered

pub returns-clause-alike : goal.returns-clause-alike
returns-clause-alike c = alike

pub returns-clause-told : goal.returns-clause-told
returns-clause-told c = told

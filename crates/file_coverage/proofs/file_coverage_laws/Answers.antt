use Rattle.file_coverage.proofs.FileLemmas.{asked-keys, unchanged-files}
use Rattle.file_coverage.proofs.file_coverage_laws.Goals as goal

pub returns-clause-asked : goal.returns-clause-asked
returns-clause-asked c = asked-keys

pub returns-clause-same : goal.returns-clause-same
returns-clause-same c = unchanged-files

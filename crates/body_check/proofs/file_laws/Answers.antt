use Rattle.body_check.proofs.FileLemmas.{same_file, made_file}
use Rattle.body_check.proofs.file_laws.Goals as goal

pub returns-clause-same : goal.returns-clause-same
returns-clause-same c = same_file

pub returns-clause-made : goal.returns-clause-made
returns-clause-made c = made_file

use Rattle.written_modules.proofs.ParsedLemmas.{parsed-written}
use Rattle.written_modules.proofs.TreeLemmas.{modules-written}
use Rattle.written_modules.proofs.parsed_is_written.Goals as goal

pub returns-clause-tree : goal.returns-clause-tree
returns-clause-tree c = parsed-written

pub returns-clause-module : goal.returns-clause-module
returns-clause-module c = modules-written

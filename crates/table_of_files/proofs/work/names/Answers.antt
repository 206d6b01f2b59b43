use Rattle.table_of_files.proofs.ModuleNameLemmas.{bench_is_name}
use Rattle.table_of_files.proofs.work.names.Goals as goal

pub assign-requires-clause-module_name : goal.assign-requires-clause-module_name
assign-requires-clause-module_name c = bench_is_name

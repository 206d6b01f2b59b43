use Rattle.module_compile.proofs.CompiledLemmas.{with_meanings}
use Rattle.module_compile.proofs.compiling.compile_module.Goals as goal

pub returns-clause-compiled : goal.returns-clause-compiled
returns-clause-compiled c = with_meanings c.args.index.now _ _ c.in_ok-meanings.ensures.files c.in_ok-made.ensures.compiled

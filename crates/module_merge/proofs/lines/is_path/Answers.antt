use Rattle.module_merge.proofs.PathLemmas.{plain_has_utf8}
use Rattle.module_merge.proofs.lines.is_path.Goals as goal

pub returns-in-Err : goal.returns-in-Err
returns-in-Err c = plain_has_utf8 c.args.bytes.now c.in-Err.ensures.cases.0

use Rattle.drv_outside.specs.Reads.{reads_then}
use Rattle.driver_cmd.proofs.ProjectLemmas.{passed_behind}
use Rattle.driver_cmd.proofs.build.read_project.Goals as goal

pub returns-in-Listed-clause-passed : goal.returns-in-Listed-clause-passed
returns-in-Listed-clause-passed g c = passed_behind c.read_listed.result _ _ _ c.in_ok-errors.ensures.passed c.read_listed.ensures.passed

pub returns-in-Listed-clause-reads : goal.returns-in-Listed-clause-reads
returns-in-Listed-clause-reads g c = reads_then _ _ _ c.in_ok-errors.ensures.reads c.read_listed.ensures.reads

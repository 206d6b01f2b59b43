use Rattle.std.proofs.Common.{false}
use Rattle.swiftdeps.proofs.FaultLaws.{never_memory}
use Rattle.swiftdeps.proofs.Sound.{bytes_read}
use Rattle.swiftdeps.proofs.Complete.{bytes_again, is_no_fault}
use Rattle.swiftdeps.proofs.reading.read_all.Goals as goal

pub returns-in-Ok-clause-read : goal.returns-in-Ok-clause-read
returns-in-Ok-clause-read c = (bytes_read false c.args.bytes.now (c.in-Ok.version, c.in-Ok.files.items) c.in-Ok.ensures.read).spelled

pub returns-in-Ok-clause-version : goal.returns-in-Ok-clause-version
returns-in-Ok-clause-version c = (bytes_read false c.args.bytes.now (c.in-Ok.version, c.in-Ok.files.items) c.in-Ok.ensures.read).version

pub returns-in-Err-Fault-clause-spelled : goal.returns-in-Err-Fault-clause-spelled
returns-in-Err-Fault-clause-spelled c = λ version files v h. absurd (is_no_fault (bytes_again false version files c.args.bytes.now v (λ e. absurd cc) h) (rw c.in-Err-Fault.field-0-is at c.in-Err-Fault.ensures.read))

pub returns-in-Err-Fault-clause-memory : goal.returns-in-Err-Fault-clause-memory
returns-in-Err-Fault-clause-memory c = never_memory false c.args.bytes.now c.in-Err-Fault.fault c.in-Err-Fault.ensures.memory (rw c.in-Err-Fault.field-0-is at c.in-Err-Fault.ensures.read)

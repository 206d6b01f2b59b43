use Rattle.std.proofs.Common.{length}
use Rattle.table_of_waves.proofs.order.+each_is_writable.Given as goal

abbrev pub decreases-each_is_writable : goal.decreases-each_is_writable
decreases-each_is_writable l = length l.files.now

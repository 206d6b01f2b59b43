use Rattle.std.proofs.Common.{true, [], ◌∷◌, refl, arith}
use Rattle.swiftdeps.proofs.FaultLaws.{never_memory, never_repeated}
use Rattle.swiftdeps.proofs.Sound.{bytes_read}
use Rattle.swiftdeps.proofs.Complete.{bytes_again, is_no_fault}
use Rattle.swiftdeps.proofs.Single.{graph_read}
use Rattle.swiftdeps.proofs.reading.decode.Goals as goal

pub remove-requires : goal.remove-requires
remove-requires c =
    let r = bytes_read true c.args.bytes.now (c.in-Ok.field-0-0, c.in-Ok.files.items) c.in-Ok.ensures.read in
    omega (arith, r.single refl)

pub returns-in-Ok-clause-read : goal.returns-in-Ok-clause-read
returns-in-Ok-clause-read c =
    let r = bytes_read true c.args.bytes.now (c.in-Ok.field-0-0, c.in-Ok.files.items) c.in-Ok.ensures.read in
    graph_read c.in-Ok.field-0-0 c.in-Ok.files.items c.remove.result c.args.bytes.now r c.remove.ensures.value

pub returns-in-Err-Fault-clause-spelled : goal.returns-in-Err-Fault-clause-spelled
returns-in-Err-Fault-clause-spelled c = λ graph h. absurd (is_no_fault (bytes_again true 2 (graph ∷ []) c.args.bytes.now refl (λ e. refl) h) (rw c.in-Err-Fault.field-0-is at c.in-Err-Fault.ensures.read))

pub returns-in-Err-Fault-clause-memory : goal.returns-in-Err-Fault-clause-memory
returns-in-Err-Fault-clause-memory c = never_memory true c.args.bytes.now c.in-Err-Fault.fault c.in-Err-Fault.ensures.memory (rw c.in-Err-Fault.field-0-is at c.in-Err-Fault.ensures.read)

pub returns-in-Err-Fault-clause-repeated : goal.returns-in-Err-Fault-clause-repeated
returns-in-Err-Fault-clause-repeated c = λ path. never_repeated c.args.bytes.now c.in-Err-Fault.fault path (rw c.in-Err-Fault.field-0-is at c.in-Err-Fault.ensures.read)

pub returns-in-Ok-clause-no_fault : goal.returns-in-Ok-clause-no_fault
returns-in-Ok-clause-no_fault c =
    let r = bytes_read true c.args.bytes.now (c.in-Ok.field-0-0, c.in-Ok.files.items) c.in-Ok.ensures.read in
    bytes_again true 2 (c.remove.result ∷ []) c.args.bytes.now refl (λ e. refl) (graph_read c.in-Ok.field-0-0 c.in-Ok.files.items c.remove.result c.args.bytes.now r c.remove.ensures.value)

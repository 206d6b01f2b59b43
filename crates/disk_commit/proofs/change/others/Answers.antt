use Rattle.std.proofs.Common.{arith, ◌≡◌, IsTrue}
use Rattle.std.proofs.lemmas.Grind.{common_steps}
use Rattle.drv_outside.specs.Plain.{is_plain_name}
use Rattle.disk_commit.specs.Change.{others}
use Rattle.disk_commit.proofs.Names.{all_filtered}
use Rattle.disk_commit.proofs.change.others.Goals as goal

pub returns-clause-plain : goal.returns-clause-plain
returns-clause-plain c =
    let all : c.loop-name.left.items ≡ others c.args.gate.now c.args.names.now = grind (arith, common_steps, c.loop-name.invariant) in
    rw all (all_filtered (λ name. IsTrue (is_plain_name name)) _ c.args.names.now c.requires.plain)

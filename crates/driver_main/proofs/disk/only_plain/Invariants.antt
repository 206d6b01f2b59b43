use Rattle.std.specs.Prelude.{All, IsTrue}
use Rattle.drv_outside.specs.Plain.{is_plain_name}
use Rattle.driver_main.proofs.disk.only_plain.Given as goal

-- The names so far are plain.
abbrev pub invariant-loop-name : goal.invariant-loop-name
invariant-loop-name l = All (λ name. IsTrue (is_plain_name name)) l.plain.items

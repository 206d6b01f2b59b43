use Rattle.std.proofs.Common.{◌≡◌}
use Rattle.serde_json.specs.View.{members_view}
use Rattle.file_map.specs.Reading.{outputs_fault}
use Rattle.file_map.proofs.faults.outputs_fault.Given as goal

-- The first fault of the kinds that are left is that of all.
abbrev pub invariant-loop-kind : goal.invariant-loop-kind
invariant-loop-kind l = outputs_fault l.key (members_view l.kind-iterator) ≡ outputs_fault l.key (members_view l.kinds.entries)

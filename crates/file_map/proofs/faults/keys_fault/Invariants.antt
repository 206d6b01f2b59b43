use Rattle.std.proofs.Common.{◌≡◌}
use Rattle.serde_json.specs.View.{members_view}
use Rattle.file_map.specs.Reading.{keys_fault}
use Rattle.file_map.proofs.faults.keys_fault.Given as goal

-- The first fault of the keys that are left is that of all.
abbrev pub invariant-loop-key : goal.invariant-loop-key
invariant-loop-key l = keys_fault (members_view l.key-iterator) ≡ keys_fault (members_view l.keys.entries)

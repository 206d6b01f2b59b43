use Rattle.std.proofs.Common.{◌≡◌}
use Rattle.serde_json.specs.View.{members_view}
use Rattle.build_record.specs.Reading.{other_name}
use Rattle.build_record.proofs.decoding.other_name.Given as goal

-- The first other name of the members that are left is that of all.
abbrev pub invariant-loop-name : goal.invariant-loop-name
invariant-loop-name l = other_name (members_view l.name-iterator) ≡ other_name (members_view l.members.entries)

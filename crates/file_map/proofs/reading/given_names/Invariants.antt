use Rattle.std.proofs.Common.{◌≡◌, ◌++◌}
use Rattle.serde_json.specs.View.{members_view}
use Rattle.file_map.specs.Kinds.{given_names}
use Rattle.file_map.proofs.reading.given_names.Given as goal

-- The names so far, with those of the keys that are left, are all.
abbrev pub invariant-loop-key : goal.invariant-loop-key
invariant-loop-key l = l.names.items ++ given_names (members_view l.key-iterator) ≡ given_names (members_view l.keys.entries)

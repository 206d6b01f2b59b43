use Rattle.std.proofs.Common.{◌≡◌, ◌++◌}
use Rattle.serde_json.specs.View.{members_view}
use Rattle.file_map.specs.Kinds.{names_under}
use Rattle.file_map.proofs.reading.push_names.Given as goal

-- The names so far, with those of the kinds that are left, are all.
abbrev pub invariant-loop-kind : goal.invariant-loop-kind
invariant-loop-kind l = l.names.items ++ names_under l.key (members_view l.kind-iterator) ≡ l.fn.names.items ++ names_under l.key (members_view l.kinds.entries)

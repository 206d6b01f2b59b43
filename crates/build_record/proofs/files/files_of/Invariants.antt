use Rattle.std.proofs.Common.{◌≡◌, []}
use Rattle.serde_json.specs.View.{members_view}
use Rattle.build_record.specs.Reading.{files_after}
use Rattle.build_record.proofs.files.files_of.Given as goal

-- The members that are left give, after the files so far, what all give.
abbrev pub invariant-loop-path : goal.invariant-loop-path
invariant-loop-path l = files_after l.files (members_view l.path-iterator) ≡ files_after [] (members_view l.members.entries)

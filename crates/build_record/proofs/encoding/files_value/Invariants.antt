use Rattle.std.proofs.Common.{◌≡◌, drop}
use Rattle.serde_json.specs.Data.{no_members}
use Rattle.serde_json.specs.View.{members_view}
use Rattle.std.specs.List.{list_all}
use Rattle.build_record.specs.Format.{with_files}
use Rattle.build_record.specs.Sources.{nanos_fit}
use Rattle.build_record.proofs.encoding.files_value.Given as goal

-- The members so far, with those of the files that are left, are all, and the nanoseconds of the files
-- before these fit.
abbrev pub invariant-loop-file : goal.invariant-loop-file
invariant-loop-file l =
    (with_files (members_view l.members.entries) (drop l.file-index l.files) ≡ with_files no_members l.files)
    × (list_all nanos_fit (drop l.file-index l.files) ≡ list_all nanos_fit l.files)

-- The files of a record that is read back.
use Rattle.std.specs.Prelude.{◌^◌, Bool, List, map, All, IsTrue, IsUtf8, IfSome, nat_lt}
use Rattle.std.specs.List.Sorted.{IsStrictlySortedBy}
use Rattle.std.specs.Ordering.{nat_cmp}
use Rattle.std.specs.Cmp.Lexicographic.{slice_cmp}
use Rattle.drv_outside.specs.Plain.{is_plain_path}
use Rattle.build_record.specs.declared.record.BuildRecord.{BuildRecord}
use Rattle.build_record.specs.declared.record.FileState.{FileState}

-- the nanoseconds fit 32 bits
abbrev pub nanos_fit : FileState → Bool
nanos_fit file = nat_lt file.stamp.nanos (2 ^ 32)

-- The paths are plain, and each is below those after it.
abbrev pub AreSources : List FileState → Type 0
AreSources files = All (λ file. IsTrue (is_plain_path file.path)) files × IsStrictlySortedBy (slice_cmp nat_cmp) (map (λ file. file.path) files)

-- A record can be written, and is read back: its files are sources, and its texts are UTF-8.
abbrev pub CanBeWritten : BuildRecord → Type 0
CanBeWritten r = AreSources r.files × IsUtf8 r.«module» × IfSome r.map IsUtf8

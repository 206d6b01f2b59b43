-- The record that a JSON value is, or the first fault that it has.
use Rattle.std.specs.Prelude.{◌≡◌, ◌^◌, ◌||◌, ◌==◌, nat_lt, nat_eq, is_none, ◌⊎◌, List, [], ◌∷◌, ◌++◌, ℕ, Bool, true, false, Option, Some, None, Result, Ok, Err, option_map, option_and_then, codes, if◌then◌else◌, IsUtf8, ⊤}
use Rattle.std.specs.Cmp.Lexicographic.{pointwise}
use Rattle.drv_outside.specs.Plain.{is_plain_path}
use Rattle.drv_outside.specs.declared.types.Stamp.{Stamp}
use Rattle.drv_outside.specs.declared.faults.RecordFault.{RecordFault}
use Rattle.drv_outside.specs.declared.faults.RecordFault.TheVariants.{NotJson, Field, Version, File}
use Rattle.serde_json.specs.Data.{Data, null, boolean, number, string, array, object, Members, member, no_members}
use Rattle.serde_json.specs.Find.{get, at, as_str, as_number, as_u64, as_object}
use Rattle.serde_json.specs.Read.{read}
use Rattle.build_record.specs.declared.record.BuildRecord.{BuildRecord}
use Rattle.build_record.specs.declared.record.FileState.{FileState}
use Rattle.build_record.specs.declared.record.RecordEnd.{RecordEnd}
use Rattle.build_record.specs.declared.record.RecordEnd.TheVariants.{Fault, NoMemory}

-- the unsigned number in this place of an array
abbrev pub number_at : ℕ → Data → Option ℕ
number_at place d = option_and_then as_u64 (option_and_then as_number (at place d))

-- the first three in an array, where they are unsigned numbers and the second fits 32 bits
abbrev pub stamp_of : Data → Option Stamp
stamp_of d = option_and_then (λ secs. option_and_then (λ nanos. option_and_then (λ size. if nat_lt nanos (2 ^ 32) then Some (record { secs = secs; nanos = nanos; size = size }) else None) (number_at 2 d)) (number_at 1 d)) (number_at 0 d)

abbrev pub clean_word : List ℕ → Option Bool
clean_word word = if pointwise nat_eq word (codes "clean") then Some true else (if pointwise nat_eq word (codes "dirty") then Some false else None)

-- the fourth in an array, where it is one of the two words and the last
abbrev pub clean_of : Data → Option Bool
clean_of d = if is_none (at 4 d) then option_and_then clean_word (option_and_then as_str (at 3 d)) else None

-- a file with a plain path and [secs,nanos,size,"clean"] or [secs,nanos,size,"dirty"]
abbrev pub file_of : List ℕ → Data → Option FileState
file_of path d = if is_plain_path path then option_and_then (λ stamp. option_map (λ clean. record { path = path; stamp = stamp; clean = clean }) (clean_of d)) (stamp_of d) else None

abbrev pub some_or : {A B : Type 0} → B → (A → B) → Option A → B
some_or none f None = none
some_or none f (Some a) = f a

-- The files of these members, after those of the members before them. The first that isn't a file
-- is the fault.
abbrev pub files_after : List FileState → Members → Result (List FileState) RecordFault
files_after before no_members = Ok before
files_after before (member path d members) = some_or (Err (File path)) (λ file. files_after (before ++ file ∷ []) members) (file_of path d)

-- null or a text
abbrev pub text_or_null : Data → Option (Option (List ℕ))
text_or_null null = Some None
text_or_null (string s) = Some (Some s)
text_or_null (boolean b) = None
text_or_null (number n) = None
text_or_null (array ds) = None
text_or_null (object ms) = None

abbrev pub is_member_name : List ℕ → Bool
is_member_name name = ((pointwise nat_eq name (codes "files") || pointwise nat_eq name (codes "map")) || pointwise nat_eq name (codes "module")) || pointwise nat_eq name (codes "version")

-- the first member with another name
abbrev pub other_name : Members → Option (List ℕ)
other_name no_members = None
other_name (member name d members) = if is_member_name name then other_name members else Some name

abbrev pub version_of : Data → Option ℕ
version_of d = option_and_then as_u64 (option_and_then as_number (get (codes "version") d))

abbrev pub of_files : List ℕ → Option (List ℕ) → Result (List FileState) RecordFault → Result BuildRecord RecordFault
of_files named text (Err fault) = Err fault
of_files named text (Ok files) = Ok (record { «module» = named; map = text; files = files })

abbrev of_others : List ℕ → Option (List ℕ) → Members → Option (List ℕ) → Result BuildRecord RecordFault
of_others named text files (Some name) = Err (Field name)
of_others named text files None = of_files named text (files_after [] files)

abbrev of_module : Data → Option (List ℕ) → Members → Option (List ℕ) → Result BuildRecord RecordFault
of_module d text files None = Err (Field (codes "module"))
of_module d text files (Some named) = of_others named text files (option_and_then other_name (as_object d))

abbrev pub of_map : Data → Members → Option (Option (List ℕ)) → Result BuildRecord RecordFault
of_map d files None = Err (Field (codes "map"))
of_map d files (Some text) = of_module d text files (option_and_then as_str (get (codes "module") d))

abbrev of_fields : Data → Option Members → Result BuildRecord RecordFault
of_fields d None = Err (Field (codes "files"))
of_fields d (Some files) = of_map d files (option_and_then text_or_null (get (codes "map") d))

-- a record of version 1, or its first fault
unfoldable pub fields_of : Data → Result BuildRecord RecordFault
fields_of d = of_fields d (option_and_then as_object (get (codes "files") d))

abbrev of_version : Data → Option ℕ → Result BuildRecord RecordFault
of_version d None = Err (Field (codes "version"))
of_version d (Some version) = if version == 1 then fields_of d else Err (Version version)

-- The record that a value is, or its first fault: the version, then the form of `files`, `map` and
-- `module`, then any other member, then the files.
unfoldable pub record_of : Data → Result BuildRecord RecordFault
record_of d = of_version d (version_of d)

-- the bytes are the JSON text of this value
abbrev pub IsTextOf : List ℕ → Data → Type 0
IsTextOf bytes d = IsUtf8 bytes × (read bytes ≡ Some d)

-- the bytes are no JSON text
abbrev pub IsNoText : List ℕ → Type 0
IsNoText bytes = IsUtf8 bytes → read bytes ≡ None

-- the bytes are the JSON text of this record
abbrev pub IsTextOfRecord : List ℕ → BuildRecord → Type 0
IsTextOfRecord bytes r = (d : Data) × IsTextOf bytes d × (record_of d ≡ Ok r)

-- the bytes aren't the JSON text of a record, and this is their first fault
abbrev pub HasFault : List ℕ → RecordFault → Type 0
HasFault bytes fault = ((fault ≡ NotJson) × IsNoText bytes) ⊎ ((d : Data) × IsTextOf bytes d × (record_of d ≡ Err fault))

-- memory was wanted, or this is the first fault
abbrev pub IsEnd : List ℕ → RecordEnd → Type 0
IsEnd bytes (Fault fault) = HasFault bytes fault
IsEnd bytes NoMemory = ⊤

-- The JSON value of a build record, and its text.
use Rattle.std.specs.Prelude.{List, [], ◌∷◌, ℕ, Bool, Option, Some, None, codes, if◌then◌else◌}
use Rattle.drv_outside.specs.declared.types.Stamp.{Stamp}
use Rattle.serde_json.specs.Data.{Data, null, number, unsigned, string, array, object, item, no_items, Members, member, no_members, put}
use Rattle.serde_json.specs.Written.{compact_text}
use Rattle.build_record.specs.declared.record.BuildRecord.{BuildRecord}
use Rattle.build_record.specs.declared.record.FileState.{FileState}

-- whether the file had errors
abbrev pub word_of : Bool → List ℕ
word_of clean = if clean then codes "clean" else codes "dirty"

-- [secs,nanos,size,"clean"] or [secs,nanos,size,"dirty"]
abbrev pub stamp_value : Stamp → Bool → Data
stamp_value stamp clean = array (item (number (unsigned stamp.secs)) (item (number (unsigned stamp.nanos)) (item (number (unsigned stamp.size)) (item (string (word_of clean)) no_items))))

-- Members with one more for each file, under its path. `put` keeps them in byte order.
abbrev pub with_files : Members → List FileState → Members
with_files members [] = members
with_files members (file ∷ files) = with_files (put file.path (stamp_value file.stamp file.clean) members) files

-- the text of the output file map, and null where there was none
abbrev pub map_value : Option (List ℕ) → Data
map_value None = null
map_value (Some text) = string text

-- {"files":..,"map":..,"module":..,"version":1}
abbrev pub record_value : BuildRecord → Data
record_value r = object (member (codes "files") (object (with_files no_members r.files)) (member (codes "map") (map_value r.map) (member (codes "module") (string r.module) (member (codes "version") (number (unsigned 1)) no_members))))

-- the text of this value, without white space
unfoldable pub record_text : BuildRecord → List ℕ
record_text r = compact_text (record_value r)

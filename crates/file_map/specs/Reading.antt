-- The output file map that a text is, or its first fault.
use Rattle.std.specs.Prelude.{◌≡◌, ◌⊎◌, ℕ, List, Option, Some, None, if◌then◌else◌, IsUtf8, ⊤}
use Rattle.drv_outside.specs.Plain.{is_plain_name}
use Rattle.drv_outside.specs.declared.faults.MapFault.{MapFault}
use Rattle.drv_outside.specs.declared.faults.MapFault.TheVariants.{NotJson, NotTable, NotObject, Kind, PathNotPlain}
use Rattle.serde_json.specs.Data.{Data, object, Members, member, no_members}
use Rattle.serde_json.specs.Find.{as_str, as_object}
use Rattle.serde_json.specs.Read.{read}
use Rattle.file_map.specs.Kinds.{is_known, given_names}
use Rattle.file_map.specs.Repeated.{AreDistinct, IsRepeatOf}
use Rattle.file_map.specs.declared.ends.MapEnd.{MapEnd}
use Rattle.file_map.specs.declared.ends.MapEnd.TheVariants.{Fault, NoMemory}

-- the first of two faults
abbrev pub first_fault : Option MapFault → Option MapFault → Option MapFault
first_fault None later = later
first_fault (Some fault) later = Some fault

-- The name of an output is a text, and plain.
abbrev pub name_fault : List ℕ → List ℕ → Option (List ℕ) → Option MapFault
name_fault key kind None = Some (Kind key kind)
name_fault key kind (Some name) = if is_plain_name name then None else Some (PathNotPlain key kind)

-- Kinds that aren't known may have anything.
abbrev pub output_fault : List ℕ → List ℕ → Data → Option MapFault
output_fault key kind d = if is_known key kind then name_fault key kind (as_str d) else None

-- the fault of the first kind under a key that has one
abbrev pub outputs_fault : List ℕ → Members → Option MapFault
outputs_fault key no_members = None
outputs_fault key (member kind d kinds) = first_fault (output_fault key kind d) (outputs_fault key kinds)

-- What stands under a key is an object.
abbrev pub object_fault : List ℕ → Option Members → Option MapFault
object_fault key None = Some (NotObject key)
object_fault key (Some kinds) = outputs_fault key kinds

-- the fault of the first key that has one
abbrev pub keys_fault : Members → Option MapFault
keys_fault no_members = None
keys_fault (member key d keys) = first_fault (object_fault key (as_object d)) (keys_fault keys)

-- the bytes are the JSON text of this value
abbrev pub IsTextOf : List ℕ → Data → Type 0
IsTextOf bytes d = IsUtf8 bytes × (read bytes ≡ Some d)

-- the bytes are no JSON text
abbrev pub IsNoText : List ℕ → Type 0
IsNoText bytes = IsUtf8 bytes → read bytes ≡ None

-- Each key has an object, each known kind a plain name, and no name is given twice.
abbrev pub IsMap : Members → Type 0
IsMap map = (keys_fault map ≡ None) × AreDistinct (given_names map)

-- the bytes are the JSON text of this map
abbrev pub IsTextOfMap : List ℕ → Members → Type 0
IsTextOfMap bytes map = IsTextOf bytes (object map) × IsMap map

-- The first fault of an object: that of its first key which has one, else the least name that is
-- given twice.
abbrev pub IsFaultOf : Members → MapFault → Type 0
IsFaultOf map fault = (keys_fault map ≡ Some fault) ⊎ ((keys_fault map ≡ None) × IsRepeatOf (given_names map) fault)

-- the first fault of an object, and None where it is a map
abbrev pub IsMapFault : Members → Option MapFault → Type 0
IsMapFault map None = IsMap map
IsMapFault map (Some fault) = IsFaultOf map fault

-- the first fault of a value: it is no object, or has an object's fault
abbrev pub IsFaultIn : Option Members → MapFault → Type 0
IsFaultIn None fault = fault ≡ NotTable
IsFaultIn (Some map) fault = IsFaultOf map fault

abbrev IsMapIn : Option Members → Type 0
IsMapIn None = ⊥
IsMapIn (Some map) = IsMap map

-- the first fault of a value, and None where it is a map
abbrev pub IsValueFault : Data → Option MapFault → Type 0
IsValueFault d None = IsMapIn (as_object d)
IsValueFault d (Some fault) = IsFaultIn (as_object d) fault

-- the bytes aren't the JSON text of a map, and this is their first fault
abbrev pub HasFault : List ℕ → MapFault → Type 0
HasFault bytes fault = ((fault ≡ NotJson) × IsNoText bytes) ⊎ ((d : Data) × IsTextOf bytes d × IsFaultIn (as_object d) fault)

-- memory was wanted, or this is the first fault
abbrev pub IsEnd : List ℕ → MapEnd → Type 0
IsEnd bytes (Fault fault) = HasFault bytes fault
IsEnd bytes NoMemory = ⊤

abbrev members_in : Option Members → Members
members_in None = no_members
members_in (Some members) = members

-- the members of an object, and none of another value
abbrev pub members_or_none : Data → Members
members_or_none d = members_in (as_object d)

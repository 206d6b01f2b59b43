-- A map that was read, and its first fault.
use Rattle.std.proofs.Common.{◌≡◌, ℕ, List, Option, Some, None, Ok, inr, sym, subst}
use Rattle.drv_outside.specs.declared.faults.MapFault.{MapFault}
use Rattle.serde_json.specs.Data.{Data, null, boolean, number, string, array, object, Members}
use Rattle.file_map.specs.Kinds.{given_names}
use Rattle.file_map.specs.Reading.{keys_fault, IsTextOf, IsTextOfMap, IsMapFault, IsValueFault, members_or_none}
use Rattle.file_map.specs.Assigned.{IsAssigned, all_names}
use Rattle.file_map.specs.Repeated.{AreDistinct, IsRepeatFault}
use Rattle.file_map.specs.declared.names.Names.{Names}

pub later_fault : (map : Members) (fault : Option MapFault) → keys_fault map ≡ None → IsRepeatFault (given_names map) fault → IsMapFault map fault
later_fault map None e h = (e, h)
later_fault map (Some fault) e h = inr (e, h)

pub map_read : (bytes : List ℕ) (d : Data) (map : Members) → IsTextOf bytes d → IsValueFault d None → map ≡ members_or_none d → IsTextOfMap bytes map
map_read bytes null map h v e = absurd v
map_read bytes (boolean b) map h v e = absurd v
map_read bytes (number n) map h v e = absurd v
map_read bytes (string s) map h v e = absurd v
map_read bytes (array ds) map h v e = absurd v
map_read bytes (object ms) map h v e = subst (IsTextOfMap bytes) (sym e) (h, v)

pub named_once : (wanted names : Names) (all : List (List ℕ)) → names ≡ wanted → all ≡ all_names names → IsRepeatFault all None → IsAssigned wanted (Ok names)
named_once wanted names all e f h = (e, subst AreDistinct f h)

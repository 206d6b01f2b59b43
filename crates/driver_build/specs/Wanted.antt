-- What a build is asked for, as the definitions see it.
use Rattle.std.specs.Prelude.{ℕ, List, Option, None}
use Rattle.drv_outside.specs.declared.types.Entry.{Entry}
use Rattle.file_map.specs.Assigned.{names_for}
use Rattle.file_map.specs.declared.names.Names.{Names}
use Rattle.project_sources.specs.Parsed.{entry_paths}
use Rattle.serde_json.specs.Data.{no_members}
use Rattle.wave_plan.specs.declared.plan.Asked.{Asked}

pub record Wanted : Type 0 where
  -- the name of the module
  pub «module» : List ℕ
  -- the text of the output file map, where there is one
  pub map : Option (List ℕ)
  -- the sources, by path
  pub listed : List Entry
  -- the names of the outputs
  pub names : Names

abbrev pub wanted : Asked → Wanted
wanted asked = record { «module» = asked.«module»; map = asked.map; listed = asked.listed.items; names = asked.names }

-- what a build of a module with these sources is asked for, where there is no output file map
abbrev pub wanted_of : List ℕ → List Entry → Wanted
wanted_of name listed = record { «module» = name; map = None; listed = listed; names = names_for no_members name (entry_paths listed) }

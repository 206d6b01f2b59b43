-- What was found in a folder, as the definitions see it.
use Rattle.wave_plan.specs.declared.found.Found.{Found}
use Rattle.wave_plan.specs.Validity.{LastBuild}

abbrev pub told : Found → LastBuild
told found = record { build_record = found.build_record; version = found.version; graph = found.graph.items }

-- The names of a build's outputs.
use Rattle.std.specs.Prelude.{◌≡◌, ℕ, List, [], ◌∷◌, ◌++◌, map, flat_map, codes, unwrap_or, Result, Ok, Err, ⊤}
use Rattle.drv_outside.specs.declared.faults.MapFault.{MapFault}
use Rattle.output_names.specs.Stems.{stem_of}
use Rattle.serde_json.specs.Data.{Members}
use Rattle.file_map.specs.Kinds.{given, module_key, object_kind, module_kind, dependencies_kind, image_kind, priors_kind, gate_kind}
use Rattle.file_map.specs.Repeated.{AreDistinct, IsRepeatOf}
use Rattle.file_map.specs.declared.names.FileNames.{FileNames}
use Rattle.file_map.specs.declared.names.Names.{Names}
use Rattle.file_map.specs.declared.ends.MapEnd.{MapEnd}
use Rattle.file_map.specs.declared.ends.MapEnd.TheVariants.{Fault, NoMemory}

-- the name that a map gives, and else the default
abbrev pub name_of : Members → List ℕ → List ℕ → List ℕ → List ℕ
name_of map key kind default = unwrap_or (given map key kind) default

-- the names of a source's outputs
abbrev pub file_names : Members → List ℕ → FileNames
file_names given path = record {
  object = name_of given path object_kind (stem_of path ++ codes ".o");
  partial = name_of given path module_kind (stem_of path ++ codes "~partial.swiftmodule");
  deps = name_of given path dependencies_kind (stem_of path ++ codes ".swiftdeps");
}

-- the names of all outputs of a module with the sources at these paths
abbrev pub names_for : Members → List ℕ → List (List ℕ) → Names
names_for given name paths = record {
  files = map (file_names given) paths;
  «module» = name_of given module_key module_kind (name ++ codes ".swiftmodule");
  image = name_of given module_key image_kind (name ++ codes ".image");
  priors = name_of given module_key priors_kind (name ++ codes ".priors");
  build_record = name_of given module_key dependencies_kind (name ++ codes ".record.json");
  gate = name_of given module_key gate_kind (name ++ codes ".gate");
}

abbrev pub names_of_file : FileNames → List (List ℕ)
names_of_file file = file.object ∷ file.partial ∷ file.deps ∷ []

abbrev pub names_of_module : Names → List (List ℕ)
names_of_module names = names.«module» ∷ names.image ∷ names.priors ∷ names.build_record ∷ names.gate ∷ []

-- All names that are assigned: those of each source, in the order of the sources, and then those of the
-- module.
abbrev pub all_names : Names → List (List ℕ)
all_names names = flat_map names_of_file names.files ++ names_of_module names

-- memory was wanted, or a name is assigned twice
abbrev pub IsRefusal : Names → MapEnd → Type 0
IsRefusal names (Fault fault) = IsRepeatOf (all_names names) fault
IsRefusal names NoMemory = ⊤

-- the names are these, each once, or a name among them is the fault
abbrev pub IsAssigned : Names → Result Names MapFault → Type 0
IsAssigned wanted (Ok names) = (names ≡ wanted) × AreDistinct (all_names names)
IsAssigned wanted (Err fault) = IsRepeatOf (all_names wanted) fault

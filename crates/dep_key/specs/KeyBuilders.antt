-- The key of each kind, and the names in keys.
use Rattle.std.specs.Prelude.{ℕ, Bool, List, [], ◌++◌, if◌then◌else◌, codes}
use Rattle.dep_key.specs.declared.kind.Kind.{Kind}
use Rattle.dep_key.specs.declared.kind.Kind.TheVariants.{TopLevel, Nominal, PotentialMember, Member, ExternalDepend, SourceFileProvide}
use Rattle.dep_key.specs.declared.kind.Aspect.TheVariants.{Interface, Implementation}
use Rattle.dep_key.specs.declared.key.Key.{Key}

-- What other files see of a declaration is of the aspect interface.
abbrev pub interface_key : Kind → List ℕ → List ℕ → Key
interface_key kind context name = record { kind = kind; aspect = Interface; context = context; name = name }

-- a name that is declared outside all types
abbrev pub top_level : List ℕ → Key
top_level name = interface_key TopLevel [] name

-- the stored parts of a type
abbrev pub nominal : List ℕ → Key
nominal context = interface_key Nominal context []

-- that a type may have members
abbrev pub potential_member : List ℕ → Key
potential_member context = interface_key PotentialMember context []

-- a member of a type
abbrev pub member : List ℕ → List ℕ → Key
member context name = interface_key Member context name

-- a file outside the module, by its name
abbrev pub external_depend : List ℕ → Key
external_depend name = interface_key ExternalDepend [] name

-- What a source file itself needs is of the aspect implementation, and has the file's path as its name.
abbrev pub source_file : List ℕ → Key
source_file path = record { kind = SourceFileProvide; aspect = Implementation; context = []; name = path }

-- The name by which a declaration is known in the module. One that its file alone sees has `@` and the
-- path of the file behind its name, so that no other file asks for it.
abbrev pub key_name : List ℕ → Bool → List ℕ → List ℕ
key_name path is_private name = if is_private then name ++ codes "@" ++ path else name

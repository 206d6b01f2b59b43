-- The kinds of output that an output file map names, and the names that it gives.
use Rattle.std.specs.Prelude.{◌||◌, ◌==◌, ℕ, Bool, nat_eq, List, [], ◌∷◌, ◌++◌, Option, Some, None, option_and_then, codes, length, if◌then◌else◌}
use Rattle.std.specs.Cmp.Lexicographic.{pointwise}
use Rattle.serde_json.specs.Data.{Data, Members, member, no_members}
use Rattle.serde_json.specs.Find.{get, get_member, as_str, as_object}

abbrev pub object_kind : List ℕ
object_kind = codes "object"

-- the partial text of a source, and the merged module text of the module
abbrev pub module_kind : List ℕ
module_kind = codes "swiftmodule"

-- the dependency file of a source, and the build record of the module
abbrev pub dependencies_kind : List ℕ
dependencies_kind = codes "swift-dependencies"

abbrev pub image_kind : List ℕ
image_kind = codes "image"

abbrev pub priors_kind : List ℕ
priors_kind = codes "priors"

abbrev pub gate_kind : List ℕ
gate_kind = codes "gate"

-- the key of what belongs to the module
abbrev pub module_key : List ℕ
module_key = []

abbrev pub is_source_kind : List ℕ → Bool
is_source_kind kind = (pointwise nat_eq kind object_kind || pointwise nat_eq kind module_kind) || pointwise nat_eq kind dependencies_kind

abbrev pub is_module_kind : List ℕ → Bool
is_module_kind kind = (((pointwise nat_eq kind module_kind || pointwise nat_eq kind dependencies_kind) || pointwise nat_eq kind image_kind) || pointwise nat_eq kind priors_kind) || pointwise nat_eq kind gate_kind

-- A source has three kinds of output, and the module, under the empty key, five.
abbrev pub is_known : List ℕ → List ℕ → Bool
is_known key kind = if length key == 0 then is_module_kind kind else is_source_kind kind

-- the name that a map gives for a key and a kind
abbrev pub given : Members → List ℕ → List ℕ → Option (List ℕ)
given map key kind = option_and_then as_str (option_and_then (get kind) (get_member key map))

abbrev pub text_of : Option (List ℕ) → List (List ℕ)
text_of None = []
text_of (Some text) = text ∷ []

-- the name that a known kind gives
abbrev pub name_under : List ℕ → List ℕ → Data → List (List ℕ)
name_under key kind d = if is_known key kind then text_of (as_str d) else []

-- the names that known kinds give under a key, by kind
abbrev pub names_under : List ℕ → Members → List (List ℕ)
names_under key no_members = []
names_under key (member kind d kinds) = name_under key kind d ++ names_under key kinds

abbrev names_in : List ℕ → Option Members → List (List ℕ)
names_in key None = []
names_in key (Some kinds) = names_under key kinds

abbrev pub names_at : List ℕ → Data → List (List ℕ)
names_at key d = names_in key (as_object d)

-- the names that known kinds give, by key and kind
abbrev pub given_names : Members → List (List ℕ)
given_names no_members = []
given_names (member key d keys) = names_at key d ++ given_names keys

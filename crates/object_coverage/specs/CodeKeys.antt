-- The keys that the code of a file is laid out by: those of the stored properties of each struct that stands in it.
use Rattle.std.specs.Prelude.{ℕ, List, [], ◌∷◌, ◌++◌, map, flat_map, Option, Some, None}
use Rattle.dep_key.specs.declared.key.Key.{Key}
use Rattle.dep_key.specs.KeyBuilders.{nominal}
use Rattle.type_rules.specs.declared.ty.Ty.{Ty}
use Rattle.type_rules.specs.declared.ty.Ty.TheVariants as ty
use Rattle.typed_code.specs.declared.step.Step.{Step, Step-F, fold-Step}
use Rattle.typed_code.specs.declared.step.Branch.{Branch, Branch-F, fold-Branch}
use Rattle.typed_code.specs.declared.units.Initial.{Initial}
use Rattle.typed_code.specs.declared.units.Initial.TheVariants as initially
use Rattle.typed_code.specs.declared.units.Unit.{Unit as CodeUnit}
use Rattle.typed_code.specs.declared.units.Unit.TheVariants as unit

-- A struct has the size of its stored properties, and the size of any other type is known.
abbrev pub type_keys : Ty → List Key
type_keys (ty.Struct context) = nominal context ∷ []
type_keys ty.Int = []
type_keys ty.String = []
type_keys ty.Bool = []
type_keys ty.Void = []

abbrev pub types_keys : List Ty → List Key
types_keys types = flat_map type_keys types

-- members on the way to what is assigned, each by the context of its struct
abbrev pub members_keys : List (List ℕ × List ℕ) → List Key
members_keys members = map (λ (member : List ℕ × List ℕ). nominal member.0) members

abbrev pub joined_keys : List (List Key) → List Key
joined_keys lists = flat_map (λ keys. keys) lists

-- The keys of each step, where those of the steps inside it are known.
abbrev pub step_layer_keys : Step-F (List Key) (List Key) → List Key
step_layer_keys (Step-F.Integer text) = []
step_layer_keys (Step-F.StringText text) = []
step_layer_keys (Step-F.Truth value) = []
step_layer_keys (Step-F.Local number of) = type_keys of
step_layer_keys (Step-F.SelfValue of) = type_keys of
step_layer_keys (Step-F.Global symbol of) = type_keys of
step_layer_keys (Step-F.Property context name of) = nominal context ∷ type_keys of
step_layer_keys (Step-F.Call symbol takes gives) = types_keys takes ++ type_keys gives
step_layer_keys (Step-F.Print of) = []
step_layer_keys (Step-F.Operate operator of) = []
step_layer_keys Step-F.Negate = []
step_layer_keys Step-F.Not = []
step_layer_keys (Step-F.And right) = joined_keys right
step_layer_keys (Step-F.Or right) = joined_keys right
step_layer_keys (Step-F.SetLocal number members of) = members_keys members ++ type_keys of
step_layer_keys (Step-F.SetGlobal symbol members of) = members_keys members ++ type_keys of
step_layer_keys (Step-F.Return of) = type_keys of
step_layer_keys (Step-F.Drop of) = type_keys of
step_layer_keys (Step-F.While condition block) = joined_keys condition ++ joined_keys block
step_layer_keys (Step-F.If branches last) = joined_keys branches ++ joined_keys last

abbrev pub branch_layer_keys : Branch-F (List Key) (List Key) → List Key
branch_layer_keys b = joined_keys b.condition ++ joined_keys b.block

unfoldable pub step_keys : Step → List Key
step_keys = fold-Step (List Key) (List Key) step_layer_keys branch_layer_keys

unfoldable pub branch_keys : Branch → List Key
branch_keys = fold-Branch (List Key) (List Key) step_layer_keys branch_layer_keys

abbrev pub steps_keys : List Step → List Key
steps_keys steps = flat_map step_keys steps

-- the type of `self`, where there is one
abbrev pub receiver_keys : Option Ty → List Key
receiver_keys None = []
receiver_keys (Some of) = type_keys of

abbrev pub initial_keys : Initial → List Key
initial_keys (initially.Given of) = type_keys of
initial_keys (initially.Own steps) = steps_keys steps

-- The keys that a unit of code is laid out by.
abbrev pub unit_keys : CodeUnit → List Key
unit_keys (unit.Global symbol of steps) = type_keys of ++ steps_keys steps
unit_keys (unit.Function symbol f) = receiver_keys f.receiver ++ (types_keys f.types ++ (type_keys f.result ++ steps_keys f.code))
unit_keys (unit.Initializer context initials) = nominal context ∷ flat_map initial_keys initials

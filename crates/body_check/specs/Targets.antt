-- What is assigned to, as contracts see it.
use Rattle.std.specs.Prelude.{ℕ, List, Option, Some, None}
use Rattle.type_rules.specs.declared.ty.Ty.{Ty}
use Rattle.typed_code.specs.declared.step.Step.{Step}
use Rattle.typed_code.specs.declared.step.Step.TheVariants as step
use Rattle.body_check.specs.declared.targets.Destination as code
use Rattle.body_check.specs.declared.targets.Root.{Root}
use Rattle.body_check.specs.declared.targets.Root.TheVariants as root
use Rattle.swift_ast.specs.Leaves.{Leaf}
use Rattle.checks.specs.Checks.{on_value, found}
use Rattle.expr_check.specs.declared.scope.Scope.{Scope}
use Rattle.expr_check.specs.Types.{CheckOf}
use Rattle.body_check.specs.Statements.{Destination, member_destination, members_destination}

-- the step that puts a value there
abbrev pub stored_at : Root → List (List ℕ × List ℕ) → Ty → Step
stored_at (root.Local number) = step.SetLocal number
stored_at (root.Global symbol) = step.SetGlobal symbol

abbrev pub destination_of : code.Destination → Destination
destination_of d = record { of = d.ty; store = stored_at d.root; members = d.members }

abbrev pub destination_view : Option code.Destination → Option Destination
destination_view None = None
destination_view (Some d) = Some (destination_of d)

-- a member of what was found, if it was
abbrev pub member_behind : Scope → Leaf → Leaf → Option Destination → CheckOf Destination
member_behind s root m destination = on_value destination (member_destination s root m)

-- members, each of the one before, behind what was found, if it was
abbrev pub members_behind : Scope → Leaf → Option Destination → List (Leaf × Leaf) → CheckOf Destination
members_behind s root destination members = members_destination s root (found destination) members

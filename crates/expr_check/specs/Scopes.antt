-- What is in scope at a place of a body.
use Rattle.std.specs.Prelude.{ℕ, Bool, List, [], ◌∷◌, ◌++◌, length, nat_eq, Option, Some, None, if◌then◌else◌}
use Rattle.std.specs.Cmp.Lexicographic.{pointwise}
use Rattle.type_rules.specs.declared.ty.Ty.{Ty}
use Rattle.expr_check.specs.declared.scope.Local.{Local}
use Rattle.expr_check.specs.declared.scope.Scope.{Scope}

abbrev pub same_text : List ℕ → List ℕ → Bool
same_text = pointwise nat_eq

abbrev pub or_else : {X : Type 0} → Option X → Option X → Option X
or_else (Some x) other = Some x
or_else None other = other

-- of one name in one block, the first
abbrev pub named_in : List Local → List ℕ → Option Local
named_in [] name = None
named_in (l ∷ locals) name = if same_text l.name name then Some l else named_in locals name

-- The local or the parameter of a name, from the innermost block outwards. The innermost block is the last one.
abbrev pub local_named : List (List Local) → List ℕ → Option Local
local_named [] name = None
local_named (block ∷ blocks) name = or_else (local_named blocks name) (named_in block name)

-- the innermost block
abbrev pub innermost : List (List Local) → List Local
innermost [] = []
innermost (block ∷ []) = block
innermost (block ∷ next ∷ blocks) = innermost (next ∷ blocks)

-- with one more in the innermost block
abbrev pub in_innermost : List (List Local) → Local → List (List Local)
in_innermost [] l = (l ∷ []) ∷ []
in_innermost (block ∷ []) l = (block ++ l ∷ []) ∷ []
in_innermost (block ∷ next ∷ blocks) l = block ∷ in_innermost (next ∷ blocks) l

-- with one parameter or local more, whose number is how many there were before it
abbrev pub declaring : Scope → List ℕ → Option Ty → Bool → Scope
declaring s name of mutable = record s {
  blocks = in_innermost s.blocks (record { name = name; ty = of; mutable = mutable; number = length s.types });
  types = s.types ++ of ∷ [];
}

-- inside a new block
abbrev pub entering : Scope → Scope
entering s = record s { blocks = s.blocks ++ [] ∷ [] }

-- behind a block: its locals are out of scope, and their numbers are not used again
abbrev pub leaving : Scope → Scope → Scope
leaving outer inner = record outer { types = inner.types }

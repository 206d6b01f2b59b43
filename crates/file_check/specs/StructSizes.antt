-- The sizes of structs, which are looked up and are no use.
use Rattle.std.specs.Prelude.{ℕ, ◌+◌, List, [], ◌∷◌, Option, Some, None}
use Rattle.queries.specs.Queries.{value_with}
use Rattle.dep_key.specs.declared.key.Key.{Key}
use Rattle.type_rules.specs.declared.meaning.Meaning.{Meaning}
use Rattle.type_rules.specs.declared.meaning.Meaning.TheVariants as means
use Rattle.swift_ast.specs.Leaves.{Leaf}
use Rattle.swift_ast.specs.declared.declarations.Access.{Access}
use Rattle.swift_ast.specs.declared.declarations.Struct.{Struct}
use Rattle.swift_ast.specs.declared.declarations.StructMember.{StructMember}
use Rattle.expr_check.specs.declared.line.Line.{Line}
use Rattle.body_check.specs.Declarations.{Site, member_words, too_large}

abbrev pub added : Option ℕ → Option ℕ → Option ℕ
added (Some one) (Some others) = Some (one + others)
added (Some one) None = None
added None others = None

-- the words of the stored properties among some members, where each is known
abbrev pub all_words : (Key → Meaning) → Site → List ℕ → List (Option Access × StructMember) → Option ℕ
all_words meanings f context [] = Some 0
all_words meanings f context (m ∷ members) = added (value_with meanings (member_words f context m)).value (all_words meanings f context members)

abbrev pub size_lines : Leaf → Option ℕ → List Line
size_lines name None = []
size_lines name (Some words) = too_large name words

-- what is said of the size of a struct
abbrev pub sized : (Key → Meaning) → Site → List ℕ → Struct → Meaning → List Line
sized meanings f context d means.Ambiguous = []
sized meanings f context d fields = size_lines d.name (all_words meanings f context d.members)

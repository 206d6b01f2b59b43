-- Members of structs and of extensions, as they are put together.
use Rattle.std.specs.Prelude.{ℕ, List, [], ◌∷◌, ◌++◌, map, Option, Some}
use Rattle.std.specs.Option.{option_map}
use Rattle.dep_key.specs.declared.key.Key.{Key}
use Rattle.dep_key.specs.KeyBuilders.{nominal}
use Rattle.type_rules.specs.declared.meaning.Meaning.{Meaning}
use Rattle.swift_ast.specs.declared.declarations.Struct.{Struct}
use Rattle.swift_ast.specs.declared.statements.TypeName.{TypeName}
use Rattle.typed_code.specs.declared.units.Initial.{Initial}
use Rattle.typed_code.specs.declared.units.Unit.{Unit as CodeUnit}
use Rattle.checks.specs.Checks.{sure, ◌>>=◌, noting, tried, all}
use Rattle.checks.specs.OwnKeys.{used}
use Rattle.expr_check.specs.declared.typed.Typed.{Typed}
use Rattle.expr_check.specs.Phrases.{Phrase}
use Rattle.expr_check.specs.Types.{type_written}
use Rattle.body_check.specs.Declarations.{FileCheck, UnitCheck, Site, MemberCode, used_meaning, outside, lines_of, circle, size_check, struct_member_check, struct_units, initializer_units, all_there}
use Rattle.file_check.specs.declared.members.Part.{Part}
use Rattle.file_check.specs.declared.members.Part.TheVariants as part
use Rattle.file_check.specs.Runs.{Made, valued_by}

abbrev pub code_of : List (Option Initial) → List CodeUnit → MemberCode
code_of initials units = record { initials = initials; units = units }

-- what one more member gives
abbrev pub more : MemberCode → MemberCode → MemberCode
more before m = code_of (before.initials ++ m.initials) (before.units ++ m.units)

abbrev pub part_code : Part → MemberCode
part_code (part.Stored initial) = code_of (initial ∷ []) []
part_code (part.Code units) = code_of [] units

-- the initializer of a struct, and then the code of its members
abbrev pub struct_code : List ℕ → MemberCode → List CodeUnit
struct_code context members = initializer_units context (all_there members.initials) ++ members.units

-- what is made of a value
abbrev pub mapped : {X Y : Type 0} → (X → Y) → Made X → Made Y
mapped f made = (option_map f made.0, made.1)

-- an initial value whose type is written
abbrev pub written_value : Site → Key → TypeName → Phrase → FileCheck (Option Typed)
written_value f key t value = do
  wanted ← used (tried (type_written (outside f) t.name >>= (λ of. sure (Some of))))
  valued_by f key wanted value

-- a struct whose stored parts mean something
abbrev pub struct_fields : Site → List ℕ → Struct → Meaning → UnitCheck
struct_fields f context d fields = noting (lines_of (circle d.name fields)) (noting (size_check f context d fields) (all (map (struct_member_check f context) d.members) >>= (λ members. sure (struct_units context members))))

-- a struct, behind what is said of its name
abbrev pub struct_inside : Site → List ℕ → Struct → UnitCheck
struct_inside f context d = used_meaning (nominal context) (λ fields. struct_fields f context d fields)

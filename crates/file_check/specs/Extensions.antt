-- Extensions, by their contexts.
use Rattle.std.specs.Prelude.{ℕ, List, [], ◌∷◌, Some, None}
use Rattle.dep_key.specs.KeyBuilders.{top_level}
use Rattle.type_rules.specs.declared.ty.Ty.TheVariants as ty
use Rattle.swift_ast.specs.declared.declarations.Extension.{Extension}
use Rattle.checks.specs.Checks.{noting, hushed}
use Rattle.checks.specs.OwnKeys.{used}
use Rattle.expr_check.specs.Message as is
use Rattle.expr_check.specs.Messages.{line, place_of}
use Rattle.expr_check.specs.Types.{laid_out}
use Rattle.body_check.specs.Declarations.{UnitCheck, Site, used_meaning, lines_of, extension_members, extension_as}

-- an extension of a struct
abbrev pub extension_of_struct : Site → List ℕ → Extension → UnitCheck
extension_of_struct f context d = noting (used (laid_out (place_of d.name) (ty.Struct context))) (extension_members f context (Some (ty.Struct context)) d)

-- an extension of something that is no struct
abbrev pub extension_of_none : Site → List ℕ → Extension → UnitCheck
extension_of_none f context d = noting (lines_of (line (place_of d.name) (is.NotAStruct d.name.text) ∷ [])) (hushed (extension_members f context None d))

-- an extension of a context
abbrev pub extension_in : Site → List ℕ → Extension → UnitCheck
extension_in f context d = used_meaning (top_level context) (λ meaning. extension_as f context d meaning)

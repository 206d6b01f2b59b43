-- What is said of an alias' type, which is looked up and is no use.
use Rattle.std.specs.Prelude.{ℕ, true, false, List, [], ◌∷◌, Option, Some, None}
use Rattle.dep_key.specs.declared.key.Key.{Key}
use Rattle.dep_key.specs.KeyBuilders.{top_level, key_name}
use Rattle.type_rules.specs.declared.ty.Ty.{Ty}
use Rattle.type_rules.specs.declared.meaning.Meaning.{Meaning}
use Rattle.type_rules.specs.declared.meaning.Meaning.TheVariants as means
use Rattle.swift_ast.specs.Leaves.{Leaf}
use Rattle.expr_check.specs.Message as is
use Rattle.expr_check.specs.declared.line.Line.{Line}
use Rattle.expr_check.specs.Messages.{line, place_of}
use Rattle.expr_check.specs.Scopes.{or_else}
use Rattle.expr_check.specs.Types.{built_in_type}

-- what a key means that has a provider
abbrev pub meant : Meaning → Option Meaning
meant means.NoProvider = None
meant meaning = Some meaning

-- what a name means outside structs and extensions, in the file of a path
abbrev pub first_meant : (Key → Meaning) → List ℕ → List ℕ → Option Meaning
first_meant meanings path name = or_else (meant (meanings (top_level (key_name path true name)))) (meant (meanings (top_level (key_name path false name))))

abbrev pub built_in_lines : Leaf → Option Ty → List Line
built_in_lines t None = line (place_of t) (is.TypeNotFound t.text) ∷ []
built_in_lines t (Some of) = []

abbrev pub meaning_lines : Leaf → Meaning → List Line
meaning_lines t means.Ambiguous = line (place_of t) (is.Ambiguous t.text) ∷ []
meaning_lines t means.Broken = line (place_of t) (is.HasErrors t.text) ∷ []
meaning_lines t means.Circular = line (place_of t) (is.HasErrors t.text) ∷ []
meaning_lines t (means.Struct context) = []
meaning_lines t (means.Alias of) = []
meaning_lines t _ = line (place_of t) (is.NotAType t.text) ∷ []

-- what is said of a type's name by what it means, if it means anything
abbrev pub type_lines : Leaf → Option Meaning → List Line
type_lines t None = built_in_lines t (built_in_type t.text)
type_lines t (Some meaning) = meaning_lines t meaning

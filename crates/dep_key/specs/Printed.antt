-- How keys are printed.
use Rattle.std.specs.Prelude.{ℕ, List, [], ◌++◌, if◌then◌else◌, codes}
use Rattle.dep_key.specs.declared.kind.Kind.{Kind}
use Rattle.dep_key.specs.declared.kind.Kind.TheVariants.{TopLevel, Nominal, PotentialMember, Member, DynamicLookup, ExternalDepend, SourceFileProvide}
use Rattle.dep_key.specs.declared.key.Key.{Key}
use Rattle.dep_key.specs.KeyShapes.{is_filled}

-- The word of a kind, as the dependency files of Swift's compiler have it.
abbrev pub kind_word : Kind → List ℕ
kind_word TopLevel = codes "topLevel"
kind_word Nominal = codes "nominal"
kind_word PotentialMember = codes "potentialMember"
kind_word Member = codes "member"
kind_word DynamicLookup = codes "dynamicLookup"
kind_word ExternalDepend = codes "externalDepend"
kind_word SourceFileProvide = codes "sourceFileProvide"

-- a blank and the text, and nothing of an empty text
abbrev pub behind_blank : List ℕ → List ℕ
behind_blank text = if is_filled text then codes " " ++ text else []

-- A key is printed as the word of its kind, and then those of its context and its name that are filled, parted by blanks.
abbrev pub printed_key : Key → List ℕ
printed_key key = kind_word key.kind ++ behind_blank key.context ++ behind_blank key.name

-- Sizes, offsets and slots, in words.
use Rattle.std.specs.Prelude.{ℕ, ◌+◌, List, [], ◌∷◌, ◌++◌, nat_eq, codes, Option, Some, None, if◌then◌else◌}
use Rattle.std.proofs.Common.{get_or}
use Rattle.std.specs.List.{sum_by}
use Rattle.std.specs.Cmp.Lexicographic.{pointwise}
use Rattle.dep_key.specs.declared.key.Key.{Key}
use Rattle.dep_key.specs.KeyBuilders.{nominal}
use Rattle.type_rules.specs.declared.ty.Ty.{Ty}
use Rattle.type_rules.specs.declared.meaning.Meaning.{Meaning}
use Rattle.type_rules.specs.declared.meaning.Meaning.TheVariants as means
use Rattle.type_rules.specs.declared.meaning.Field.{Field}
use Rattle.type_rules.specs.Sizes.{field_words, words_of}

-- a number that is there, and 0 where none is
abbrev pub or_zero : Option ℕ → ℕ
or_zero None = 0
or_zero (Some n) = n

-- the words of a type
abbrev pub words : (Key → Meaning) → Ty → ℕ
words answers of = or_zero (words_of answers of)

-- the words of the struct of a context
abbrev pub struct_words : (Key → Meaning) → List ℕ → ℕ
struct_words answers context = or_zero (field_words (answers (nominal context)))

-- the words of values of these types together
unfoldable pub total : (Key → Meaning) → List Ty → ℕ
total answers types = sum_by (words answers) types

abbrev pub receiver_words : (Key → Meaning) → Option Ty → ℕ
receiver_words answers None = 0
receiver_words answers (Some of) = words answers of

-- The slots at which values of these types begin, which stand one behind the other from a slot on.
abbrev pub slots_from : (Key → Meaning) → ℕ → List Ty → List ℕ
slots_from answers first [] = []
slots_from answers first (of ∷ types) = first ∷ slots_from answers (first + words answers of) types

-- the slot of a number; one that has none has slot 0
abbrev pub slot_in : List ℕ → ℕ → ℕ
slot_in slots number = get_or slots number 0

-- the stored properties of a struct
abbrev pub stored : Meaning → List Field
stored (means.Fields fields words) = fields
stored means.NoProvider = []
stored means.Ambiguous = []
stored means.Broken = []
stored means.Circular = []
stored (means.Value mutable type_of) = []
stored (means.Function params result) = []
stored (means.Struct context) = []
stored (means.Alias type_of) = []

-- the offset of the field of a name
abbrev pub offset_in : List Field → List ℕ → Option ℕ
offset_in [] name = None
offset_in (f ∷ fields) name = if pointwise nat_eq f.name name then Some f.offset else offset_in fields name

-- The offset of a stored property, by its name in keys, in the struct of a context; none where it is no stored property.
abbrev pub offset_of : (Key → Meaning) → List ℕ → List ℕ → Option ℕ
offset_of answers context name = offset_in (stored (answers (nominal context))) name

-- a member by the context of its struct and its name in keys
abbrev pub member_offset : (Key → Meaning) → List ℕ × List ℕ → ℕ
member_offset answers member = or_zero (offset_of answers member.0 member.1)

-- how far inside a value a member of its members stands
unfoldable pub offset_along : (Key → Meaning) → List (List ℕ × List ℕ) → ℕ
offset_along answers members = sum_by (member_offset answers) members

-- the symbol of a member of a context
abbrev pub member_symbol : List ℕ → List ℕ → List ℕ
member_symbol context name = context ++ codes ":" ++ name

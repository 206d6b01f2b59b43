-- The sizes of types, in words.
use Rattle.std.specs.Prelude.{ℕ, Bool, true, false, Option, Some, None}
use Rattle.dep_key.specs.declared.key.Key.{Key}
use Rattle.dep_key.specs.KeyBuilders.{nominal}
use Rattle.type_rules.specs.declared.ty.Ty.{Ty}
use Rattle.type_rules.specs.declared.ty.Ty.TheVariants as ty
use Rattle.type_rules.specs.declared.meaning.Meaning.{Meaning}
use Rattle.type_rules.specs.declared.meaning.Meaning.TheVariants as means

-- Whether a type is a struct.
abbrev pub is_struct : Ty → Bool
is_struct (ty.Struct context) = true
is_struct ty.Int = false
is_struct ty.String = false
is_struct ty.Bool = false
is_struct ty.Void = false

-- The words of the fields that a key means, and none where it means no fields.
abbrev pub field_words : Meaning → Option ℕ
field_words (means.Fields fields words) = Some words
field_words means.NoProvider = None
field_words means.Ambiguous = None
field_words means.Broken = None
field_words means.Circular = None
field_words (means.Value mutable type_of) = None
field_words (means.Function params result) = None
field_words (means.Struct context) = None
field_words (means.Alias type_of) = None

-- An integer and a Boolean take one word, a string two, and `Void` none. A struct takes what its fields take
-- together, which is known where the key of its stored properties means fields.
abbrev pub words_of : (Key → Meaning) → Ty → Option ℕ
words_of meanings ty.Int = Some 1
words_of meanings ty.String = Some 2
words_of meanings ty.Bool = Some 1
words_of meanings ty.Void = Some 0
words_of meanings (ty.Struct context) = field_words (meanings (nominal context))

-- What is known of sizes.
use Rattle.std.proofs.Common.{◌≡◌, refl}
use Rattle.queries.specs.Queries.{value_with}
use Rattle.dep_key.specs.declared.key.Key.{Key}
use Rattle.type_rules.specs.declared.ty.Ty.{Ty}
use Rattle.type_rules.specs.declared.ty.Ty.TheVariants as ty
use Rattle.type_rules.specs.declared.meaning.Meaning.{Meaning}
use Rattle.type_rules.specs.Sizes.{words_of}
use Rattle.body_check.specs.Declarations.{words}

pub words_value : (meanings : Key → Meaning) (of : Ty) → words_of meanings of ≡ (value_with meanings (words of)).value
words_value meanings ty.Int = refl
words_value meanings ty.String = refl
words_value meanings ty.Bool = refl
words_value meanings ty.Void = refl
words_value meanings (ty.Struct context) = refl

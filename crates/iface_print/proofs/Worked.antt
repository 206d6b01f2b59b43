-- The worked module, computed.
use Rattle.std.proofs.Common.{◌≡◌, ℕ, ◌+◌, ◌<◌, true, List, [], ◌∷◌, ◌++◌, Some, refl, ◌∙◌, arith}
use Rattle.std.specs.Prelude.{codes, decimal}
use Rattle.std.proofs.lemmas.Fmt.{decimal_digit}
use Rattle.dep_key.specs.KeyBuilders.{top_level, nominal, key_name}
use Rattle.type_rules.specs.declared.ty.Ty.TheVariants as ty
use Rattle.type_rules.specs.declared.meaning.Meaning.TheVariants as means
use Rattle.iface_print.specs.Examples.{worked, third_file, Means, CirclesAreCircular, ErrorsAreBroken, FieldsAreLaidOut, PartialTextsAreForOthers}
use Rattle.iface_print.specs.Prints.{print_in}
use Rattle.iface_print.specs.Partials.{partial_text, partial_line}
use Rattle.type_infer.specs.Meanings.{having, meaning_in}
use Rattle.type_infer.specs.Readings.{written_type, words_query}
use Rattle.expr_check.specs.Types.{look_up}

pub circles : CirclesAreCircular
unfolding print_in meaning_in having written_type words_query look_up
circles = record { alias_is = refl; alias_print = refl; struct_is = refl; missing_is = refl; fields_are = refl; fields_print = refl }

pub errors : ErrorsAreBroken
unfolding print_in meaning_in having written_type words_query look_up
errors = record { missing_is = refl; user_is = refl; user_print = refl }

-- the prints of the three structs, by their numbers
abbrev holder : List ℕ → List ℕ → List ℕ → List ℕ → List ℕ
holder words x n t =
    codes "internal struct P " ++ (words ++ (codes " | let x: Swift.Int " ++ (x ++ (codes " | var n: Swift.String " ++ (n ++ (codes " | let t: T@a.swift " ++ (t ++ [])))))))

abbrev own : List ℕ → List ℕ → List ℕ
own words b = codes "private struct T " ++ (words ++ (codes " | let b: Swift.Bool " ++ (b ++ [])))

abbrev shared : List ℕ → List ℕ
shared words = codes "public struct T " ++ (words ++ [])

digit : (n : ℕ) → n < 10 → decimal n ≡ (48 + n) ∷ []
digit = decimal_digit

holder-print : print_in worked (codes "a.swift") (nominal (codes "P")) ≡ Some (holder (decimal 4) (decimal 0) (decimal 1) (decimal 3) ++ [])
unfolding print_in meaning_in having written_type words_query look_up
holder-print = refl

own-print : print_in worked (codes "a.swift") (nominal (codes "T@a.swift")) ≡ Some (own (decimal 1) (decimal 0) ++ [])
unfolding print_in meaning_in having written_type words_query look_up
own-print = refl

shared-print : print_in worked (codes "b.swift") (nominal (codes "T")) ≡ Some (shared (decimal 0) ++ [])
unfolding print_in meaning_in having written_type words_query look_up
shared-print = refl

own-means : Means (top_level (key_name (codes "a.swift") true (codes "T"))) (means.Struct (codes "T@a.swift"))
unfolding meaning_in having written_type words_query look_up
own-means = refl

alias-means : Means (top_level (codes "U")) (means.Alias (ty.Struct (codes "T")))
unfolding meaning_in having written_type words_query look_up
alias-means = refl

pub fields : FieldsAreLaidOut
fields =
    let zero_is : decimal 0 ≡ codes "0" = digit 0 (omega arith) in
    let one_is : decimal 1 ≡ codes "1" = digit 1 (omega arith) in
    let three_is : decimal 3 ≡ codes "3" = digit 3 (omega arith) in
    let four_is : decimal 4 ≡ codes "4" = digit 4 (omega arith) in record {
      fields_print = holder-print ∙ (λ i. Some (holder (four_is i) (zero_is i) (one_is i) (three_is i) ++ []));
      own_is = own-means;
      own_print = own-print ∙ (λ i. Some (own (one_is i) (zero_is i) ++ []));
      shared_print = shared-print ∙ (λ i. Some (shared (zero_is i) ++ []));
      alias_is = alias-means;
    }

-- the partial text of the third file, by its numbers
abbrev others : List ℕ → List ℕ → List ℕ → List ℕ
others words x b =
    codes "partial c.swift\npublic struct P " ++ ((words ++ codes "\n") ++ (codes "internal field P:x Int " ++ ((x ++ codes "\n") ++ (codes "internal field P:b Bool " ++ ((b ++ codes "\n") ++ codes "internal alias U P\n")))))

others-text : partial_text (meaning_in (third_file ∷ [])) third_file ≡ others (decimal 4) (decimal 0) (decimal 3)
unfolding partial_line meaning_in having written_type words_query look_up
others-text = refl

pub partials : PartialTextsAreForOthers
partials =
    let zero_is : decimal 0 ≡ codes "0" = digit 0 (omega arith) in
    let three_is : decimal 3 ≡ codes "3" = digit 3 (omega arith) in
    let four_is : decimal 4 ≡ codes "4" = digit 4 (omega arith) in record { text_is = others-text ∙ (λ i. others (four_is i) (zero_is i) (three_is i)) }

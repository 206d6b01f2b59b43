-- The fields of a struct, of more words than a struct has and of fewer.
use Rattle.std.proofs.Common.{◌≡◌, ◌≤◌, ◌<◌, cond, List, Some, sym, ap}
use Rattle.std.proofs.lemmas.Bool.{le-leb, lt-leb}
use Rattle.type_rules.specs.declared.meaning.Meaning.TheVariants as means
use Rattle.type_infer.specs.Readings.{Measured, laid_out, words_in, most_words, fields_meaning}

pub too_large : (ms : List Measured) → most_words < words_in ms → means.Broken ≡ fields_meaning (Some ms)
too_large ms h = ap (λ v. cond v (means.Fields (laid_out 0 ms) (words_in ms)) means.Broken) (sym (lt-leb (words_in ms) most_words h))

pub within : (ms : List Measured) → words_in ms ≤ most_words → means.Fields (laid_out 0 ms) (words_in ms) ≡ fields_meaning (Some ms)
within ms h = ap (λ v. cond v (means.Fields (laid_out 0 ms) (words_in ms)) means.Broken) (sym (le-leb (words_in ms) most_words h))

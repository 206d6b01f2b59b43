-- The name of a module is a text.
use Rattle.std.proofs.Common.{◌≡◌, ◌<◌, ℕ, true, List, [], ◌∷◌, arith}
use Rattle.std.specs.Prelude.{◌&&◌}
use Rattle.std.specs.List.{list_all}
use Rattle.std.specs.Str.{IsAscii, IsUtf8}
use Rattle.std.proofs.lemmas.Bool.{and_parts}
use Rattle.std.proofs.lemmas.Bool.Decides.{nat_tests}
use Rattle.std.proofs.lemmas.Str.{IsUtf8-from_ascii}
use Rattle.std.proofs.lemmas.Str.Ascii.{IsAscii-nil, IsAscii-cons}
use Rattle.swift_token.specs.Texts.{is_word_byte}
use Rattle.output_names.specs.ModuleNames.{is_module_name}
use Rattle.output_names.proofs.ModuleNamesLemmas.{word_bytes}

word_byte_is_ascii : (c : ℕ) → is_word_byte c ≡ true → c < 128
word_byte_is_ascii c h = grind (arith, nat_tests)

word_bytes_are_ascii : (cs : List ℕ) → list_all is_word_byte cs ≡ true → IsAscii cs
word_bytes_are_ascii [] h = IsAscii-nil
word_bytes_are_ascii (c ∷ cs) h = IsAscii-cons c cs (word_byte_is_ascii c (and_parts (is_word_byte c) _ h).0) (word_bytes_are_ascii cs (and_parts (is_word_byte c) _ h).1)

pub module_name_is_utf8 : (name : List ℕ) → is_module_name name ≡ true → IsUtf8 name
module_name_is_utf8 name h = IsUtf8-from_ascii name (word_bytes_are_ascii name (word_bytes name h))

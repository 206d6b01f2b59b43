-- The names of modules, and the names that begin with them.
use Rattle.std.proofs.Common.{◌≡◌, ◌<◌, ◌≤◌, ℕ, true, false, not, List, [], ◌∷◌, ◌++◌, length, refl, arith, nat_eq}
use Rattle.std.specs.Prelude.{◌&&◌, nat_le}
use Rattle.std.specs.List.{list_all, starts_with}
use Rattle.std.specs.Str.{IsAscii, IsUtf8}
use Rattle.std.proofs.lemmas.Bool.{and_parts, and_from}
use Rattle.std.proofs.lemmas.Bool.Decides.{nat_tests}
use Rattle.std.proofs.lemmas.Str.{IsUtf8-from_ascii}
use Rattle.std.proofs.lemmas.Str.Ascii.{IsAscii-nil, IsAscii-cons}
use Rattle.swift_token.specs.Texts.{begins_word, is_word_byte, is_word, is_identifier}
use Rattle.drv_outside.specs.Plain.{is_name_byte, is_plain_name, full_stop}
use Rattle.output_names.specs.ModuleNames.{is_module_name}
use Rattle.output_names.proofs.StemsLemmas.{name_with}

word_byte_ascii : (c : ℕ) → is_word_byte c ≡ true → c < 128
word_byte_ascii c h = grind (arith, nat_tests)

first_word_byte : (c : ℕ) → begins_word c ≡ true → is_word_byte c ≡ true
first_word_byte c h = grind (arith, nat_tests)

all_word_bytes : (word : List ℕ) → is_word word ≡ true → list_all is_word_byte word ≡ true
all_word_bytes [] h = cc
all_word_bytes (c ∷ cs) h = and_from _ _ (first_word_byte c (and_parts _ _ h).0) (and_parts (begins_word c) _ h).1

word_bytes_ascii : (cs : List ℕ) → list_all is_word_byte cs ≡ true → IsAscii cs
word_bytes_ascii [] h = IsAscii-nil
word_bytes_ascii (c ∷ cs) h = IsAscii-cons c cs (word_byte_ascii c (and_parts (is_word_byte c) _ h).0) (word_bytes_ascii cs (and_parts (is_word_byte c) _ h).1)

-- The bytes of a word are ASCII, and so UTF-8.
pub word_is_utf8 : (word : List ℕ) → is_word word ≡ true → IsUtf8 word
word_is_utf8 word h = IsUtf8-from_ascii word (word_bytes_ascii word (all_word_bytes word h))

-- the parts of a module's name
name_parts : (name : List ℕ) → is_module_name name ≡ true → (nat_le (length name) 100 ≡ true) × (is_word name ≡ true)
unfolding is_module_name
name_parts name h = ((and_parts (nat_le (length name) 100) (is_identifier name) h).0, (and_parts (is_word name) _ (and_parts (nat_le (length name) 100) (is_identifier name) h).1).0)

-- A module's name has bytes of words alone.
pub word_bytes : (name : List ℕ) → is_module_name name ≡ true → list_all is_word_byte name ≡ true
word_bytes name h = all_word_bytes name (name_parts name h).1

word_byte_plain : (c : ℕ) → is_word_byte c ≡ true → is_name_byte c ≡ true
word_byte_plain c h = grind (arith, nat_tests)

word_bytes_plain : (cs : List ℕ) → list_all is_word_byte cs ≡ true → list_all is_name_byte cs ≡ true
word_bytes_plain [] h = refl
word_bytes_plain (c ∷ cs) h = and_from _ _ (word_byte_plain c (and_parts _ _ h).0) (word_bytes_plain cs (and_parts (is_word_byte c) _ h).1)

first_byte_no_stop : (c : ℕ) → begins_word c ≡ true → nat_eq 46 c ≡ false
first_byte_no_stop c h = grind (arith, nat_tests)

at_most_100 : (n : ℕ) → nat_le n 100 ≡ true → n ≤ 200
at_most_100 n h = grind (arith, nat_tests)

starts_well : (c : ℕ) (rest : List ℕ) → nat_eq 46 c ≡ false → not (starts_with nat_eq (c ∷ rest) full_stop) ≡ true
starts_well c rest h = rw h refl

word_name_plain : (name ending : List ℕ) → is_word name ≡ true → length name ≤ 200 → list_all is_name_byte ending ≡ true → length ending ≤ 55 → is_plain_name (name ++ ending) ≡ true
word_name_plain [] ending h few e short = cc
word_name_plain (c ∷ cs) ending h few e short =
    name_with (c ∷ cs) ending (word_bytes_plain (c ∷ cs) (all_word_bytes (c ∷ cs) h)) e (omega arith) few short (starts_well c (cs ++ ending) (first_byte_no_stop c (and_parts (begins_word c) _ h).0))

-- A module's name and a short ending are a plain name.
pub module_name_plain : (name ending : List ℕ) → is_module_name name ≡ true → list_all is_name_byte ending ≡ true → length ending ≤ 55 → is_plain_name (name ++ ending) ≡ true
module_name_plain name ending h e short = word_name_plain name ending (name_parts name h).1 (at_most_100 (length name) (name_parts name h).0) e short

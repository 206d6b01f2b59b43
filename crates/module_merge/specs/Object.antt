-- Object texts.
use Rattle.std.specs.Prelude.{◌&&◌, ◌||◌, cond, ℕ, Bool, not, List, codes, drop, length, nat_eq}
use Rattle.std.specs.List.{list_all, slice_split, before_first, after_first, starts_with}
use Rattle.std.specs.Cmp.Lexicographic.{pointwise}
use Rattle.std.specs.Char.{is_ascii_digit}
use Rattle.module_merge.specs.Lines.{is_line_feed, is_blank, begins_with, is_headed}

-- what stands before the first blank, and what stands after it
abbrev pub first_word : List ℕ → List ℕ
first_word = before_first is_blank

abbrev pub after_word : List ℕ → List ℕ
after_word = after_first is_blank

abbrev pub are_digits : List ℕ → Bool
are_digits = list_all is_ascii_digit

abbrev pub has_no_leading_zero : List ℕ → Bool
has_no_leading_zero text = pointwise nat_eq text (codes "0") || not (starts_with nat_eq text (codes "0"))

-- decimal digits, of which the first is no 0 but in "0" itself
abbrev pub is_numeral : List ℕ → Bool
is_numeral text = (not (nat_eq (length text) 0) && are_digits text) && has_no_leading_zero text

-- two numerals, parted by a blank
abbrev pub are_two_numerals : List ℕ → Bool
are_two_numerals text = is_numeral (first_word text) && is_numeral (after_word text)

-- three numerals, parted by blanks
abbrev pub are_three_numerals : List ℕ → Bool
are_three_numerals text = is_numeral (first_word text) && are_two_numerals (after_word text)

-- "0" and then a numeral, parted by a blank
abbrev pub is_zero_and_numeral : List ℕ → Bool
is_zero_and_numeral text = pointwise nat_eq (first_word text) (codes "0") && is_numeral (after_word text)

-- a symbol before the first blank: it is filled
abbrev pub has_symbol : List ℕ → Bool
has_symbol text = not (nat_eq (length (first_word text)) 0)

-- A line that begins with the word goes on, after a blank, with a symbol, a blank and such operands.
abbrev pub goes_on : List ℕ → List ℕ → (List ℕ → Bool) → List ℕ → Bool
goes_on word word_and_blank are_operands line =
    cond (begins_with line word_and_blank) (has_symbol (drop (length word_and_blank) line) && are_operands (after_word (drop (length word_and_blank) line))) (not (starts_with nat_eq line word))

-- "global SYMBOL W"
abbrev pub is_global_line : List ℕ → Bool
is_global_line = goes_on (codes "global") (codes "global ") is_numeral

-- "func SYMBOL P S R"
abbrev pub is_func_line : List ℕ → Bool
is_func_line = goes_on (codes "func") (codes "func ") are_three_numerals

-- " load SYMBOL 0 W"
abbrev pub is_load_line : List ℕ → Bool
is_load_line = goes_on (codes " load") (codes " load ") is_zero_and_numeral

-- " store SYMBOL OFFSET W"
abbrev pub is_store_line : List ℕ → Bool
is_store_line = goes_on (codes " store") (codes " store ") are_two_numerals

-- " call SYMBOL WORDS W"
abbrev pub is_call_line : List ℕ → Bool
is_call_line = goes_on (codes " call") (codes " call ") are_two_numerals

-- A line that begins with one of these words has that word's form.
abbrev pub is_object_line : List ℕ → Bool
is_object_line line = (((is_global_line line && is_func_line line) && is_load_line line) && is_store_line line) && is_call_line line

abbrev pub are_object_lines : List ℕ → Bool
are_object_lines text = list_all is_object_line (slice_split is_line_feed text)

-- Lines that each end with a line feed, the first of them "object PATH" with a plain path, and each
-- of these forms where it begins with such a word.
abbrev pub is_object : List ℕ → Bool
is_object text = is_headed (codes "object ") text && are_object_lines text

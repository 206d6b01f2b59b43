-- The lines and the words of a text.
use Rattle.std.specs.Prelude.{◌&&◌, ◌++◌, ℕ, Bool, cond, List, [], ◌∷◌, codes, take, drop, length, nat_eq}
use Rattle.std.specs.List.{before_first, ends_with, flat_map, onto_first}
use Rattle.std.specs.Cmp.Lexicographic.{pointwise}
use Rattle.drv_outside.specs.Plain.{is_plain_path}

abbrev pub is_line_feed : ℕ → Bool
is_line_feed b = nat_eq b 10

abbrev pub is_blank : ℕ → Bool
is_blank b = nat_eq b 32

-- each line ends with a line feed, and there is at least one
abbrev pub has_ended_lines : List ℕ → Bool
has_ended_lines text = ends_with nat_eq text (codes "\n")

-- the first line, without its line feed
abbrev pub first_line : List ℕ → List ℕ
first_line = before_first is_line_feed

-- the lines of a text, without their line feeds
abbrev pub lines_of : List ℕ → List (List ℕ)
lines_of [] = []
lines_of (b ∷ rest) = cond (is_line_feed b) ([] ∷ lines_of rest) (onto_first b (lines_of rest))

-- the text of these lines, each ended by a line feed
abbrev pub text_of : List (List ℕ) → List ℕ
text_of = flat_map (λ line. line ++ codes "\n")

abbrev pub all_but_first : List (List ℕ) → List (List ℕ)
all_but_first [] = []
all_but_first (line ∷ lines) = lines

abbrev pub begins_with : List ℕ → List ℕ → Bool
begins_with line word = pointwise nat_eq (take (length word) line) word

-- the word and then a plain path, and nothing else
abbrev pub is_heading : List ℕ → List ℕ → Bool
is_heading word line = begins_with line word && is_plain_path (drop (length word) line)

-- Lines that each end with a line feed, the first of them the word and then a plain path.
abbrev pub is_headed : List ℕ → List ℕ → Bool
is_headed word text = has_ended_lines text && is_heading word (first_line text)

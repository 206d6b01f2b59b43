-- What stands first in a text behind trivia, as the lexer finds it.
use Rattle.std.specs.Prelude.{ℕ, ◌+◌, Bool, false, ◌||◌, List, [], ◌∷◌, ◌==◌, nat_le, if◌then◌else◌, Option, Some, None, take, drop}
use Rattle.std.specs.List.{prefix_len}
use Rattle.swift_ast.specs.declared.TokenKind.TheVariants as kind
use Rattle.swift_token.specs.declared.faults.LexWhat.TheVariants as what
use Rattle.swift_token.specs.declared.next_lexeme.NextLexeme.{NextLexeme}
use Rattle.swift_token.specs.declared.next_lexeme.NextLexeme.TheVariants.{End, Token, Fault}
use Rattle.swift_token.specs.declared.characters.TheConstants.{QUOTE, STAR, UNDERSCORE}
use Rattle.swift_token.specs.declared.limits.TheConstants.{MAX_INTEGER}
use Rattle.swift_token.specs.Texts.{is_digit, is_letter, begins_word, is_word_byte, is_keyword, number_value, is_among, long_marks, short_marks}
use Rattle.swift_token.specs.Spelling.{begins_by, begins_comment}
use Rattle.swift_token.specs.Scans.{string_end, bad_escape}

abbrev pub is_number_byte : ℕ → Bool
is_number_byte c = is_digit c || c == UNDERSCORE

abbrev pub number_len : List ℕ → ℕ
number_len bs = prefix_len is_number_byte bs

abbrev pub number_lexeme : List ℕ → NextLexeme
number_lexeme bs =
    if begins_by is_letter (drop (number_len bs) bs) then Fault what.BadNumber 0
    else (if nat_le (number_value (take (number_len bs) bs)) MAX_INTEGER then Token kind.Integer (number_len bs) else Fault what.WideNumber 0)

abbrev pub word_lexeme : List ℕ → NextLexeme
word_lexeme bs = Token (if is_keyword (take (prefix_len is_word_byte bs) bs) then kind.Keyword else kind.Identifier) (prefix_len is_word_byte bs)

-- where a string through its closing quote has its bad escape, if it has one
abbrev pub closed_lexeme : ℕ → Option ℕ → NextLexeme
closed_lexeme n None = Token kind.StringText (n + 1)
closed_lexeme n (Some k) = Fault what.BadEscape k

abbrev pub ended_lexeme : List ℕ → Option ℕ → NextLexeme
ended_lexeme cs None = Fault what.OpenString 0
ended_lexeme cs (Some n) = closed_lexeme n (bad_escape false (take n cs))

-- by what stands behind an opening quote
abbrev pub string_lexeme : List ℕ → NextLexeme
string_lexeme cs = ended_lexeme cs (string_end false cs)

abbrev pub mark_lexeme : List ℕ → NextLexeme
mark_lexeme bs =
    if is_among long_marks (take 2 bs) then Token kind.Mark 2 else (if is_among short_marks (take 1 bs) then Token kind.Mark 1 else Fault what.BadCharacter 0)

-- by what stands behind the first byte of a comment that doesn't end
abbrev pub comment_lexeme : List ℕ → NextLexeme
comment_lexeme [] = End
comment_lexeme (d ∷ cs) = if d == STAR then Fault what.OpenComment 0 else End

abbrev pub next_lexeme : List ℕ → NextLexeme
next_lexeme [] = End
next_lexeme (c ∷ cs) =
    if is_digit c then number_lexeme (c ∷ cs)
    else (if begins_word c then word_lexeme (c ∷ cs)
    else (if c == QUOTE then string_lexeme cs else (if begins_comment (c ∷ cs) then comment_lexeme cs else mark_lexeme (c ∷ cs))))

-- The texts of single tokens.
use Rattle.std.specs.Prelude.{ℕ, ◌+◌, ◌-◌, ◌*◌, Bool, true, false, ◌&&◌, ◌||◌, not, List, [], ◌∷◌, nat_le, ◌==◌, if◌then◌else◌, codes, length, ◌++◌}
use Rattle.std.specs.List.{list_any, list_all, fold}
use Rattle.std.specs.Str.{bytes_eq}
use Rattle.swift_token.specs.declared.characters.TheConstants.{TAB, LINE_FEED, CARRIAGE_RETURN, SPACE, QUOTE, BACKSLASH, UNDERSCORE, DIGIT_0, DIGIT_9, UPPER_A, UPPER_Z, LOWER_A, LOWER_Z, LOWER_N, LOWER_R, LOWER_T}
use Rattle.swift_token.specs.declared.limits.TheConstants.{MAX_INTEGER}
use Rattle.swift_ast.specs.declared.TokenKind.{TokenKind}
use Rattle.swift_ast.specs.declared.TokenKind.TheVariants.{Identifier, Keyword, Integer, StringText, Mark}

-- space, tab, carriage return and line feed
abbrev pub is_blank : ℕ → Bool
is_blank c = c == SPACE || c == TAB || c == CARRIAGE_RETURN || c == LINE_FEED

abbrev pub is_letter : ℕ → Bool
is_letter c = (nat_le UPPER_A c && nat_le c UPPER_Z) || (nat_le LOWER_A c && nat_le c LOWER_Z)

abbrev pub is_digit : ℕ → Bool
is_digit c = nat_le DIGIT_0 c && nat_le c DIGIT_9

-- what a name can begin with: a letter or `_`
abbrev pub begins_word : ℕ → Bool
begins_word c = is_letter c || c == UNDERSCORE

-- what a name goes on with: a letter, a digit or `_`
abbrev pub is_word_byte : ℕ → Bool
is_word_byte c = begins_word c || is_digit c

-- a letter or `_`, then letters, digits and `_`
abbrev pub is_word : List ℕ → Bool
is_word [] = false
is_word (c ∷ cs) = begins_word c && list_all is_word_byte cs

-- the text is one of the list
abbrev pub is_among : List (List ℕ) → List ℕ → Bool
is_among texts text = list_any (λ t. bytes_eq t text) texts

-- the words that the subset uses, and those of Swift that it only reserves, by their length
abbrev pub keywords_to_2 : List (List ℕ)
keywords_to_2 = codes "_" ∷ codes "if" ∷ codes "in" ∷ codes "do" ∷ codes "is" ∷ codes "as" ∷ []

abbrev pub keywords_of_3 : List (List ℕ)
keywords_of_3 = codes "let" ∷ codes "var" ∷ codes "for" ∷ codes "try" ∷ codes "nil" ∷ codes "Any" ∷ []

abbrev pub keywords_of_4 : List (List ℕ)
keywords_of_4 = codes "func" ∷ codes "else" ∷ codes "true" ∷ codes "self" ∷ codes "enum" ∷ codes "init" ∷ codes "case" ∷ codes "Self" ∷ []

abbrev pub keywords_of_5 : List (List ℕ)
keywords_of_5 =
    codes "while" ∷ codes "false" ∷ codes "class" ∷ codes "catch" ∷ codes "throw" ∷ codes "guard" ∷ codes "defer" ∷ codes "break" ∷ codes "where" ∷ codes "inout"
    ∷ codes "super" ∷ []

abbrev pub keywords_of_6 : List (List ℕ)
keywords_of_6 =
    codes "struct" ∷ codes "return" ∷ codes "public" ∷ codes "import" ∷ codes "deinit" ∷ codes "switch" ∷ codes "throws" ∷ codes "repeat" ∷ codes "static" ∷ []

abbrev pub keywords_to_8 : List (List ℕ)
keywords_to_8 =
    codes "private" ∷ codes "default" ∷ codes "internal" ∷ codes "protocol" ∷ codes "rethrows" ∷ codes "continue" ∷ codes "operator" ∷ []

abbrev pub keywords_from_9 : List (List ℕ)
keywords_from_9 = codes "extension" ∷ codes "typealias" ∷ codes "fileprivate" ∷ codes "fallthrough" ∷ codes "subscript" ∷ codes "associatedtype" ∷ []

abbrev pub keywords : List (List ℕ)
keywords = keywords_to_2 ++ (keywords_of_3 ++ (keywords_of_4 ++ (keywords_of_5 ++ (keywords_of_6 ++ (keywords_to_8 ++ keywords_from_9)))))

abbrev pub is_keyword : List ℕ → Bool
is_keyword text = is_among keywords text

-- a word that isn't reserved
abbrev pub is_identifier : List ℕ → Bool
is_identifier text = is_word text && not (is_keyword text)

-- a digit, then digits and `_`
abbrev pub is_number : List ℕ → Bool
is_number [] = false
is_number (c ∷ cs) = is_digit c && list_all (λ d. is_digit d || d == UNDERSCORE) cs

-- the value of the digits in base 10, each `_` passed over
abbrev pub number_value : List ℕ → ℕ
number_value text = fold (λ n c. if c == UNDERSCORE then n else 10 * n + (c - DIGIT_0)) 0 text

abbrev pub is_escape : ℕ → Bool
is_escape c = c == LOWER_N || c == LOWER_T || c == LOWER_R || c == DIGIT_0 || c == BACKSLASH || c == QUOTE

-- a line feed or a carriage return, where no string goes on
abbrev pub breaks_string : ℕ → Bool
breaks_string c = c == LINE_FEED || c == CARRIAGE_RETURN

-- What stands behind a string's opening quote: characters and escapes, and the quote that closes it. A character is none
-- of `"`, `\`, line feed and carriage return; `\` stands before one of n, t, r, 0, \ and ". Where `escaped`, a `\` stands before the text.
abbrev pub ends_string : Bool → List ℕ → Bool
ends_string escaped [] = false
ends_string false (c ∷ cs) = if c == QUOTE then length cs == 0 else not (breaks_string c) && ends_string (c == BACKSLASH) cs
ends_string true (c ∷ cs) = is_escape c && ends_string false cs

abbrev pub is_string : List ℕ → Bool
is_string [] = false
is_string (c ∷ cs) = c == QUOTE && ends_string false cs

-- brackets, separators and operators, of one byte or two
abbrev pub long_marks : List (List ℕ)
long_marks = codes "->" ∷ codes "==" ∷ codes "!=" ∷ codes "<=" ∷ codes ">=" ∷ codes "&&" ∷ codes "||" ∷ []

abbrev pub short_marks : List (List ℕ)
short_marks =
    codes "(" ∷ codes ")" ∷ codes "{" ∷ codes "}" ∷ codes "," ∷ codes ":" ∷ codes "." ∷ codes "=" ∷ codes "<" ∷ codes ">" ∷ codes "+" ∷ codes "-" ∷ codes "*"
    ∷ codes "/" ∷ codes "%" ∷ codes "!" ∷ []

abbrev pub marks : List (List ℕ)
marks = long_marks ++ short_marks

-- the text is a token of the kind
abbrev pub is_token_text : TokenKind → List ℕ → Bool
is_token_text Identifier text = is_identifier text
is_token_text Keyword text = is_keyword text
is_token_text Integer text = is_number text && nat_le (number_value text) MAX_INTEGER
is_token_text StringText text = is_string text
is_token_text Mark text = is_among marks text

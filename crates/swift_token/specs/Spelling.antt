-- A list of tokens spells a text: a relation on whole texts.
use Rattle.std.specs.Prelude.{ℕ, ◌≡◌, ◌+◌, Bool, true, false, ◌&&◌, ◌||◌, not, List, [], ◌∷◌, ◌++◌, ◌==◌, length}
use Rattle.std.specs.List.{list_any, list_all, count_by, suffix_len}
use Rattle.swift_ast.specs.declared.TokenKind.{TokenKind}
use Rattle.swift_ast.specs.declared.TokenKind.TheVariants.{Integer}
use Rattle.swift_ast.specs.Leaves.{Leaf}
use Rattle.swift_token.specs.declared.characters.TheConstants.{LINE_FEED, SLASH, STAR}
use Rattle.swift_token.specs.Texts.{is_blank, is_word_byte, is_token_text}

abbrev pub is_line_feed : ℕ → Bool
is_line_feed c = c == LINE_FEED

-- the line and the column of the place behind a text: lines end at line feeds, and columns count bytes
abbrev pub line_behind : List ℕ → ℕ
line_behind before = 1 + count_by is_line_feed before

abbrev pub column_behind : List ℕ → ℕ
column_behind before = 1 + suffix_len (λ c. not (is_line_feed c)) before

-- no token is longer: none has the text and then more of what stands behind it
abbrev pub IsLongest : List ℕ → List ℕ → Type 0
IsLongest text after = (kind : TokenKind) (more rest : List ℕ) → after ≡ more ++ rest → is_token_text kind (text ++ more) ≡ true → more ≡ []

-- the first byte passes the test
abbrev pub begins_by : (ℕ → Bool) → List ℕ → Bool
begins_by test [] = false
begins_by test (c ∷ cs) = test c

-- `//` or `/*` stands first
abbrev pub begins_comment : List ℕ → Bool
begins_comment [] = false
begins_comment (c ∷ []) = false
begins_comment (c ∷ d ∷ cs) = c == SLASH && (d == SLASH || d == STAR)

-- The text is a token of the kind in front of what stands behind it. No letter, digit or `_` stands directly
-- behind an integer, and no token begins where a comment does.
pub record IsTokenIn (kind : TokenKind) (text after : List ℕ) : Type 0 where
  pub spelled : is_token_text kind text ≡ true
  pub longest : IsLongest text after
  pub number_ends : kind ≡ Integer → begins_by is_word_byte after ≡ false
  pub no_comment : begins_comment (text ++ after) ≡ false

-- A token's place and whether it is first on its line, by the text through the token before it and the trivia between the two.
pub record IsPlaced (before trivia : List ℕ) (t : Leaf) : Type 0 where
  pub line : t.line ≡ line_behind (before ++ trivia)
  pub column : t.column ≡ column_behind (before ++ trivia)
  pub first_on_line : t.first_on_line ≡ (length before == 0 || list_any is_line_feed trivia)

-- The tokens spell what stands behind `before`, a text through a token, where trivia of the kind stand between tokens and at both ends.
abbrev pub SpellsBehind : (List ℕ → Type 0) → List ℕ → List Leaf → List ℕ → Type 0
SpellsBehind IsTrivia before [] rest = IsTrivia rest
SpellsBehind IsTrivia before (t ∷ ts) rest =
    (trivia : List ℕ) × (after : List ℕ) × IsTrivia trivia × (rest ≡ trivia ++ (t.text ++ after)) × IsTokenIn t.kind t.text after × IsPlaced before trivia t
    × SpellsBehind IsTrivia (before ++ (trivia ++ t.text)) ts after

-- blanks alone
abbrev pub IsBlanks : List ℕ → Type 0
IsBlanks trivia = list_all is_blank trivia ≡ true

-- The tokens spell the text with blanks between them.
abbrev pub SpellsByBlanks : List Leaf → List ℕ → Type 0
SpellsByBlanks ts text = SpellsBehind IsBlanks [] ts text

-- What stands between tokens: blanks and comments.
use Rattle.std.specs.Prelude.{ℕ, zero, suc, ◌≡◌, Bool, true, false, ◌&&◌, ◌||◌, not, List, [], ◌∷◌, ◌++◌, ◌==◌, if◌then◌else◌, length}
use Rattle.std.specs.List.{list_all, concat}
use Rattle.swift_token.specs.declared.characters.TheConstants.{LINE_FEED, SLASH, STAR}
use Rattle.swift_token.specs.Texts.{is_blank}

-- the rest of a line, through its line feed
abbrev pub ends_line : List ℕ → Bool
ends_line [] = false
ends_line (c ∷ cs) = if c == LINE_FEED then length cs == 0 else ends_line cs

-- The rest of a comment in which `depth` comments are open, through the `*/` that closes the outermost. `/*` opens one more.
-- `last` is the byte before the text where it isn't one of such a pair, else 0.
abbrev pub closes_comment : ℕ → ℕ → List ℕ → Bool
closes_comment zero last cs = length cs == 0
closes_comment (suc depth) last [] = false
closes_comment (suc depth) last (c ∷ cs) =
    if last == STAR && c == SLASH then closes_comment depth 0 cs
    else (if last == SLASH && c == STAR then closes_comment (suc (suc depth)) 0 cs else closes_comment (suc depth) c cs)

-- a blank, a comment from `//` through the line feed, or a comment from `/*` through its `*/`
abbrev pub is_trivia_piece : List ℕ → Bool
is_trivia_piece [] = false
is_trivia_piece (c ∷ []) = is_blank c
is_trivia_piece (c ∷ d ∷ cs) = c == SLASH && ((d == SLASH && ends_line cs) || (d == STAR && closes_comment 1 0 cs))

-- blanks and comments
abbrev pub IsTrivia : List ℕ → Type 0
IsTrivia trivia = (pieces : List (List ℕ)) × (list_all is_trivia_piece pieces ≡ true) × (trivia ≡ concat pieces)

-- nothing, or a comment from `//` without a line feed
abbrev pub is_last_line : List ℕ → Bool
is_last_line [] = true
is_last_line (c ∷ []) = false
is_last_line (c ∷ d ∷ cs) = (c == SLASH && d == SLASH) && list_all (λ e. not (e == LINE_FEED)) cs

-- blanks and comments that end a text: the last comment may want its line feed
abbrev pub IsLastTrivia : List ℕ → Type 0
IsLastTrivia text = (trivia : List ℕ) × (line : List ℕ) × IsTrivia trivia × (text ≡ trivia ++ line) × (is_last_line line ≡ true)

-- The text begins with one that passes the test.
abbrev pub BeginsWith : (List ℕ → Bool) → List ℕ → Type 0
BeginsWith test text = (front : List ℕ) × (rest : List ℕ) × (text ≡ front ++ rest) × (test front ≡ true)

-- No blank or comment stands first.
abbrev pub NoTriviaPiece : List ℕ → Type 0
NoTriviaPiece text = BeginsWith is_trivia_piece text → ⊥

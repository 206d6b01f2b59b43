-- Where a string or a comment ends, as the lexer finds it.
use Rattle.std.specs.Prelude.{ℕ, zero, suc, ◌+◌, Bool, true, false, ◌&&◌, List, [], ◌∷◌, ◌==◌, if◌then◌else◌, Option, Some, None, option_map}
use Rattle.swift_token.specs.declared.characters.TheConstants.{LINE_FEED, QUOTE, BACKSLASH, SLASH, STAR}
use Rattle.swift_token.specs.Texts.{is_escape, breaks_string, is_blank}

abbrev pub later : ℕ → Option ℕ → Option ℕ
later n found = option_map (λ k. n + k) found

-- how many bytes stand through the quote that closes a string, if one does
abbrev pub string_end : Bool → List ℕ → Option ℕ
string_end escaped [] = None
string_end false (c ∷ cs) = if c == QUOTE then Some 1 else (if breaks_string c then None else later 1 (string_end (c == BACKSLASH) cs))
string_end true (c ∷ cs) = if breaks_string c then None else later 1 (string_end false cs)

-- how many bytes stand in front of the first byte that a `\` stands before and that is no escape
abbrev pub bad_escape : Bool → List ℕ → Option ℕ
bad_escape escaped [] = None
bad_escape false (c ∷ cs) = later 1 (bad_escape (c == BACKSLASH) cs)
bad_escape true (c ∷ cs) = if is_escape c then later 1 (bad_escape false cs) else Some 0

-- how many bytes stand through the `*/` that closes a comment, if one does
abbrev pub comment_end : ℕ → ℕ → List ℕ → Option ℕ
comment_end zero last cs = Some 0
comment_end (suc depth) last [] = None
comment_end (suc depth) last (c ∷ cs) =
    if last == STAR && c == SLASH then later 1 (comment_end depth 0 cs)
    else (if last == SLASH && c == STAR then later 1 (comment_end (suc (suc depth)) 0 cs) else later 1 (comment_end (suc depth) c cs))

-- how many bytes stand through the line feed of a line, if it has one
abbrev pub line_end : List ℕ → Option ℕ
line_end [] = None
line_end (c ∷ cs) = if c == LINE_FEED then Some 1 else later 1 (line_end cs)

-- how many bytes a comment has, by what stands behind its first byte
abbrev pub slash_end : List ℕ → Option ℕ
slash_end [] = None
slash_end (d ∷ ds) = if d == SLASH then later 2 (line_end ds) else (if d == STAR then later 2 (comment_end 1 0 ds) else None)

-- how many bytes the blank or the comment has that stands first, if one does
abbrev pub trivia_piece_end : List ℕ → Option ℕ
trivia_piece_end [] = None
trivia_piece_end (c ∷ cs) = if is_blank c then Some 1 else (if c == SLASH then slash_end cs else None)

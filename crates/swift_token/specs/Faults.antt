-- The tokens of a whole text, with comments between them, and its lexical fault.
use Rattle.std.specs.Prelude.{ℕ, ◌≡◌, ◌<◌, ◌↔◌, Bool, true, false, ◌&&◌, ◌||◌, not, List, [], ◌∷◌, ◌++◌, ◌==◌, length, if◌then◌else◌, map, Result, Ok, Err, Vec}
use Rattle.std.specs.Global.{Global}
use Rattle.swift_token.specs.declared.characters.TheConstants.{QUOTE, BACKSLASH, SLASH, STAR}
use Rattle.swift_token.specs.declared.limits.TheConstants.{MAX_INTEGER}
use Rattle.swift_ast.specs.Leaves.{Leaf, leaf_of}
use Rattle.swift_token.specs.declared.faults.LexWhat.{LexWhat}
use Rattle.swift_token.specs.declared.faults.LexWhat.TheVariants.{BadCharacter, BadNumber, WideNumber, OpenString, BadEscape, OpenComment}
use Rattle.swift_token.specs.declared.faults.LexFault.{LexFault}
use Rattle.swift_token.specs.declared.faults.LexEnd.{LexEnd}
use Rattle.swift_token.specs.declared.faults.LexEnd.TheVariants.{Fault, NoMemory}
use Rattle.swift_ast.specs.declared.Token.{Token}
use Rattle.swift_token.specs.Texts.{is_escape, breaks_string, is_blank, is_letter, is_word_byte, is_number, number_value, is_among, marks}
use Rattle.swift_token.specs.Spelling.{begins_by, IsTokenIn, IsPlaced, line_behind, column_behind}
use Rattle.swift_token.specs.Trivia.{IsTrivia, IsLastTrivia, BeginsWith, closes_comment}

-- The tokens spell the text behind `before`, a text through a token, with blanks and comments between them, up to what stands at the end.
abbrev pub SpellsTo : (List ℕ → List ℕ → Type 0) → List ℕ → List Leaf → List ℕ → Type 0
SpellsTo End before [] rest = End before rest
SpellsTo End before (t ∷ ts) rest =
    (trivia : List ℕ) × (after : List ℕ) × IsTrivia trivia × (rest ≡ trivia ++ (t.text ++ after)) × IsTokenIn t.kind t.text after × IsPlaced before trivia t
    × SpellsTo End (before ++ (trivia ++ t.text)) ts after

-- The tokens spell the text, and blanks and comments stand behind the last.
abbrev pub Spells : List Leaf → List ℕ → Type 0
Spells ts text = SpellsTo (λ before rest. IsLastTrivia rest) [] ts text

-- characters of a string and escapes, none of which is cut off at the end
abbrev pub is_string_part : Bool → List ℕ → Bool
is_string_part escaped [] = not escaped
is_string_part false (c ∷ cs) = not (c == QUOTE || breaks_string c) && is_string_part (c == BACKSLASH) cs
is_string_part true (c ∷ cs) = is_escape c && is_string_part false cs

-- what stands behind a string's opening quote, through the one that closes it: any byte of the line may stand behind a `\`
abbrev pub closes_string : Bool → List ℕ → Bool
closes_string escaped [] = false
closes_string false (c ∷ cs) = if c == QUOTE then length cs == 0 else not (breaks_string c) && closes_string (c == BACKSLASH) cs
closes_string true (c ∷ cs) = not (breaks_string c) && closes_string false cs

-- A character stands first that is no blank and begins no word, number, string or mark.
abbrev pub IsBadCharacter : List ℕ → Type 0
IsBadCharacter text = (c : ℕ) × (cs : List ℕ) × (text ≡ c ∷ cs) × ((is_blank c || is_word_byte c || c == QUOTE) ≡ false) × (BeginsWith (is_among marks) text → ⊥)

-- A number stands first, with a letter directly behind it.
abbrev pub IsBadNumber : List ℕ → Type 0
IsBadNumber text = (number : List ℕ) × (c : ℕ) × (cs : List ℕ) × (text ≡ number ++ (c ∷ cs)) × (is_number number ≡ true) × (is_letter c ≡ true)

-- A whole number stands first, above the greatest integer.
abbrev pub IsWideNumber : List ℕ → Type 0
IsWideNumber text = (number : List ℕ) × (rest : List ℕ) × (text ≡ number ++ rest) × (is_number number ≡ true) × (begins_by is_word_byte rest ≡ false) × (MAX_INTEGER < number_value number)

-- A quote stands first that nothing closes.
abbrev pub IsOpenString : List ℕ → Type 0
IsOpenString text = (cs : List ℕ) × (text ≡ QUOTE ∷ cs) × (BeginsWith (closes_string false) cs → ⊥)

-- In front stands a string so far, and then a `\` that makes no escape. The string is closed.
abbrev pub IsBadEscape : List ℕ → List ℕ → Type 0
IsBadEscape front after =
    (good : List ℕ) × (c : ℕ) × (cs : List ℕ) × (front ≡ QUOTE ∷ good) × (after ≡ BACKSLASH ∷ c ∷ cs) × (is_string_part false good ≡ true) × ((is_escape c || breaks_string c) ≡ false)
    × BeginsWith (closes_string false) cs

-- A `/*` stands first that nothing closes.
abbrev pub IsOpenComment : List ℕ → Type 0
IsOpenComment text = (cs : List ℕ) × (text ≡ SLASH ∷ STAR ∷ cs) × (BeginsWith (closes_comment 1 0) cs → ⊥)

-- A fault of the kind stands in front of `after`, where `front` is what stands before it of the token that it is in.
abbrev pub FaultAt : LexWhat → List ℕ → List ℕ → Type 0
FaultAt BadCharacter front after = (front ≡ []) × IsBadCharacter after
FaultAt BadNumber front after = (front ≡ []) × IsBadNumber after
FaultAt WideNumber front after = (front ≡ []) × IsWideNumber after
FaultAt OpenString front after = (front ≡ []) × IsOpenString after
FaultAt BadEscape front after = IsBadEscape front after
FaultAt OpenComment front after = (front ≡ []) × IsOpenComment after

-- The fault stands behind trivia in what is left behind `before`.
abbrev pub IsFault : LexFault → List ℕ → List ℕ → Type 0
IsFault f before rest =
    (trivia : List ℕ) × (front : List ℕ) × (after : List ℕ) × IsTrivia trivia × (rest ≡ trivia ++ (front ++ after)) × FaultAt f.what front after
    × (f.line ≡ line_behind (before ++ (trivia ++ front))) × (f.column ≡ column_behind (before ++ (trivia ++ front)))

-- The text has the lexical fault: tokens spell it up to the fault.
abbrev pub HasFault : LexFault → List ℕ → Type 0
HasFault f text = (ts : List Leaf) × SpellsTo (IsFault f) [] ts text

-- Exactly the one list of tokens that spells the text, or exactly its one fault, unless memory ran out.
abbrev pub Lexes : Result (Vec Token Global) LexEnd → List ℕ → Type 0
Lexes (Ok tokens) text = ((ts : List Leaf) → (map leaf_of tokens.items ≡ ts) ↔ Spells ts text) × ((f : LexFault) → HasFault f text → ⊥)
Lexes (Err (Fault found)) text = ((f : LexFault) → (found ≡ f) ↔ HasFault f text) × ((ts : List Leaf) → Spells ts text → ⊥)
Lexes (Err NoMemory) text = Unit {0}

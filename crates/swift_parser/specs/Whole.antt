-- The tree of a source file, and its first fault.
use Rattle.std.specs.Prelude.{◌≡◌, ℕ, ◌<◌, ◌≤◌, ◌↔◌, List, [], ◌∷◌, length, map, drop, Option, Some, None, Result, Ok, Err}
use Rattle.std.specs.Str.{IsUtf8}
use Rattle.grammar.specs.Levels.{too_deep, IsTree, IsUnexpected, IsTooDeep}
use Rattle.swift_ast.specs.declared.declarations.FileTree.{FileTree}
use Rattle.swift_ast.specs.declared.declarations.Decl.{Decl}
use Rattle.swift_ast.specs.Leaves.{Leaf, leaf_of}
use Rattle.swift_ast.specs.Tests.{on, opens_level, closes_level}
use Rattle.swift_ast.specs.Declarations.{decls_form}
use Rattle.swift_token.specs.declared.faults.LexFault.{LexFault}
use Rattle.swift_token.specs.declared.limits.TheConstants.{MAX_FILE_BYTES}
use Rattle.swift_token.specs.Spelling.{line_behind, column_behind}
use Rattle.swift_token.specs.Faults.{Spells, HasFault}
use Rattle.grammar.specs.Faults.{Parsed}
use Rattle.grammar.specs.Whole.{IsFirstFault}
use Rattle.swift_parser.specs.declared.file.TheConstants.{MAX_LEVELS}
use Rattle.swift_parser.specs.declared.file.Ended.{Ended}
use Rattle.swift_parser.specs.declared.file.Ended.TheVariants as ended
use Rattle.swift_parser.specs.declared.faults.ParseFault.{ParseFault}
use Rattle.swift_parser.specs.declared.faults.ParseFault.TheVariants as fault

-- A file has at most MAX_FILE_BYTES bytes and is UTF-8.
abbrev pub IsReadable : List ℕ → Type 0
IsReadable bytes = (length bytes ≤ MAX_FILE_BYTES) × IsUtf8 bytes

-- The tokens are those of a well-formed tree, and at most MAX_LEVELS levels of brackets are open.
abbrev pub AreOf : List Leaf → List Decl → Type 0
AreOf ts decls = IsTree (on opens_level) (on closes_level) MAX_LEVELS decls_form ts decls

-- The tree of a file at a path: the tokens of its declarations spell the file.
abbrev pub IsTreeOf : List ℕ → List ℕ → FileTree → Type 0
IsTreeOf path bytes tree = IsReadable bytes × ((ts : List Leaf) × Spells ts bytes × AreOf ts tree.decls) × (tree.path ≡ path)

-- The place and the text of the token that a list begins with; at its end the place behind the file's last byte and no text.
abbrev pub IsAt : List ℕ → List Leaf → ℕ → ℕ → List ℕ → Type 0
IsAt bytes [] line column text = (line ≡ line_behind bytes) × (column ≡ column_behind bytes) × (text ≡ [])
IsAt bytes (t ∷ ts) line column text = (line ≡ t.line) × (column ≡ t.column) × (text ≡ t.text)

-- The tokens before the rest begin some file of the grammar, and with the next one none; where nothing is left they are no
-- file. No bracket before the rest opens a level above MAX_LEVELS.
abbrev pub IsUnexpectedAt : List Leaf → List Leaf → Type 0
IsUnexpectedAt ts rest = IsUnexpected (on opens_level) (on closes_level) MAX_LEVELS decls_form ts rest

-- The rest begins with the first bracket that opens a level above MAX_LEVELS, and with it the tokens begin some file of the grammar.
abbrev pub IsTooDeepAt : List Leaf → List Leaf → Type 0
IsTooDeepAt ts rest = IsTooDeep (on opens_level) (on closes_level) MAX_LEVELS decls_form ts rest

-- The first fault of a file: its length, then its encoding, then its first lexical fault, then the first token that is not
-- expected or the first bracket that is too deep, whichever comes first.
abbrev pub IsFaultOf : List ℕ → ParseFault → Type 0
IsFaultOf bytes fault.TooLarge = MAX_FILE_BYTES < length bytes
IsFaultOf bytes fault.NotUtf8 = (length bytes ≤ MAX_FILE_BYTES) × ¬ IsUtf8 bytes
IsFaultOf bytes (fault.Lex f) = IsReadable bytes × HasFault f bytes
IsFaultOf bytes (fault.Unexpected line column text) =
    IsReadable bytes × ((ts : List Leaf) × (rest : List Leaf) × Spells ts bytes × IsUnexpectedAt ts rest × IsAt bytes rest line column text)
IsFaultOf bytes (fault.TooDeep line column) =
    IsReadable bytes × ((ts : List Leaf) × (rest : List Leaf) × (text : List ℕ) × Spells ts bytes × IsTooDeepAt ts rest × IsAt bytes rest line column text)
IsFaultOf bytes fault.NoMemory = ⊥

-- It is the file's one fault, and the file has no tree.
abbrev pub IsOneFault : List ℕ → List ℕ → ParseFault → Type 0
IsOneFault path bytes found = ((f : ParseFault) → (found ≡ f) ↔ IsFaultOf bytes f) × ((tree : FileTree) → ¬ IsTreeOf path bytes tree)

-- Exactly the one tree of a file, or exactly its one fault, unless memory ran out.
abbrev pub ParsesFile : List ℕ → List ℕ → Result FileTree ParseFault → Type 0
ParsesFile path bytes (Ok found) = ((tree : FileTree) → (found ≡ tree) ↔ IsTreeOf path bytes tree) × ((f : ParseFault) → ¬ IsFaultOf bytes f)
ParsesFile path bytes (Err fault.TooLarge) = IsOneFault path bytes fault.TooLarge
ParsesFile path bytes (Err fault.NotUtf8) = IsOneFault path bytes fault.NotUtf8
ParsesFile path bytes (Err (fault.Lex f)) = IsOneFault path bytes (fault.Lex f)
ParsesFile path bytes (Err (fault.Unexpected line column text)) = IsOneFault path bytes (fault.Unexpected line column text)
ParsesFile path bytes (Err (fault.TooDeep line column)) = IsOneFault path bytes (fault.TooDeep line column)
ParsesFile path bytes (Err fault.NoMemory) = Unit {0}

-- the place of the first bracket that opens a level above the limit
abbrev pub DeepAt : Option ℕ → List Leaf → Type 0
DeepAt (Some at) ts = (too_deep (on opens_level) (on closes_level) MAX_LEVELS 0 ts ≡ Some (drop at ts)) × (at < length ts)
DeepAt None ts = too_deep (on opens_level) (on closes_level) MAX_LEVELS 0 ts ≡ None

-- What reading the declarations of a file gives, by its tokens and the place behind its last byte: a tree, or the first fault.
abbrev pub DeclsGive : List ℕ → List Leaf → Result (List Decl) ParseFault → Type 0
DeclsGive bytes ts (Ok decls) = AreOf ts decls
DeclsGive bytes ts (Err (fault.Unexpected line column text)) = (rest : List Leaf) × IsUnexpectedAt ts rest × IsAt bytes rest line column text
DeclsGive bytes ts (Err (fault.TooDeep line column)) = (rest : List Leaf) × (text : List ℕ) × IsTooDeepAt ts rest × IsAt bytes rest line column text
DeclsGive bytes ts (Err fault.NoMemory) = Unit {0}
DeclsGive bytes ts (Err fault.TooLarge) = ⊥
DeclsGive bytes ts (Err fault.NotUtf8) = ⊥
DeclsGive bytes ts (Err (fault.Lex f)) = ⊥

-- the fault that says that a token at the front of the rest is not expected, unless memory ran out
abbrev pub IsUnexpectedHere : List ℕ → List Leaf → ParseFault → Type 0
IsUnexpectedHere bytes rest (fault.Unexpected line column text) = IsAt bytes rest line column text
IsUnexpectedHere bytes rest fault.NoMemory = Unit {0}
IsUnexpectedHere bytes rest fault.TooLarge = ⊥
IsUnexpectedHere bytes rest fault.NotUtf8 = ⊥
IsUnexpectedHere bytes rest (fault.Lex f) = ⊥
IsUnexpectedHere bytes rest (fault.TooDeep line column) = ⊥

-- the fault that says that a bracket at the front of the rest is too deep
abbrev pub IsTooDeepHere : List ℕ → List Leaf → ParseFault → Type 0
IsTooDeepHere bytes rest (fault.TooDeep line column) = (text : List ℕ) × IsAt bytes rest line column text
IsTooDeepHere bytes rest (fault.Unexpected line column text) = ⊥
IsTooDeepHere bytes rest fault.NoMemory = ⊥
IsTooDeepHere bytes rest fault.TooLarge = ⊥
IsTooDeepHere bytes rest fault.NotUtf8 = ⊥
IsTooDeepHere bytes rest (fault.Lex f) = ⊥

-- the tokens are those of the declarations, or their first fault stands where the rest begins
abbrev pub AreAll : Result (List Decl) Ended → List Leaf → Type 0
AreAll (Ok decls) ts = Parsed decls_form decls (decls_form.continues decls) ts []
AreAll (Err (ended.At rest)) ts = IsFirstFault decls_form ts (map leaf_of rest.now)
AreAll (Err ended.NoMemory) ts = Unit {0}

-- The tokens are the one list that spells a file without lexical fault.
abbrev pub TellsTokens : List ℕ → List Leaf → Type 0
TellsTokens bytes ts = ((others : List Leaf) → (ts ≡ others) ↔ Spells others bytes) × ((f : LexFault) → ¬ HasFault f bytes)

-- What a source text is read to: its tree, or the error that tells its first fault.
use Rattle.std.specs.Prelude.{◌≡◌, ℕ, List, [], ◌∷◌, ◌++◌, codes, decimal, Ok, Err}
use Rattle.diag_text.specs.declared.diag.Diag.{Diag}
use Rattle.swift_token.specs.declared.faults.LexWhat.{LexWhat}
use Rattle.swift_token.specs.declared.faults.LexWhat.TheVariants.{BadCharacter, BadNumber, WideNumber, OpenString, BadEscape, OpenComment}
use Rattle.swift_token.specs.declared.limits.TheConstants.{MAX_FILE_BYTES, MAX_INTEGER}
use Rattle.swift_parser.specs.declared.file.TheConstants.{MAX_LEVELS}
use Rattle.swift_parser.specs.declared.faults.ParseFault.{ParseFault}
use Rattle.swift_parser.specs.declared.faults.ParseFault.TheVariants as fault
use Rattle.swift_parser.specs.Whole.{ParsesFile}
use Rattle.frontend.specs.declared.parsed.Parsed.{Parsed}
use Rattle.frontend.specs.declared.parsed.Parsed.TheVariants.{Tree, NoTree}

abbrev pub numbered : List ℕ → ℕ → List ℕ → List ℕ
numbered before number after = before ++ decimal number ++ after

abbrev pub lexical_text : LexWhat → List ℕ
lexical_text BadCharacter = codes "character not allowed"
lexical_text BadNumber = codes "bad number"
lexical_text WideNumber = numbered (codes "integer literal is larger than ") MAX_INTEGER []
lexical_text OpenString = codes "string is not closed"
lexical_text BadEscape = codes "bad escape"
lexical_text OpenComment = codes "comment is not closed"

-- the token that isn't expected as it is written; the end of a file has no text
abbrev pub unexpected_text : List ℕ → List ℕ
unexpected_text [] = codes "unexpected end of file"
unexpected_text (c ∷ cs) = codes "unexpected '" ++ (c ∷ cs) ++ codes "'"

abbrev pub error_at : List ℕ → ℕ → ℕ → List ℕ → Diag
error_at path line column text = record { path = path; line = line; column = column; text = text }

-- Want of memory is no fault of a file.
abbrev pub IsTold : ParseFault → Type 0
IsTold fault.NoMemory = ⊥
IsTold _ = Unit {0}

-- The error of a file that has this fault.
abbrev pub fault_error : List ℕ → ParseFault → Diag
fault_error path fault.TooLarge = error_at path 1 1 (numbered (codes "file is longer than ") MAX_FILE_BYTES (codes " bytes"))
fault_error path fault.NotUtf8 = error_at path 1 1 (codes "file is not UTF-8")
fault_error path (fault.Lex f) = error_at path f.line f.column (lexical_text f.what)
fault_error path (fault.Unexpected line column token) = error_at path line column (unexpected_text token)
fault_error path (fault.TooDeep line column) = error_at path line column (numbered (codes "nested deeper than ") MAX_LEVELS (codes " levels"))
fault_error path fault.NoMemory = error_at path 1 1 []

-- The file at a path has this text: its one tree, and no fault, or the error of its one fault, and no tree.
abbrev pub IsParsed : List ℕ → List ℕ → Parsed → Type 0
IsParsed path text (Tree tree) = ParsesFile path text (Ok tree)
IsParsed path text (NoTree error) = (f : ParseFault) × IsTold f × ParsesFile path text (Err f) × (error ≡ fault_error path f)

abbrev pub parsed_path : Parsed → List ℕ
parsed_path (Tree tree) = tree.path
parsed_path (NoTree error) = error.path

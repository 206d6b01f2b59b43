-- The words of a command line: a folder, and the words of a command, `build -module-name MODULE`.
use Rattle.std.specs.Prelude.{◌≡◌, ◌==◌, ℕ, false, List, [], ◌∷◌, length, codes, Result, Ok, Err, if◌then◌else◌}
use Rattle.std.specs.Str.{bytes_eq, IsUtf8}
use Rattle.output_names.specs.ModuleNames.{is_module_name}

-- A folder is named by a text in UTF-8 that isn't empty.
abbrev pub IsFolderName : List ℕ → Type 0
IsFolderName word = ((length word == 0) ≡ false) × IsUtf8 word

-- The first word of the command line names no folder, or there is none.
abbrev pub NamesNoFolder : List (List ℕ) → Type 0
NamesNoFolder [] = Unit {0}
NamesNoFolder (word ∷ rest) = ¬ IsFolderName word

-- Nothing follows the third word.
abbrev pub last_of : List ℕ → List (List ℕ) → Result (List ℕ) ℕ
last_of name [] = Ok name
last_of name (word ∷ rest) = Err 3

-- The third word is a module name.
abbrev pub module_of : List (List ℕ) → Result (List ℕ) ℕ
module_of [] = Err 2
module_of (word ∷ rest) = if is_module_name word then last_of word rest else Err 2

-- The second word is `-module-name`.
abbrev pub option_of : List (List ℕ) → Result (List ℕ) ℕ
option_of [] = Err 1
option_of (word ∷ rest) = if bytes_eq word (codes "-module-name") then module_of rest else Err 1

-- The module that a list of words asks to build. Where the words are no accepted list, the first
-- place whose word, after those before it, begins none, or the number of words where more are
-- needed.
abbrev pub request_of : List (List ℕ) → Result (List ℕ) ℕ
request_of [] = Err 0
request_of (word ∷ rest) = if bytes_eq word (codes "build") then option_of rest else Err 0

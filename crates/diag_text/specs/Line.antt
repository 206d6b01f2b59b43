-- The printed line of an error.
use Rattle.std.specs.Prelude.{ℕ, ◌==◌, List, [], ◌∷◌, ◌++◌, length, codes, decimal, if◌then◌else◌}
use Rattle.diag_text.specs.declared.diag.Diag.{Diag}

-- Where an error stands: `PATH:LINE:COLUMN: `, and nothing for an error without a path.
abbrev pub place_of : List ℕ → ℕ → ℕ → List ℕ
place_of path line column =
    if length path == 0 then [] else path ++ codes ":" ++ decimal line ++ codes ":" ++ decimal column ++ codes ": "

-- The printed line of an error: its place, the word `error`, what is wrong, and a line feed.
abbrev pub line_of : Diag → List ℕ
line_of diag = place_of diag.path diag.line diag.column ++ codes "error: " ++ diag.text ++ codes "\n"

-- The printed lines of several errors, in their order.
abbrev pub lines_of : List Diag → List ℕ
lines_of [] = []
lines_of (diag ∷ diags) = line_of diag ++ lines_of diags

-- What the default names of a source's outputs begin with.
use Rattle.std.specs.Prelude.{ℕ, ◌-◌, ◌==◌, List, ◌++◌, map, take, length, codes, if◌then◌else◌}
use Rattle.output_names.specs.declared.stems.TheConstants.{ENDING_BYTES, SLASH, TILDE}

-- A slash becomes `~`, and any other byte is left.
abbrev pub without_slash : ℕ → ℕ
without_slash byte = if byte == SLASH then TILDE else byte

-- A path without `.swift`, and with `~` for each `/`.
abbrev pub stem_of : List ℕ → List ℕ
stem_of path = map without_slash (take (length path - ENDING_BYTES) path)

-- The stem of a source and `.o`.
abbrev pub object_name : List ℕ → List ℕ
object_name path = stem_of path ++ codes ".o"

-- Characters wherever they are kept.
use Rattle.std.specs.Prelude.{ℕ, List}
use Rattle.std.specs.Arc.{arc_str_bytes}
use Rattle.dep_key.specs.declared.compact_characters.Kept.{Kept}
use Rattle.dep_key.specs.declared.compact_characters.Kept.TheVariants.{Inline, Shared}

-- The bytes of characters that are kept inline, or shared.
abbrev pub bytes_kept : Kept → List ℕ
bytes_kept (Inline few) = few.bytes
bytes_kept (Shared text) = arc_str_bytes text

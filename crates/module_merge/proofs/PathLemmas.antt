-- Plain paths are ASCII, and so UTF-8.
use Rattle.std.proofs.Common.{◌≡◌, ◌<◌, ℕ, Bool, true, false, List, get_or, refl, arith}
use Rattle.std.specs.List.{list_all}
use Rattle.std.specs.Str.{IsUtf8}
use Rattle.std.proofs.lemmas.Bool.{and_parts}
use Rattle.std.proofs.lemmas.Str.{IsUtf8-from_ascii}
use Rattle.std.proofs.lemmas.Str.Ascii.{IsAscii-from_all}
use Rattle.std.proofs.lemmas.List.Sums.{AllPass-from_list_all}
use Rattle.drv_outside.specs.Plain.{is_path_byte, are_path_bytes, is_plain_path, are_plain_components}

path_byte_is_ascii : (b : ℕ) → is_path_byte b ≡ true → b < 128
path_byte_is_ascii b e = grind arith

-- A plain path has bytes of paths alone.
pub path_bytes : (bytes : List ℕ) → is_plain_path bytes ≡ true → list_all is_path_byte bytes ≡ true
path_bytes bytes e = (and_parts _ (are_path_bytes bytes) (and_parts _ (are_plain_components bytes) e).0).1

plain_is_utf8 : (bytes : List ℕ) → is_plain_path bytes ≡ true → IsUtf8 bytes
plain_is_utf8 bytes e = IsUtf8-from_ascii bytes (IsAscii-from_all bytes (λ k d lt. path_byte_is_ascii (get_or bytes k d) (AllPass-from_list_all is_path_byte bytes (path_bytes bytes e) k d lt)))

not_plain : (bytes : List ℕ) (plain : Bool) → is_plain_path bytes ≡ plain → (IsUtf8 bytes → ⊥) → false ≡ plain
not_plain bytes true e h = absurd (h (plain_is_utf8 bytes e))
not_plain bytes false e h = refl

pub plain_has_utf8 : (bytes : List ℕ) → (IsUtf8 bytes → ⊥) → false ≡ is_plain_path bytes
plain_has_utf8 bytes h = not_plain bytes (is_plain_path bytes) refl h

use Rattle.std.proofs.Common.{◌≡◌, ℕ, ◌+◌, ◌++◌, List, take, drop, refl}
use Rattle.std.specs.Int.{w32, to_le_bytes}
use Rattle.std.proofs.lemmas.List.{drop-drop}
use Rattle.bitstream.proofs.buffer.overwrite.Goals as goal

parts : (items front back field rest word after : List ℕ) (at : ℕ) → front ≡ take at items → back ≡ drop at items → rest ≡ drop 4 back → after ≡ field → field ≡ word
    → front ++ (after ++ rest) ≡ take at items ++ (word ++ drop (at + 4) items)
parts items front back field rest word after at a b c d e = rw (a, d, e, c, b, drop-drop 4 at items) refl

pub returns : goal.returns
returns c = parts c.args.bytes.now _ _ _ _ (to_le_bytes w32 c.args.number) _ c.args.at c.split_at_mut-back.ensures.front c.split_at_mut-back.ensures.back
    c.split_at_mut-field.ensures.back c.copy_from_slice.ensures.after c.to_le_bytes.ensures

-- The operands of a record.
use Rattle.std.specs.Prelude.{ℕ, List, drop}
use Rattle.bitstream.specs.declared.operands.Numbers.{Numbers}
use Rattle.bitstream.specs.declared.operands.Numbers.TheVariants.{Few, Many, Shared}
use Rattle.bitstream.specs.Sparse.{filled}

abbrev pub numbers_in : Numbers → List ℕ
numbers_in (Few numbers) = numbers.items
numbers_in (Many numbers) = numbers.items
numbers_in (Shared s) = drop 1 (filled s.definition s.in_bits.items)

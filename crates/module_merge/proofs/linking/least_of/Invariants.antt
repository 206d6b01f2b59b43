use Rattle.std.proofs.Common.{take}
use Rattle.std.specs.Prelude.{option_copied}
use Rattle.module_merge.specs.Image.{IsLeastOf}
use Rattle.module_merge.proofs.linking.least_of.Given as goal

-- The least of the symbols so far is known.
abbrev pub invariant-loop-symbol : goal.invariant-loop-symbol
invariant-loop-symbol l = IsLeastOf (take l.symbol-index l.symbols) (option_copied l.least)

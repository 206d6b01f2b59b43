use Rattle.std.proofs.Common.{◌≡◌, ◌++◌, drop}
use Rattle.module_merge.specs.Image.{undefined}
use Rattle.module_merge.proofs.linking.undefined.Given as goal

-- The symbols so far, with those of the rest that aren't defined, are all of these.
abbrev pub invariant-loop-symbol : goal.invariant-loop-symbol
invariant-loop-symbol l = l.left.items ++ undefined l.defined (drop l.symbol-index l.symbols) ≡ undefined l.defined l.symbols

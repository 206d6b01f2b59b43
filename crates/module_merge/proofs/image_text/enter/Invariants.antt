use Rattle.std.proofs.Common.{◌≡◌, drop}
use Rattle.module_merge.specs.Image.{with_symbols, table_in}
use Rattle.module_merge.proofs.image_text.enter.Given as goal

-- The table so far, with the symbols that are left, has all.
abbrev pub invariant-loop-symbol : goal.invariant-loop-symbol
invariant-loop-symbol l = with_symbols l.path (drop l.symbol-index l.symbols) (table_in l.table) ≡ with_symbols l.path l.symbols (table_in l.fn.table)

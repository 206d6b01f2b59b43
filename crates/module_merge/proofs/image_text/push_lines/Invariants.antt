use Rattle.std.proofs.Common.{◌≡◌, ◌++◌, map}
use Rattle.module_merge.specs.Lines.{text_of}
use Rattle.module_merge.specs.Image.{symbol_line}
use Rattle.module_merge.proofs.image_text.push_lines.Given as goal

-- The text so far, with the lines of the entries that are left, is the whole text.
abbrev pub invariant-loop-symbol : goal.invariant-loop-symbol
invariant-loop-symbol l = l.text.items ++ text_of (map symbol_line l.symbol-iterator) ≡ l.fn.text.items ++ text_of (map symbol_line l.table.entries)

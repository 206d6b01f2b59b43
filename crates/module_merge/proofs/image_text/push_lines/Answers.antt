use Rattle.std.proofs.Common.{◌≡◌, ◌∙◌, ◌++◌, map, sym, ap, arith}
use Rattle.std.proofs.lemmas.Grind.{common_steps}
use Rattle.module_merge.specs.Lines.{text_of}
use Rattle.module_merge.specs.Image.{symbol_line}
use Rattle.ordered_lists.proofs.TableLemmas.{entries-from_entries}
use Rattle.module_merge.proofs.image_text.push_lines.Goals as goal

pub returns : goal.returns
returns c =
    let all : c.loop-symbol.text.items ≡ c.args.text.now.items ++ text_of (map symbol_line c.args.table.now.entries) =
    grind (arith, common_steps, c.loop-symbol.invariant, c.iter-symbol-items.ensures.rest, c.into_iter-symbol-iterator.ensures.into_iter_gives, c.in-None.ensures.steps) in
    all ∙ ap (λ es. c.args.text.now.items ++ text_of (map symbol_line es)) (sym (entries-from_entries c.args.table.now.entries c.iter-symbol-items.ensures.ordered))

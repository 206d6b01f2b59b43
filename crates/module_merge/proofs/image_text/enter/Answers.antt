use Rattle.std.proofs.Common.{◌≡◌, ◌∙◌, ◌+◌, drop, ap, sym}
use Rattle.std.specs.FinMap.{insert}
use Rattle.std.proofs.lemmas.List.{at_drop_more}
use Rattle.module_merge.specs.Image.{with_symbols, table_in}
use Rattle.ordered_lists.proofs.TableLemmas.{one_set}
use Rattle.module_merge.proofs.image_text.enter.Goals as goal

pub loop-symbol-preserved : goal.loop-symbol-preserved
loop-symbol-preserved c =
    let symbols = c.args.symbols.now in
    let path = c.args.path.now in
    let i = c.loop-symbol.symbol-index in
    let symbol = c.symbol-item.result in
    let table = table_in c.loop-symbol.table in
    let key : c.in_ok-from_slice.field-0 ≡ symbol = c.in_ok-from_slice.ensures ∙ c.as_slice.ensures in
    let set : table_in c.insert.new.self ≡ insert table symbol path =
    one_set c.loop-symbol.table.entries c.insert.new.self.entries c.in_ok-from_slice.field-0 c.in_ok-path.path c.in_ok-insert.ensures.updates.0 ∙ λ j. insert table (key j) (c.in_ok-path.ensures j) in
    let more : with_symbols path (drop i symbols) table ≡ with_symbols path (drop (i + 1) symbols) (insert table symbol path) =
    at_drop_more (λ ss. with_symbols path ss table) symbols i symbol c.loop-symbol-test.true ∙ ap (λ s. with_symbols path (drop (i + 1) symbols) (insert table s path)) (sym c.symbol-item.is) in
    ap (with_symbols path (drop (i + 1) symbols)) set ∙ sym more ∙ c.loop-symbol.invariant

use Rattle.std.proofs.Common.{◌≡◌, ◌∙◌, ◌++◌, ◌+◌, ap, sym, drop, arith}
use Rattle.std.specs.BTreeMap.{get}
use Rattle.std.proofs.lemmas.List.{at_drop_more}
use Rattle.dep_key.specs.KeyOrder.{key_order}
use Rattle.decl_index.specs.Declarations.{file_keys}
use Rattle.decl_index.specs.Providers.{entries_from, entries_of, found, items_or_none}
use Rattle.decl_index.proofs.Entering.{all-entered, found-more}
use Rattle.decl_index.proofs.index.enter_files.Goals as goal

pub returns : goal.returns
returns c = all-entered c.args.files.now c.loop-file.providers c.loop-file.file-index (omega arith) c.loop-file.invariant.each

pub loop-file-preserved : goal.loop-file-preserved
loop-file-preserved c = record {
  number = ap (λ n. n + 1) c.loop-file.invariant.number;
  each = λ q.
      let i = c.loop-file.file-index in
      let files = c.args.files.now in
      let file = c.file-item.result in
      let had = items_or_none (get key_order c.loop-file.providers q) in
      let now = items_or_none (get key_order c.enter_file.new.map q) in
      let front = entries_from i 0 (file_keys file) in
      let more = entries_of (i + 1) (drop (i + 1) files) in
      let entered : now ≡ had ++ found q front =
      c.in_ok-enter_file.ensures q
      ∙ ap (λ n. had ++ found q (entries_from n 0 c.in_ok-declared.declared.items)) c.loop-file.invariant.number
      ∙ ap (λ d. had ++ found q (entries_from i 0 d)) c.in_ok-declared.ensures.keys in
      let left : entries_of i (drop i files) ≡ front ++ more =
      at_drop_more (entries_of i) files i file c.loop-file-test.true ∙ ap (λ f. entries_from i 0 (file_keys f) ++ more) (sym c.file-item.is) in
      found-more q had now front more entered ∙ ap (λ l. had ++ found q l) (sym left) ∙ c.loop-file.invariant.each q;
}

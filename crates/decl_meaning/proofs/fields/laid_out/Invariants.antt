use Rattle.std.proofs.Common.{◌≡◌, ◌≤◌, ◌+◌, ◌++◌}
use Rattle.std.specs.Vec.Iter.{into_iter_items}
use Rattle.type_infer.specs.Readings.{laid_out, words_in, most_words}
use Rattle.decl_meaning.proofs.fields.laid_out.Given as goal

abbrev pub invariant-loop-stored : goal.invariant-loop-stored
invariant-loop-stored l = record {
  few : l.offset ≤ most_words;
  sum : l.offset + words_in (into_iter_items l.stored-iterator) ≡ words_in l.fn.found.items;
  fields : l.fields.items ++ laid_out l.offset (into_iter_items l.stored-iterator) ≡ laid_out 0 l.fn.found.items;
}

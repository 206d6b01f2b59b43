use Rattle.std.proofs.Common.{◌≡◌, Some, refl}
use Rattle.std.proofs.lemmas.Option.{slice_get_read}
use Rattle.std.specs.List.{slice_get}
use Rattle.std.specs.BTreeMap.{get}
use Rattle.dep_graph.specs.Arcs.{path_order}
use Rattle.wave_build.proofs.NumberLemmas.{numbered-all, numbered-more, numbers-more}
use Rattle.wave_build.proofs.naming.numbers.Goals as goal

pub loop-place-preserved : goal.loop-place-preserved
loop-place-preserved c =
    let files = c.args.files.now in
    let place = c.loop-place.place in
    let file = c.index-files-place.result in
    let found : slice_get files place ≡ Some file = slice_get_read files _ place file refl c.loop-place-test.true c.index-files-place.is in
    record {
      numbers = numbers-more files (get path_order c.loop-place.numbers) (get path_order c.insert.new.self) place file c.in_ok-name.name c.in_ok-number.number found c.in_ok-name.ensures c.in_ok-number.ensures c.in_ok-insert.ensures.updates.0 c.loop-place.invariant.numbers;
      each = numbered-more files (get path_order c.loop-place.numbers) (get path_order c.insert.new.self) place file c.in_ok-name.name c.in_ok-number.number found c.in_ok-name.ensures c.in_ok-insert.ensures.updates.0 c.loop-place.invariant.each;
    }

pub returns-clause-each : goal.returns-clause-each
returns-clause-each c = numbered-all c.args.files.now (get path_order c.loop-place.numbers) _ c.loop-place.place c.loop-place-test.false c.loop-place.invariant.each

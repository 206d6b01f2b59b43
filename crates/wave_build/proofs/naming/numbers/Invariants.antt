use Rattle.std.specs.BTreeMap.{get}
use Rattle.dep_graph.specs.Arcs.{path_order}
use Rattle.wave_build.specs.Built.{AreNumbered, AreNumbers}
use Rattle.wave_build.proofs.naming.numbers.Given as goal

-- Each number so far stands under the path of its file, and each file so far has one.
abbrev pub invariant-loop-place : goal.invariant-loop-place
invariant-loop-place l = record {
  numbers : AreNumbers l.files (get path_order l.numbers);
  each : AreNumbered l.files (get path_order l.numbers) l.place;
}

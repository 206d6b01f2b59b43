use Rattle.std.proofs.Common.{take}
use Rattle.dep_graph.specs.Moves.{is_one}
use Rattle.dep_graph.specs.Arcs.{HasEntered}
use Rattle.dep_graph.proofs.arcs.enter_keys.Given as goal

abbrev pub invariant-loop-key : goal.invariant-loop-key
invariant-loop-key l = HasEntered l.initial.users l.users l.file (is_one (take l.key-index l.keys))

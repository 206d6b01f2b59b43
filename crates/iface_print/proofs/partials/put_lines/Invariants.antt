use Rattle.std.proofs.Common.{◌≡◌, ◌++◌, drop}
use Rattle.std.specs.List.{flat_map}
use Rattle.iface_print.specs.Partials.{partial_line}
use Rattle.iface_print.specs.Places.{declarations_of}
use Rattle.iface_print.proofs.partials.put_lines.Given as goal

abbrev pub invariant-loop-place : goal.invariant-loop-place
invariant-loop-place g l = l.out.items ++ flat_map (partial_line (g.A.Answers.meanings l.answers)) (drop l.place (declarations_of l.index l.number)) ≡ l.initial.out.items ++ flat_map (partial_line (g.A.Answers.meanings l.answers)) (declarations_of l.index l.number)

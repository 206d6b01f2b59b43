use Rattle.std.proofs.Common.{◌≡◌, ◌++◌, map}
use Rattle.file_nodes.specs.Own.{own_node}
use Rattle.file_nodes.proofs.graphs.nodes.Given as goal

abbrev pub invariant-loop-key : goal.invariant-loop-key
invariant-loop-key c l = l.made.items ++ map (own_node (c.A.Answers.meanings l.answers) l.index l.number) l.key-iterator ≡ map (own_node (c.A.Answers.meanings l.answers) l.index l.number) l.fn.keys.keys

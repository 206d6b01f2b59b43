use Rattle.std.proofs.Common.{◌≡◌, [], drop}
use Rattle.queries.specs.Queries.{dependencies}
use Rattle.checks.specs.Logs.{entered}
use Rattle.dep_key.specs.KeyOrder.{key_order}
use Rattle.decl_index.specs.Declarations.{Declaration}
use Rattle.iface_print.specs.Nodes.{node_query}
use Rattle.file_nodes.specs.Own.{from_all_own}
use Rattle.file_nodes.proofs.uses.node_uses.Given as goal

abbrev pub invariant-loop-at : goal.invariant-loop-at
invariant-loop-at c l =
    entered key_order l.asked (from_all_own (λ (d : Declaration). dependencies (c.A.Answers.meanings l.answers) (node_query l.key d)) l.index l.number (drop l.at-index l.references))
    ≡ entered key_order [] (from_all_own (λ (d : Declaration). dependencies (c.A.Answers.meanings l.answers) (node_query l.key d)) l.index l.number l.references)

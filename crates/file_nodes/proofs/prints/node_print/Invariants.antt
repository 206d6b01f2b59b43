use Rattle.std.proofs.Common.{◌≡◌, ◌∷◌, ◌++◌, [], false, drop}
use Rattle.decl_index.specs.Declarations.{Declaration}
use Rattle.iface_print.specs.Prints.{print_of}
use Rattle.file_nodes.specs.Own.{from_all_own, joined}
use Rattle.file_nodes.proofs.prints.node_print.Given as goal

abbrev pub invariant-loop-at : goal.invariant-loop-at
invariant-loop-at l =
    l.out.items ++ joined l.started (from_all_own (λ (d : Declaration). print_of l.key l.meaning d ∷ []) l.index l.number (drop l.at-index l.references))
    ≡ joined false (from_all_own (λ (d : Declaration). print_of l.key l.meaning d ∷ []) l.index l.number l.references)

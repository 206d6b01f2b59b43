use Rattle.std.proofs.Common.{◌≡◌, ◌∷◌, ◌++◌, drop}
use Rattle.std.specs.List.{flat_map}
use Rattle.type_rules.specs.declared.meaning.Parameter.{Parameter}
use Rattle.type_infer.specs.Plain.{comma}
use Rattle.iface_print.specs.Partials.{labelled}
use Rattle.iface_print.proofs.partials.put_further.Given as goal

abbrev pub invariant-loop-parameter : goal.invariant-loop-parameter
invariant-loop-parameter l = l.out.items ++ flat_map (λ (p : Parameter). comma ∷ labelled p) (drop l.parameter-index l.parameters) ≡ l.initial.out.items ++ flat_map (λ (p : Parameter). comma ∷ labelled p) l.parameters

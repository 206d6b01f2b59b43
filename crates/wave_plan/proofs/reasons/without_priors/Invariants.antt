use Rattle.std.proofs.Common.{◌≡◌, ◌++◌, drop, map, Some}
use Rattle.wave_plan.specs.declared.plan.Why.TheVariants.{NoPriors}
use Rattle.wave_plan.proofs.reasons.without_priors.Given as goal

-- The reasons so far, and those of the sources that are left, are all.
abbrev pub invariant-loop-entry : goal.invariant-loop-entry
invariant-loop-entry l = l.found.items ++ map (λ entry. Some NoPriors) (drop l._entry-index l.listed) ≡ map (λ entry. Some NoPriors) l.listed

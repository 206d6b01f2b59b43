-- What a plan says, by whether it has a graph.
use Rattle.std.proofs.Common.{Result, Ok, Err, subst, sym}
use Rattle.std.specs.Prelude.{IfOk, IfErr, IsOkAnd}
use Rattle.dep_key.specs.declared.no_memory.NoMemory.{NoMemory}
use Rattle.wave_plan.specs.declared.plan.Seen.{Seen}
use Rattle.wave_plan.specs.declared.plan.Asked.{Asked}
use Rattle.wave_plan.specs.declared.plan.Plan.{Plan}
use Rattle.wave_plan.specs.declared.plan.PriorsWhy.{PriorsWhy}
use Rattle.wave_plan.specs.Validity.{LastBuild, AreValid, IsFirstFault}
use Rattle.wave_plan.specs.Plans.{IsFullBuild, IsIncremental}

on_ok : {A E : Type 0} (P : Type 0) (r : Result A E) → P → IfOk r (λ a. P)
on_ok P (Ok a) p = p
on_ok P (Err e) p = tt

no_err : {A E : Type 0} (P : A → Type 0) (Q : E → Type 0) (r : Result A E) → IsOkAnd r P → IfErr r Q
no_err P Q (Ok a) h = tt
no_err P Q (Err e) h = absurd h

module _ (seen : Seen) (asked : Asked) where
  abbrev pub HasGraph : Plan → Type 0
  HasGraph plan = IfOk plan.priors (λ graph. (last : LastBuild) × AreValid seen asked last × IsIncremental seen asked last plan)

  abbrev pub HasFault : Plan → Type 0
  HasFault plan = IfErr plan.priors (λ why. IsFirstFault seen asked why × IsFullBuild asked why plan)

  pub incremental_has_graph : (last : LastBuild) (r : Result Plan NoMemory) → AreValid seen asked last → IfOk r (IsIncremental seen asked last) → IfOk r HasGraph
  incremental_has_graph last (Err e) valid h = tt
  incremental_has_graph last (Ok plan) valid h = on_ok ((last : LastBuild) × AreValid seen asked last × IsIncremental seen asked last plan) plan.priors (last, valid, h)

  pub incremental_has_no_fault : (last : LastBuild) (r : Result Plan NoMemory) → IfOk r (IsIncremental seen asked last) → IfOk r HasFault
  incremental_has_no_fault last (Err e) h = tt
  incremental_has_no_fault last (Ok plan) h = no_err _ (λ why. IsFirstFault seen asked why × IsFullBuild asked why plan) plan.priors h.graph

  pub full_has_no_graph : (why : PriorsWhy) (r : Result Plan NoMemory) → IfOk r (IsFullBuild asked why) → IfOk r HasGraph
  full_has_no_graph why (Err e) h = tt
  full_has_no_graph why (Ok plan) h = subst (λ priors. IfOk priors (λ graph. (last : LastBuild) × AreValid seen asked last × IsIncremental seen asked last plan)) (sym h.priors) tt

  pub full_has_fault : (why : PriorsWhy) (r : Result Plan NoMemory) → IsFirstFault seen asked why → IfOk r (IsFullBuild asked why) → IfOk r HasFault
  full_has_fault why (Err e) first h = tt
  full_has_fault why (Ok plan) first h = subst (λ priors. IfErr priors (λ why. IsFirstFault seen asked why × IsFullBuild asked why plan)) (sym h.priors) (first, h)

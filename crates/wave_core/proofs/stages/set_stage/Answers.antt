use Rattle.std.proofs.Common.{◌≡◌, ◌∙◌, ap, sym, Some, is_some, false, true}
use Rattle.std.specs.BTreeMap.{get}
use Rattle.dep_graph.specs.Arcs.{path_order}
use Rattle.wave_core.proofs.WakingLemmas.{set-at}
use Rattle.wave_core.proofs.stages.set_stage.Goals as goal

pub returns-in-Some : goal.returns-in-Some
returns-in-Some c =
    let was : get path_order c.args.stages.now c.args.file.now ≡ Some c.in-Some.stage.now = sym c.in-Some.ensures.value in
    set-at c.args.stages.now.entries (c.get_mut.follows.lender c.args.to).entries c.args.file.now c.args.to ((c.get_mut.follows.holds c.args.to).3 (ap is_some was)).0

pub returns-in_default : goal.returns-in_default
returns-in_default c = absurd (let bad : false ≡ true = ap is_some c.in_default.ensures.value ∙ c.requires.asked in cc)

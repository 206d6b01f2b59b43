use Rattle.std.proofs.Common.{◌≡◌, ap, sym, Some, is_some}
use Rattle.std.specs.BTreeMap.{get}
use Rattle.dep_key.specs.KeyOrder.{key_order}
use Rattle.dep_graph.proofs.ArcLemmas.{left-one, left-none}
use Rattle.dep_graph.proofs.arcs.leave.Goals as goal

pub returns-in-Some : goal.returns-in-Some
returns-in-Some c =
    let was : get key_order c.args.users.now c.args.key.now ≡ Some c.in-Some.known.now = sym c.in-Some.ensures.value in
    left-one c.args.users.now (c.get_mut.follows.lender c.remove.new.self) c.args.key.now c.args.file.now c.in-Some.known.now c.remove.new.self was c.remove.ensures.updates.0
    ((c.get_mut.follows.holds c.remove.new.self).3 (ap is_some was)).0

pub returns-in_default : goal.returns-in_default
returns-in_default c = left-none c.args.users.now c.get_mut.follows.lender-at-none c.args.key.now c.args.file.now (sym c.in_default.ensures.value) c.get_mut.follows.holds-at-none

use Rattle.queries.proofs.Needed.{stopped-needs, needs-first, needs-next, needs-behind}
use Rattle.queries.proofs.need_laws.Goals as goal

pub returns-clause-stopped : goal.returns-clause-stopped
returns-clause-stopped g c = stopped-needs

pub returns-clause-first : goal.returns-clause-first
returns-clause-first g c = needs-first

pub returns-clause-next : goal.returns-clause-next
returns-clause-next g c = needs-next

pub returns-clause-behind : goal.returns-clause-behind
returns-clause-behind g c = needs-behind

use Rattle.std.proofs.Common.{◌≡◌, true}
use Rattle.queries.proofs.Solution.{takes, waits-there, circle, never-known}
use Rattle.queries.proofs.Needed.{needed-waits}
use Rattle.queries.proofs.demand_laws.Goals as goal

pub returns-clause-answers : goal.returns-clause-answers
returns-clause-answers g c = takes

pub returns-clause-waits : goal.returns-clause-waits
returns-clause-waits g c = waits-there

pub returns-clause-circles : goal.returns-clause-circles
returns-clause-circles g c = λ r W each k w. record { at = λ n. circle r (λ x. W x ≡ true) each n k w }

pub returns-clause-unknown : goal.returns-clause-unknown
returns-clause-unknown g c = never-known

pub returns-clause-awaited : goal.returns-clause-awaited
returns-clause-awaited g c = needed-waits

use Rattle.std.proofs.Common.{length, ◌+◌}
use Rattle.queries.proofs.Growth.{round-grows}
use Rattle.queries.proofs.Solution.{from-round, solution-runs, solution-fixed, round-below, solution-one}
use Rattle.queries.proofs.solution_laws.Goals as goal

pub returns-clause-growth : goal.returns-clause-growth
returns-clause-growth g c = round-grows

pub returns-clause-complete : goal.returns-clause-complete
returns-clause-complete g c = from-round

pub returns-clause-fixed : goal.returns-clause-fixed
returns-clause-fixed g c = λ r keys l k a. (solution-runs r keys k a, solution-fixed r keys l k a)

pub returns-clause-least : goal.returns-clause-least
returns-clause-least g c = λ r keys answers closed. round-below r answers closed (length keys + 1)

pub returns-clause-one : goal.returns-clause-one
returns-clause-one g c = solution-one

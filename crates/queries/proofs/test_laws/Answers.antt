use Rattle.queries.proofs.Needed.{gives-run, gives-value, gives-bind}
use Rattle.queries.proofs.test_laws.Goals as goal

pub returns-clause-given : goal.returns-clause-given
returns-clause-given g c = λ passes task given. (gives-run passes task given, gives-value passes task given)

pub returns-clause-compose : goal.returns-clause-compose
returns-clause-compose g c = gives-bind

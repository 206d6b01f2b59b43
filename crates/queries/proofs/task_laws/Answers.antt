use Rattle.queries.proofs.Growth.{run-bind}
use Rattle.queries.proofs.Values.{run-value, value-bind, dependencies-bind}
use Rattle.queries.proofs.Needed.{equal-answers}
use Rattle.queries.proofs.task_laws.Goals as goal

pub returns-clause-answered : goal.returns-clause-answered
returns-clause-answered g c = run-value

pub returns-clause-compose : goal.returns-clause-compose
returns-clause-compose g c = λ task next. (λ known. run-bind known task next, λ answers. value-bind answers task next, λ answers. dependencies-bind answers task next)

pub returns-clause-equal_answers : goal.returns-clause-equal_answers
returns-clause-equal_answers g c = equal-answers

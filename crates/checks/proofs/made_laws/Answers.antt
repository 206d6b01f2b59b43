use Rattle.checks.proofs.Made.{made_bind, made_of_both, made_of_noting, made_of_tried, made_of_hushed, made_of_first}
use Rattle.checks.proofs.made_laws.Goals as goal

pub returns-clause-bind : goal.returns-clause-bind
returns-clause-bind g c = made_bind

pub returns-clause-both : goal.returns-clause-both
returns-clause-both g c = made_of_both

pub returns-clause-noting : goal.returns-clause-noting
returns-clause-noting g c = made_of_noting

pub returns-clause-tried : goal.returns-clause-tried
returns-clause-tried g c = made_of_tried

pub returns-clause-hushed : goal.returns-clause-hushed
returns-clause-hushed g c = made_of_hushed

pub returns-clause-first : goal.returns-clause-first
returns-clause-first g c = made_of_first

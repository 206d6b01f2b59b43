use Rattle.checks.proofs.Owned.{same_task, own_value, used_asked, owned_unasked, own_bind}
use Rattle.checks.proofs.own_key_laws.Goals as goal

pub returns-clause-same : goal.returns-clause-same
returns-clause-same g c = same_task

pub returns-clause-value : goal.returns-clause-value
returns-clause-value g c = own_value

pub returns-clause-used : goal.returns-clause-used
returns-clause-used g c = used_asked

pub returns-clause-owned : goal.returns-clause-owned
returns-clause-owned g c = owned_unasked

pub returns-clause-bind : goal.returns-clause-bind
returns-clause-bind g c = own_bind

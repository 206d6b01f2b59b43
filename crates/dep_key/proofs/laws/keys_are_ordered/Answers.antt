use Rattle.dep_key.specs.KeyOrder.{key_order_total}
use Rattle.dep_key.specs.KeysApart.{keys_apart}
use Rattle.dep_key.proofs.laws.keys_are_ordered.Goals as goal

pub returns-clause-total : goal.returns-clause-total
returns-clause-total c = key_order_total

pub returns-clause-apart : goal.returns-clause-apart
returns-clause-apart c = keys_apart

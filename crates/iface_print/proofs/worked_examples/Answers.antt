use Rattle.iface_print.proofs.Worked.{circles, errors, fields, partials}
use Rattle.iface_print.proofs.worked_examples.Goals as goal

pub returns-clause-circles : goal.returns-clause-circles
returns-clause-circles c = circles

pub returns-clause-errors : goal.returns-clause-errors
returns-clause-errors c = errors

pub returns-clause-fields : goal.returns-clause-fields
returns-clause-fields c = fields

pub returns-clause-partials : goal.returns-clause-partials
returns-clause-partials c = partials

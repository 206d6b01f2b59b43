use Rattle.type_rules.proofs.RowLemmas.{binary_is_row, unary_is_row}
use Rattle.type_rules.proofs.laws.operators_are_rows.Goals as goal

pub returns-clause-binary : goal.returns-clause-binary
returns-clause-binary c = binary_is_row

pub returns-clause-unary : goal.returns-clause-unary
returns-clause-unary c = unary_is_row

use Rattle.table_of_files.proofs.order.are_sorted.Goals as goal

pub returns : goal.returns
returns c = λ h. c.ascends.ensures.0 h

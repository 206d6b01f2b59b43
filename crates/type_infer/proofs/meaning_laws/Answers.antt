use Rattle.type_infer.proofs.Ending.{listing, solution-meaning}
use Rattle.type_infer.proofs.Indexed.{indexed}
use Rattle.type_infer.proofs.PlainMeanings.{may-mean}
use Rattle.type_infer.proofs.meaning_laws.Goals as goal

pub returns-clause-index : goal.returns-clause-index
returns-clause-index c = indexed

pub returns-clause-listing : goal.returns-clause-listing
returns-clause-listing c = listing

pub returns-clause-solution : goal.returns-clause-solution
returns-clause-solution c = solution-meaning

pub returns-clause-kinds : goal.returns-clause-kinds
returns-clause-kinds c = may-mean

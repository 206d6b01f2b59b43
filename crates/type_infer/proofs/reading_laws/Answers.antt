use Rattle.type_infer.proofs.PlainMeanings.{meanings-plain, readings-ask}
use Rattle.type_infer.proofs.Trees.{expressions-ask}
use Rattle.type_infer.proofs.Written.{written-plain}
use Rattle.type_infer.proofs.reading_laws.Goals as goal

pub returns-clause-expressions : goal.returns-clause-expressions
returns-clause-expressions c = expressions-ask

pub returns-clause-readings : goal.returns-clause-readings
returns-clause-readings c = readings-ask

pub returns-clause-written : goal.returns-clause-written
returns-clause-written c = written-plain

pub returns-clause-plain : goal.returns-clause-plain
returns-clause-plain c = meanings-plain

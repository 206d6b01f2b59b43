use Rattle.object_coverage.proofs.PartialLemmas.{partials-same, partials-ask}
use Rattle.object_coverage.proofs.TextLemmas.{objects-same, objects-ask, layouts-were-asked, unchanged-texts}
use Rattle.object_coverage.proofs.text_laws.Goals as goal

pub returns-clause-objects : goal.returns-clause-objects
returns-clause-objects c = objects-same

pub returns-clause-partials : goal.returns-clause-partials
returns-clause-partials c = partials-same

pub returns-clause-objects_asked : goal.returns-clause-objects_asked
returns-clause-objects_asked c = objects-ask

pub returns-clause-partials_asked : goal.returns-clause-partials_asked
returns-clause-partials_asked c = partials-ask

pub returns-clause-layouts_asked : goal.returns-clause-layouts_asked
returns-clause-layouts_asked c = layouts-were-asked

pub returns-clause-unchanged : goal.returns-clause-unchanged
returns-clause-unchanged c = unchanged-texts

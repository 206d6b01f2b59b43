use Rattle.project_sources.proofs.UniqueLemmas.{come_to_one, same_errors, same_trees, never_both}
use Rattle.project_sources.proofs.laws.sources_are_one.Goals as goal

pub returns-clause-exists : goal.returns-clause-exists
returns-clause-exists c = come_to_one

pub returns-clause-refusal : goal.returns-clause-refusal
returns-clause-refusal c = same_errors

pub returns-clause-trees : goal.returns-clause-trees
returns-clause-trees c = same_trees

pub returns-clause-apart : goal.returns-clause-apart
returns-clause-apart c = never_both

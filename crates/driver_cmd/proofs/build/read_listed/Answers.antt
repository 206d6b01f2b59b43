use Rattle.std.proofs.Common.{subst}
use Rattle.std.specs.Prelude.{IfSome}
use Rattle.project_sources.specs.Parsed.{entry_paths}
use Rattle.project_sources.specs.Reading.{AreReadAs, StandAt}
use Rattle.project_sources.specs.declared.reading.Sources.TheVariants as read
use Rattle.driver_cmd.proofs.ProjectLemmas.{read_refused, read_trees}
use Rattle.driver_cmd.proofs.build.read_listed.Goals as goal

pub returns-in-Refused-clause-project : goal.returns-in-Refused-clause-project
returns-in-Refused-clause-project g c =
    let observed = g.T.Tree.observed in
    let read_as : IfSome (observed c.args.tree.now) (λ t. AreReadAs t.sources (entry_paths c.deref.result.now) (read.Refused c.in-Refused.errors)) =
    subst (λ r. IfSome (observed c.args.tree.now) (λ t. AreReadAs t.sources (entry_paths c.deref.result.now) r)) c.in-Refused.is c.in_ok-errors.ensures.sources in
    read_refused (observed c.args.tree.now) c.args.entries c.in-Refused.errors
    (subst (λ es. IfSome (observed c.args.tree.now) (λ t. AreReadAs t.sources (entry_paths es) (read.Refused c.in-Refused.errors))) c.deref.ensures.value read_as)

pub returns-in-Trees-clause-project : goal.returns-in-Trees-clause-project
returns-in-Trees-clause-project g c =
    let observed = g.T.Tree.observed in
    let read_as : IfSome (observed c.args.tree.now) (λ t. AreReadAs t.sources (entry_paths c.deref.result.now) (read.Trees c.in-Trees.trees)) =
    subst (λ r. IfSome (observed c.args.tree.now) (λ t. AreReadAs t.sources (entry_paths c.deref.result.now) r)) c.in-Trees.is c.in_ok-errors.ensures.sources in
    read_trees (observed c.args.tree.now) c.args.entries c.in-Trees.trees
    (subst (λ es. IfSome (observed c.args.tree.now) (λ t. AreReadAs t.sources (entry_paths es) (read.Trees c.in-Trees.trees))) c.deref.ensures.value read_as)

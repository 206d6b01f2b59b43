use Rattle.std.proofs.Common.{◌≡◌, ◌∙◌, ap, subst}
use Rattle.diag_text.specs.Line.{lines_of}
use Rattle.std.specs.Prelude.{IfSome}
use Rattle.drv_outside.specs.IfObserved.{IfObserved}
use Rattle.drv_outside.specs.TreeState.{entries_of}
use Rattle.project_sources.specs.Refusals.{IsRefused, HaveTrees}
use Rattle.driver_cmd.specs.Clean.{LeavesCleanBuild}
use Rattle.driver_cmd.specs.Projects.{Builds, IsReadFrom}
use Rattle.driver_cmd.specs.declared.build.Project.TheVariants.{Refused, Read}
use Rattle.driver_cmd.proofs.CleanLemmas.{refused_leaves, built_leaves, stays_reading, stays_ended}
use Rattle.driver_cmd.proofs.ProjectLemmas.{early_behind, for_ok}
use Rattle.driver_cmd.proofs.build.build_project.Goals as goal

pub returns-in_err-errors-clause-trusted : goal.returns-in_err-errors-clause-trusted
returns-in_err-errors-clause-trusted g c = stays_reading c.args.name.now _ _ c.in_err-errors.ensures.reads

pub returns-in_err-printed-in-Refused-clause-trusted : goal.returns-in_err-printed-in-Refused-clause-trusted
returns-in_err-printed-in-Refused-clause-trusted g c = stays_reading c.args.name.now _ _ c.in_ok-errors.ensures.reads

pub returns-in_ok-printed-in-Refused-clause-trusted : goal.returns-in_ok-printed-in-Refused-clause-trusted
returns-in_ok-printed-in-Refused-clause-trusted g c = stays_reading c.args.name.now _ _ c.in_ok-errors.ensures.reads

pub returns-in_ok-printed-in-Refused-clause-clean : goal.returns-in_ok-printed-in-Refused-clause-clean
returns-in_ok-printed-in-Refused-clause-clean g c =
    let observed = g.T.Tree.observed in
    let is : IfSome (observed c.args.tree.now) (λ t. IsRefused t.sources c.in-Refused.errors.items) =
    subst (λ p. IfSome (observed c.args.tree.now) (λ t. IsReadFrom t.sources p)) c.in-Refused.is c.in_ok-errors.ensures.project in
    refused_leaves c.args.name.now (observed c.args.tree.now) (observed c.read_project.new.tree) c.in-Refused.errors.items _ c.in_ok-errors.ensures.passed is (c.into_vec.ensures ∙ c.in_ok-printed-in-Refused.ensures ∙ ap lines_of c.deref.ensures.value)

pub returns-in-Read-clause-clean : goal.returns-in-Read-clause-clean
returns-in-Read-clause-clean g c =
    let observed = g.T.Tree.observed in
    let have : IfSome (observed c.args.tree.now) (λ t. (c.in-Read.entries.items ≡ entries_of t.sources) × HaveTrees t.sources c.in-Read.trees.items) =
    subst (λ p. IfSome (observed c.args.tree.now) (λ t. IsReadFrom t.sources p)) c.in-Read.is c.in_ok-errors.ensures.project in
    for_ok c.build_module.result (λ lines. Builds c.args.name.now c.in-Read.entries.items c.in-Read.trees.items lines.items (observed c.read_project.new.tree) (observed c.build_module.new.tree))
    (λ lines. IfObserved (observed c.args.tree.now) (observed c.build_module.new.tree) (LeavesCleanBuild c.args.name.now lines.items (observed c.args.tree.now) (observed c.build_module.new.tree)))
    c.build_module.ensures.builds
    (λ lines builds. built_leaves c.args.name.now (observed c.args.tree.now) (observed c.read_project.new.tree) (observed c.build_module.new.tree) c.in-Read.entries.items c.in-Read.trees.items lines.items c.in_ok-errors.ensures.passed have builds)

pub returns-in-Read-clause-trusted : goal.returns-in-Read-clause-trusted
returns-in-Read-clause-trusted g c =
    let observed = g.T.Tree.observed in
    let have : IfSome (observed c.args.tree.now) (λ t. (c.in-Read.entries.items ≡ entries_of t.sources) × HaveTrees t.sources c.in-Read.trees.items) =
    subst (λ p. IfSome (observed c.args.tree.now) (λ t. IsReadFrom t.sources p)) c.in-Read.is c.in_ok-errors.ensures.project in
    stays_ended c.args.name.now (observed c.args.tree.now) (observed c.read_project.new.tree) (observed c.build_module.new.tree) c.in-Read.entries.items c.in-Read.trees.items c.build_module.result c.in_ok-errors.ensures.reads have
    c.build_module.ensures.builds c.build_module.ensures.stops c.build_module.ensures.early c.build_module.ensures.ends

pub returns-in-Read-clause-early : goal.returns-in-Read-clause-early
returns-in-Read-clause-early g c = early_behind c.build_module.result _ _ _ c.in_ok-errors.ensures.reads c.build_module.ensures.early

use Rattle.driver_cmd.specs.Trusted.{StaysTrusted}
use Rattle.driver_cmd.proofs.DrivenLemmas.{Leaves, driven_built, driven_ended, for_asked, is_accepted}
use Rattle.driver_cmd.proofs.build.build.Goals as goal

pub returns-in-Ok : goal.returns-in-Ok
returns-in-Ok g c = λ words asked.
    let observed = g.T.Tree.observed in
    driven_built words c.in-Ok.lines.items _ _ _ _ _ _ _ _ _ c.print.result (is_accepted words c.args.name.now asked)
    (for_asked words c.args.name.now (λ n. Leaves c.in-Ok.lines.items n (observed c.args.tree.now) (observed c.build_project.new.tree)) asked c.in-Ok.ensures.clean)
    (for_asked words c.args.name.now (λ n. StaysTrusted n (observed c.args.tree.now) (observed c.build_project.new.tree)) asked c.in-Ok.ensures.trusted)
    c.in-Ok.ensures.ok_count c.deref.ensures.value c.print.ensures

pub returns-in-Err : goal.returns-in-Err
returns-in-Err g c = λ words asked.
    let observed = g.T.Tree.observed in
    driven_ended words _ _ _ _ _ _ c.in-Err.status (is_accepted words c.args.name.now asked)
    (for_asked words c.args.name.now (λ n. StaysTrusted n (observed c.args.tree.now) (observed c.build_project.new.tree)) asked c.in-Err.ensures.trusted)
    c.in-Err.ensures.tree_fault c.in-Err.ensures.early c.in-Err.ensures.no_memory_count c.in-Err.ensures.ends

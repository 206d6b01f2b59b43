use Rattle.std.proofs.Common.{rules, ◌≡◌, [], false}
use Rattle.drv_outside.specs.Moments.{Stops}
use Rattle.drv_outside.specs.declared.types.Call.TheVariants.{Sync}
use Rattle.disk_images.specs.Laws.{closing}
use Rattle.disk_commit.proofs.RunLemmas.{run_none, stops_at, sync_fails, on_err}
use Rattle.disk_commit.proofs.change.close.Goals as goal

pub returns-in_err-sync-clause-stops : goal.returns-in_err-sync-clause-stops
returns-in_err-sync-clause-stops g c =
    let opened : c.args.opened ≡ false = search rules in
    let recorded : c.args.recorded ≡ false = search rules in
    let stops : Stops (closing false false c.args.build_record.now) (g.T.Tree.observed c.args.tree.now) (g.T.Tree.observed c.sync.new.self) =
    stops_at [] Sync [] _ _ _ (run_none _) (sync_fails _ _ c.in_err-sync.ensures.err) in
    on_err c.from_residual.result _ (rw (opened, recorded) stops)

use Rattle.std.proofs.Common.{◌≡◌, [], ◌∷◌, option_map}
use Rattle.drv_outside.specs.Moments.{all_done}
use Rattle.drv_outside.specs.declared.types.Call.TheVariants.{Remove, Sync}
use Rattle.disk_commit.proofs.RunLemmas.{run_none, run_more, stops_at, remove_fails, sync_fails, on_err}
use Rattle.disk_commit.proofs.change.forget.Goals as goal

pub returns-in_err-sync-clause-stops : goal.returns-in_err-sync-clause-stops
returns-in_err-sync-clause-stops g c =
    on_err c.from_residual.result _ (stops_at [] Sync (Remove c.args.build_record.now ∷ Sync ∷ []) _ _ _ (run_none _) (sync_fails _ _ c.in_err-sync.ensures.err))

pub returns-in_err-remove_file-clause-stops : goal.returns-in_err-remove_file-clause-stops
returns-in_err-remove_file-clause-stops g c =
    on_err c.from_residual-in_err-remove_file.result _ (stops_at (Sync ∷ []) (Remove c.args.build_record.now) (Sync ∷ []) _ _ _ c.in_ok-sync.ensures.change (remove_fails _ _ _ c.in_err-remove_file.ensures.err))

pub returns-in_err-sync-2-clause-stops : goal.returns-in_err-sync-2-clause-stops
returns-in_err-sync-2-clause-stops g c =
    let observed = g.T.Tree.observed in
    let front : observed c.remove_file.new.self ≡ option_map (all_done (Sync ∷ Remove c.args.build_record.now ∷ [])) (observed c.args.tree.now) =
    run_more (Sync ∷ []) (Remove c.args.build_record.now) _ _ _ c.in_ok-sync.ensures.change c.in_ok-remove_file.ensures.change in
    on_err c.from_residual-in_err-sync-2.result _ (stops_at (Sync ∷ Remove c.args.build_record.now ∷ []) Sync [] _ _ _ front (sync_fails _ _ c.in_err-sync-2.ensures.err))

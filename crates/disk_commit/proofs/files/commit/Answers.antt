use Rattle.std.proofs.Common.{◌≡◌, [], ◌∷◌, option_map}
use Rattle.drv_outside.specs.Moments.{all_done}
use Rattle.drv_outside.specs.declared.types.Call.TheVariants.{Write, Sync}
use Rattle.disk_commit.proofs.RunLemmas.{run_none, run_more, stops_at, write_fails, sync_fails, on_err}
use Rattle.disk_commit.proofs.files.commit.Goals as goal

pub returns-in_err-sync-clause-stops : goal.returns-in_err-sync-clause-stops
returns-in_err-sync-clause-stops g c =
    on_err c.from_residual.result _ (stops_at [] Sync (Write c.args.gate.now (1 ∷ []) ∷ Sync ∷ []) _ _ _ (run_none _) (sync_fails _ _ c.in_err-sync.ensures.err))

pub returns-in_err-write_file-clause-stops : goal.returns-in_err-write_file-clause-stops
returns-in_err-write_file-clause-stops g c =
    on_err c.from_residual-in_err-write_file.result _ (stops_at (Sync ∷ []) (Write c.args.gate.now (1 ∷ [])) (Sync ∷ []) _ _ _ c.in_ok-sync.ensures.change (write_fails _ _ _ _ c.in_err-write_file.ensures.err))

pub returns-in_err-sync-2-clause-stops : goal.returns-in_err-sync-2-clause-stops
returns-in_err-sync-2-clause-stops g c =
    let observed = g.T.Tree.observed in
    let front : observed c.write_file.new.self ≡ option_map (all_done (Sync ∷ Write c.args.gate.now (1 ∷ []) ∷ [])) (observed c.args.tree.now) =
    run_more (Sync ∷ []) (Write c.args.gate.now (1 ∷ [])) _ _ _ c.in_ok-sync.ensures.change c.in_ok-write_file.ensures.change in
    on_err c.from_residual-in_err-sync-2.result _ (stops_at (Sync ∷ Write c.args.gate.now (1 ∷ []) ∷ []) Sync [] _ _ _ front (sync_fails _ _ c.in_err-sync-2.ensures.err))

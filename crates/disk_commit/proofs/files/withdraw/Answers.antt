use Rattle.std.proofs.Common.{[], ◌∷◌}
use Rattle.drv_outside.specs.declared.types.Call.TheVariants.{Write, Sync}
use Rattle.disk_commit.proofs.RunLemmas.{run_none, stops_at, write_fails, sync_fails, on_err}
use Rattle.disk_commit.proofs.files.withdraw.Goals as goal

pub returns-in_err-write_file-clause-stops : goal.returns-in_err-write_file-clause-stops
returns-in_err-write_file-clause-stops g c =
    on_err c.from_residual.result _ (stops_at [] (Write c.args.gate.now (0 ∷ [])) (Sync ∷ []) _ _ _ (run_none _) (write_fails _ _ _ _ c.in_err-write_file.ensures.err))

pub returns-in_err-sync-clause-stops : goal.returns-in_err-sync-clause-stops
returns-in_err-sync-clause-stops g c =
    on_err c.from_residual-in_err-sync.result _ (stops_at (Write c.args.gate.now (0 ∷ []) ∷ []) Sync [] _ _ _ c.in_ok-write_file.ensures.change (sync_fails _ _ c.in_err-sync.ensures.err))

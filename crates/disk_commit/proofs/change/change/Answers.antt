use Rattle.std.proofs.Common.{◌≡◌, ◌++◌, option_map}
use Rattle.disk_images.specs.Laws.{closing, withdrawal, committing}
use Rattle.disk_commit.specs.Steps.{removals, writes}
use Rattle.disk_commit.proofs.RunLemmas.{run_then, stops_first, stops_then, on_err}
use Rattle.disk_commit.proofs.change.change.Goals as goal

pub returns-clause-done : goal.returns-clause-done
returns-clause-done g c =
    let shut = closing c.args.opened c.args.recorded c.args.build_record.now in
    let gate = c.args.gate.now in let rs = removals c.args.names.now in let ws = writes c.args.files.now in
    run_then shut (withdrawal gate ++ ((rs ++ ws) ++ committing gate)) _ _ _ c.in_ok-close.ensures.done
    (run_then (withdrawal gate) ((rs ++ ws) ++ committing gate) _ _ _ c.in_ok-withdraw.ensures.done
    (run_then (rs ++ ws) (committing gate) _ _ _ (run_then rs ws _ _ _ c.in_ok-sweep.ensures.swept c.in_ok-place.ensures.placed) c.in_ok-commit.ensures.done))

pub returns-in_err-close-clause-stops : goal.returns-in_err-close-clause-stops
returns-in_err-close-clause-stops g c =
    let shut = closing c.args.opened c.args.recorded c.args.build_record.now in
    let gate = c.args.gate.now in let rs = removals c.args.names.now in let ws = writes c.args.files.now in
    on_err c.from_residual.result _ (stops_first shut (withdrawal gate ++ ((rs ++ ws) ++ committing gate)) _ _ c.in_err-close.ensures.stops)

pub returns-in_err-withdraw-clause-stops : goal.returns-in_err-withdraw-clause-stops
returns-in_err-withdraw-clause-stops g c =
    let shut = closing c.args.opened c.args.recorded c.args.build_record.now in
    let gate = c.args.gate.now in let rs = removals c.args.names.now in let ws = writes c.args.files.now in
    on_err c.from_residual-in_err-withdraw.result _ (stops_then shut (withdrawal gate ++ ((rs ++ ws) ++ committing gate)) _ _ _ c.in_ok-close.ensures.done
    (stops_first (withdrawal gate) ((rs ++ ws) ++ committing gate) _ _ c.in_err-withdraw.ensures.stops))

pub returns-in_err-sweep-clause-stops : goal.returns-in_err-sweep-clause-stops
returns-in_err-sweep-clause-stops g c =
    let shut = closing c.args.opened c.args.recorded c.args.build_record.now in
    let gate = c.args.gate.now in let rs = removals c.args.names.now in let ws = writes c.args.files.now in
    on_err c.from_residual-in_err-sweep.result _ (stops_then shut (withdrawal gate ++ ((rs ++ ws) ++ committing gate)) _ _ _ c.in_ok-close.ensures.done
    (stops_then (withdrawal gate) ((rs ++ ws) ++ committing gate) _ _ _ c.in_ok-withdraw.ensures.done
    (stops_first (rs ++ ws) (committing gate) _ _ (stops_first rs ws _ _ c.in_err-sweep.ensures.stops))))

pub returns-in_err-place-clause-stops : goal.returns-in_err-place-clause-stops
returns-in_err-place-clause-stops g c =
    let shut = closing c.args.opened c.args.recorded c.args.build_record.now in
    let gate = c.args.gate.now in let rs = removals c.args.names.now in let ws = writes c.args.files.now in
    on_err c.from_residual-in_err-place.result _ (stops_then shut (withdrawal gate ++ ((rs ++ ws) ++ committing gate)) _ _ _ c.in_ok-close.ensures.done
    (stops_then (withdrawal gate) ((rs ++ ws) ++ committing gate) _ _ _ c.in_ok-withdraw.ensures.done
    (stops_first (rs ++ ws) (committing gate) _ _ (stops_then rs ws _ _ _ c.in_ok-sweep.ensures.swept c.in_err-place.ensures.stops))))

pub returns-in_err-commit-clause-stops : goal.returns-in_err-commit-clause-stops
returns-in_err-commit-clause-stops g c =
    let shut = closing c.args.opened c.args.recorded c.args.build_record.now in
    let gate = c.args.gate.now in let rs = removals c.args.names.now in let ws = writes c.args.files.now in
    on_err c.from_residual-in_err-commit.result _ (stops_then shut (withdrawal gate ++ ((rs ++ ws) ++ committing gate)) _ _ _ c.in_ok-close.ensures.done
    (stops_then (withdrawal gate) ((rs ++ ws) ++ committing gate) _ _ _ c.in_ok-withdraw.ensures.done
    (stops_then (rs ++ ws) (committing gate) _ _ _ (run_then rs ws _ _ _ c.in_ok-sweep.ensures.swept c.in_ok-place.ensures.placed) c.in_err-commit.ensures.stops)))

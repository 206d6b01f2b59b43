use Rattle.std.proofs.Common.{◌≡◌, ◌∙◌, sym, ap, subst, option_map}
use Rattle.std.specs.Prelude.{IfSome}
use Rattle.std.specs.FinMap.{get, keys}
use Rattle.disk_images.specs.Laws.{is_open}
use Rattle.disk_commit.specs.Change as change
use Rattle.drv_outside.specs.Moments.{Stops, all_done}
use Rattle.drv_outside.specs.Reads.{OnlyReads, reads_one, reads_failed, reads_then}
use Rattle.drv_outside.specs.TreeState.{TreeState}
use Rattle.drv_outside.specs.declared.status.Status.{Status}
use Rattle.project_sources.proofs.CallLemmas.{pass_one, pass_then}
use Rattle.project_sources.proofs.SourceLemmas.{any_error}
use Rattle.driver_build.specs.Replacing.{IsSeen, StopsReplacing, reading, changing, replacing}
use Rattle.driver_build.proofs.ReplacingLemmas.{early_leave, stops_then, names_seen}
use Rattle.driver_build.proofs.replacing.replace_folder.Goals as goal

pub returns-in_err-gate-clause-stops : goal.returns-in_err-gate-clause-stops
returns-in_err-gate-clause-stops g c =
    any_error c.from_residual.result (λ status. status ≡ Status.TreeFault → StopsReplacing c.args.names.now c.args.outputs.now (g.T.Tree.observed c.args.tree.now) (g.T.Tree.observed c.read_file.new.self))
    (λ status fault. reading (reads_failed _ _ _ _ tt c.in_err-gate.ensures.err))

pub returns-in_err-gate-clause-early : goal.returns-in_err-gate-clause-early
returns-in_err-gate-clause-early g c =
    any_error c.from_residual.result (λ status. status ≡ Status.NoMemory → OnlyReads (g.T.Tree.observed c.args.tree.now) (g.T.Tree.observed c.read_file.new.self))
    (λ status early. reads_failed _ _ _ _ tt c.in_err-gate.ensures.err)

pub returns-in_err-present-clause-stops : goal.returns-in_err-present-clause-stops
returns-in_err-present-clause-stops g c =
    any_error c.from_residual-in_err-present.result (λ status. status ≡ Status.TreeFault → StopsReplacing c.args.names.now c.args.outputs.now (g.T.Tree.observed c.args.tree.now) (g.T.Tree.observed c.names.new.self))
    (λ status fault. reading (reads_then _ _ _ (reads_one _ _ _ _ tt c.in_ok-gate.ensures.change) (reads_failed _ _ _ _ tt c.in_err-present.ensures.err)))

pub returns-in_err-present-clause-early : goal.returns-in_err-present-clause-early
returns-in_err-present-clause-early g c =
    any_error c.from_residual-in_err-present.result (λ status. status ≡ Status.NoMemory → OnlyReads (g.T.Tree.observed c.args.tree.now) (g.T.Tree.observed c.names.new.self))
    (λ status early. reads_then _ _ _ (reads_one _ _ _ _ tt c.in_ok-gate.ensures.change) (reads_failed _ _ _ _ tt c.in_err-present.ensures.err))

pub returns-in-Ok-clause-replaced : goal.returns-in-Ok-clause-replaced
returns-in-Ok-clause-replaced g c =
    let observed = g.T.Tree.observed in
    let gate_read : IfSome (observed c.args.tree.now) (λ t. c.in_ok-gate.gate ≡ get t.folder c.args.names.now.gate) =
    subst (λ name. IfSome (observed c.args.tree.now) (λ t. c.in_ok-gate.gate ≡ get t.folder name)) c.as_str.ensures c.in_ok-gate.ensures.answer in
    record {
      between = observed c.names.new.self;
      opened = c.is_open-opened.result;
      held = c.in_ok-present.present.items;
      seen = names_seen c.args.names.now c.is_open-opened.result c.in_ok-present.present.items c.in_ok-gate.gate (observed c.args.tree.now) (observed c.read_file.new.self) (observed c.names.new.self)
          (pass_one _ _ _ tt c.in_ok-gate.ensures.change) (pass_one _ _ _ tt c.in_ok-present.ensures.change) gate_read c.is_open-opened.ensures c.in_ok-present.ensures.answer;
      done = c.in-Ok.ensures.done ∙ (λ i. option_map (all_done (change.changing (c.as_str-2.ensures i) (c.as_str-3.ensures i) c.is_open-opened.result (c.deref.ensures.value i) c.args.outputs.now)) (observed c.names.new.self));
    }

pub returns-clause-stops : goal.returns-clause-stops
returns-clause-stops g c = λ fault.
    let observed = g.T.Tree.observed in
    let names = c.args.names.now in let opened = c.is_open-opened.result in let held = c.in_ok-present.present.items in let outputs = c.args.outputs.now in
    let gate_read : IfSome (observed c.args.tree.now) (λ t. c.in_ok-gate.gate ≡ get t.folder names.gate) =
    subst (λ name. IfSome (observed c.args.tree.now) (λ t. c.in_ok-gate.gate ≡ get t.folder name)) c.as_str.ensures c.in_ok-gate.ensures.answer in
    stops_then names outputs opened held c.in-Err.end c.change_folder-end.result (observed c.args.tree.now) (observed c.names.new.self) (observed c.change_folder-end.new.tree) c.in-Err.is
    (λ failed. subst (λ calls. Stops calls (observed c.names.new.self) (observed c.change_folder-end.new.tree)) (λ i. change.changing (c.as_str-2.ensures i) (c.as_str-3.ensures i) opened (c.deref.ensures.value i) outputs)
    (c.change_folder-end.ensures.stops failed))
    (sym c.from.ensures ∙ fault)
    (names_seen names opened held c.in_ok-gate.gate (observed c.args.tree.now) (observed c.read_file.new.self) (observed c.names.new.self)
    (pass_one _ _ _ tt c.in_ok-gate.ensures.change) (pass_one _ _ _ tt c.in_ok-present.ensures.change) gate_read c.is_open-opened.ensures c.in_ok-present.ensures.answer)

pub returns-clause-early : goal.returns-clause-early
returns-clause-early g c = λ early.
    let observed = g.T.Tree.observed in
    early_leave c.in-Err.end c.change_folder-end.result (observed c.args.tree.now) (observed c.names.new.self) (observed c.change_folder-end.new.tree) c.in-Err.is c.change_folder-end.ensures.no_call
    (sym c.from.ensures ∙ early) (reads_then _ _ _ (reads_one _ _ _ _ tt c.in_ok-gate.ensures.change) (reads_one _ _ _ _ tt c.in_ok-present.ensures.change))

use Rattle.std.proofs.Common.{◌≡◌, ◌∙◌, ◌++◌, ap, option_map}
use Rattle.drv_outside.specs.Disk.{Disk}
use Rattle.drv_outside.specs.IfObserved.{if_observed}
use Rattle.drv_outside.specs.Moments.{all_done}
use Rattle.ordered_lists.specs.Among.{is_among}
use Rattle.disk_images.specs.Laws.{commit_calls}
use Rattle.disk_commit.specs.Change.{changing}
use Rattle.disk_commit.specs.Steps.{removals, writes}
use Rattle.disk_commit.proofs.ChangeLemmas.{disk_changed}
use Rattle.disk_commit.proofs.change.change_folder.Goals as goal

pub returns-in-Ok-clause-folder : goal.returns-in-Ok-clause-folder
returns-in-Ok-clause-folder g c = λ names.
    let observed = g.T.Tree.observed in
    let gate = c.args.gate.now in let build_record = c.args.build_record.now in let files = c.args.files.now in
    let all : observed c.change.new.tree ≡ option_map (all_done (changing gate build_record c.args.opened c.args.names.now files)) (observed c.args.tree.now) =
    c.in-Ok.ensures.done
    ∙ ap (λ recorded. option_map (all_done (commit_calls gate build_record c.args.opened recorded (removals c.deref.result.now ++ writes files))) (observed c.args.tree.now)) c.is_among-recorded.ensures
    ∙ ap (λ swept. option_map (all_done (commit_calls gate build_record c.args.opened (is_among c.args.names.now build_record) (removals swept ++ writes files))) (observed c.args.tree.now)) (c.deref.ensures.value ∙ c.in_ok-swept.ensures.swept) in
    if_observed _ (all_done (changing gate build_record c.args.opened c.args.names.now files)) _ _ _ all names
    (λ t is. ap (λ (d : Disk). d.folder) (disk_changed gate build_record c.args.opened c.args.names.now files t is))

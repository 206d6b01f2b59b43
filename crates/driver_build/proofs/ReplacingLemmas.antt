-- What the outputs of a build leave once they took the place of what stood in the folder, and why a crash at any moment of it
-- does no harm.
use Rattle.std.proofs.Common.{◌≡◌, ℕ, Bool, false, List, [], ◌∷◌, ◌++◌, nat_eq, refl, sym, ap, subst, ◌∙◌, Option, Some, None, option_map, append_assoc}
use Rattle.std.specs.Prelude.{IfSome, Result, Err}
use Rattle.std.specs.Cmp.Lexicographic.{pointwise}
use Rattle.std.specs.FinMap.{get, keys, empty}
use Rattle.disk_commit.specs.Change.{swept, opened_folder}
use Rattle.disk_commit.specs.Files.{is_named}
use Rattle.disk_commit.specs.Safe.{MayChange, AreSafe}
use Rattle.disk_commit.specs.Steps.{removals, writes}
use Rattle.disk_commit.specs.declared.files.File.{File}
use Rattle.disk_commit.proofs.ChangeLemmas.{change_safely, disk_changed}
use Rattle.disk_images.specs.Laws.{TrustsByGate, is_open, closing, withdrawal, committing}
use Rattle.disk_images.proofs.MomentsLemmas.{leaves_then, reads_leave}
use Rattle.drv_outside.specs.Disk.{Folder, Disk, Durably, settled}
use Rattle.drv_outside.specs.IfObserved.{IfObserved}
use Rattle.drv_outside.specs.Moments.{LeavesOnly, Stops, all_done}
use Rattle.drv_outside.specs.Reads.{OnlyReads, all_listed}
use Rattle.drv_outside.specs.TreeState.{TreeState, disk_of}
use Rattle.drv_outside.specs.declared.types.Call.{Call}
use Rattle.drv_outside.specs.declared.types.Call.TheVariants.{Write, Sync}
use Rattle.file_map.specs.declared.names.Names.{Names}
use Rattle.ordered_lists.specs.Among.{is_among}
use Rattle.project_sources.specs.Calls.{PassedCalls, AreSynced, ReadsPass}
use Rattle.project_sources.proofs.CallLemmas.{pass_then, then_synced, done_synced}
use Rattle.drv_outside.specs.Status.{status_of}
use Rattle.drv_outside.specs.declared.status.Status.{Status}
use Rattle.drv_outside.specs.declared.types.TreeEnd.{TreeEnd}
use Rattle.drv_outside.specs.declared.types.TreeEnd.TheVariants as tree_end
use Rattle.driver_build.specs.Replacing.{replacing, IsSeen, Replaces, StopsReplacing, reading, changing}

-- What is asked of outputs so that they may take the place of what stands in a folder.
pub record MayReplace (names : Names) (outputs : List File) (P : Folder → Type 0) (t : TreeState) : Type 0 where
  pub trusts : TrustsByGate names.gate names.build_record P
  pub apart : pointwise nat_eq names.gate names.build_record ≡ false
  pub no_gate : is_named outputs names.gate ≡ false
  pub changed : P (opened_folder names.gate outputs)
  pub trusted : Durably P (disk_of t)

-- ---- where all calls were made

-- what is so of the disk behind the change
on_disk : (Q : Disk → Type 0) (names : Names) (outputs : List File) (t : TreeState) (after : Option TreeState) (r : Replaces names outputs (Some t) after) → Q (settled (opened_folder names.gate outputs)) → IfObserved (Some t) after (λ t u. Q (disk_of u))
on_disk Q names outputs t after r so =
    let s : TreeState = all_listed r.seen.reads.reads.calls r.seen.reads.reads.failed t in
    let is : after ≡ Some (all_done (replacing names r.opened r.held outputs) s) = r.done ∙ ap (option_map (all_done (replacing names r.opened r.held outputs))) r.seen.reads.reads.is in
    subst (λ o. IfObserved (Some t) o (λ t u. Q (disk_of u))) (sym is)
    (subst Q (sym (disk_changed names.gate names.build_record r.opened r.held outputs s r.seen.all_names)) so)

pub replaced_folder : (names : Names) (outputs : List File) (before after : Option TreeState) → Replaces names outputs before after → IfObserved before after (λ t u. u.folder ≡ opened_folder names.gate outputs)
replaced_folder names outputs None after r = tt
replaced_folder names outputs (Some t) after r = on_disk (λ d. d.folder ≡ opened_folder names.gate outputs) names outputs t after r refl

pub replaced_settled : (names : Names) (outputs : List File) (before after : Option TreeState) → Replaces names outputs before after → IfObserved before after (λ t u. u.doubts ≡ empty)
replaced_settled names outputs None after r = tt
replaced_settled names outputs (Some t) after r = on_disk (λ d. d.doubts ≡ empty) names outputs t after r refl

-- the last call is a sync
ends_with_sync : (a b c d e : List Call) → a ++ (b ++ (c ++ (d ++ e))) ≡ (a ++ (b ++ (c ++ d))) ++ e
ends_with_sync a b c d e = ap (λ x. a ++ (b ++ x)) (sym (append_assoc c d e)) ∙ ap (λ x. a ++ x) (sym (append_assoc b (c ++ d) e)) ∙ sym (append_assoc a (b ++ (c ++ d)) e)

pub replaced_synced : (names : Names) (outputs : List File) (before after : Option TreeState) → Replaces names outputs before after → IfObserved before after (PassedCalls AreSynced)
replaced_synced names outputs before after r =
    let shut = closing r.opened (is_among r.held names.build_record) names.build_record in
    let changes = removals (swept names.gate r.held outputs) ++ writes outputs in
    let opening = Sync ∷ Write names.gate (1 ∷ []) ∷ [] in
    then_synced before r.between after r.seen.reads
    (done_synced (replacing names r.opened r.held outputs) (shut ++ (withdrawal names.gate ++ (changes ++ opening))) r.between after
    (ends_with_sync shut (withdrawal names.gate) changes opening (Sync ∷ [])) r.done)

-- ---- crashes

may_change : (P : Folder → Type 0) (names : Names) (outputs : List File) (opened : Bool) (held : List (List ℕ)) (t : TreeState) (calls : List Call) (failed : List Bool) → MayReplace names outputs P t
    → is_open (get t.folder names.gate) ≡ opened → held ≡ keys t.folder → MayChange names.gate names.build_record opened held outputs P (all_listed calls failed t)
may_change P names outputs opened held t calls failed may gate all = record {
  trusts = may.trusts;
  apart = may.apart;
  gate_reads = gate;
  all_names = all;
  no_gate = may.no_gate;
  changed = may.changed;
  trusted = may.trusted;
}

safe : (P : Folder → Type 0) (names : Names) (outputs : List File) (opened : Bool) (held : List (List ℕ)) (t : TreeState) (between : Option TreeState) (seen : IsSeen names opened held (Some t) between) → MayReplace names outputs P t
    → AreSafe names.gate names.build_record opened held outputs P (all_listed seen.reads.reads.calls seen.reads.reads.failed t)
safe P names outputs opened held t between seen may =
    change_safely P names.gate names.build_record opened held outputs (all_listed seen.reads.reads.calls seen.reads.reads.failed t)
    (may_change P names outputs opened held t seen.reads.reads.calls seen.reads.reads.failed may seen.gate seen.all_names)

-- reads, and then calls that leave what may be trusted
pub behind_reads : (P : Folder → Type 0) (t : TreeState) (calls : List Call) (failed : List Bool) (after : Option TreeState) → LeavesOnly P t (all_listed calls failed t) → IfObserved (Some (all_listed calls failed t)) after (LeavesOnly P)
    → IfObserved (Some t) after (LeavesOnly P)
behind_reads P t calls failed None reads so = so
behind_reads P t calls failed (Some u) reads so = leaves_then P t (all_listed calls failed t) u reads so

pub read_safely : (P : Folder → Type 0) (t : TreeState) (between : Option TreeState) (reads : OnlyReads (Some t) between) → Durably P (disk_of t) → LeavesOnly P t (all_listed reads.calls reads.failed t)
read_safely P t between reads trusted = subst (λ o. IfObserved (Some t) o (LeavesOnly P)) reads.is (reads_leave P t between trusted reads)

pub replaced_safely : (P : Folder → Type 0) (names : Names) (outputs : List File) (t : TreeState) (after : Option TreeState) → MayReplace names outputs P t → Replaces names outputs (Some t) after → IfObserved (Some t) after (LeavesOnly P)
replaced_safely P names outputs t after may r =
    let reads = r.seen.reads.reads in
    let is : after ≡ Some (all_done (replacing names r.opened r.held outputs) (all_listed reads.calls reads.failed t)) = r.done ∙ ap (option_map (all_done (replacing names r.opened r.held outputs))) reads.is in
    behind_reads P t reads.calls reads.failed after (read_safely P t r.between reads may.trusted)
    (subst (λ o. IfObserved (Some (all_listed reads.calls reads.failed t)) o (LeavesOnly P)) (sym is) (safe P names outputs r.opened r.held t r.between r.seen may).done)

pub stopped_safely : (P : Folder → Type 0) (names : Names) (outputs : List File) (t : TreeState) (after : Option TreeState) → MayReplace names outputs P t → StopsReplacing names outputs (Some t) after → IfObserved (Some t) after (LeavesOnly P)
stopped_safely P names outputs t after may (reading reads) = reads_leave P t after may.trusted reads
stopped_safely P names outputs t after may (changing between opened held seen stops) =
    let reads = seen.reads.reads in
    behind_reads P t reads.calls reads.failed after (read_safely P t between reads may.trusted)
    ((safe P names outputs opened held t between seen may).stopped after
    (subst (λ o. Stops (replacing names opened held outputs) o after) reads.is stops))

-- ---- the call

-- a folder that couldn't be changed for want of memory wasn't touched
pub early_leave : (end : TreeEnd) (r : Result (Unit {0}) TreeEnd) (before between after : Option TreeState) → r ≡ Err end → (r ≡ Err tree_end.NoMemory → after ≡ between)
    → status_of end ≡ Status.NoMemory → OnlyReads before between → OnlyReads before after
early_leave tree_end.Failed r before between after is same ends reads = cc
early_leave tree_end.NoMemory r before between after is same ends reads = subst (λ o. OnlyReads before o) (sym (same is)) reads

-- and one that couldn't be changed for a call that failed stopped there
pub stops_then : (names : Names) (outputs : List File) (opened : Bool) (held : List (List ℕ)) (end : TreeEnd) (r : Result (Unit {0}) TreeEnd) (before between after : Option TreeState) → r ≡ Err end
    → (r ≡ Err tree_end.Failed → Stops (replacing names opened held outputs) between after) → status_of end ≡ Status.TreeFault → IsSeen names opened held before between → StopsReplacing names outputs before after
stops_then names outputs opened held tree_end.Failed r before between after is stops ends seen = changing between opened held seen (stops is)
stops_then names outputs opened held tree_end.NoMemory r before between after is stops ends seen = cc

folder_stays : (Q : Folder → Type 0) (before after : Option TreeState) → OnlyReads before after → IfSome after (λ t. Q t.folder) → IfSome before (λ t. Q t.folder)
folder_stays Q None after reads so = tt
folder_stays Q (Some t) after reads so = subst (λ o. IfSome o (λ u. Q u.folder)) reads.is so

gate_seen : (observed : Option TreeState) (gate : List ℕ) (found : Option (List ℕ)) (opened : Bool) → IfSome observed (λ t. found ≡ get t.folder gate) → opened ≡ is_open found → IfSome observed (λ t. is_open (get t.folder gate) ≡ opened)
gate_seen None gate found opened is reads = tt
gate_seen (Some t) gate found opened is reads = ap is_open (sym is) ∙ sym reads

-- what was seen of a folder whose gate and names were read
pub names_seen : (names : Names) (opened : Bool) (held : List (List ℕ)) (found : Option (List ℕ)) (before gated between : Option TreeState) → ReadsPass before gated → ReadsPass gated between
    → IfSome before (λ t. found ≡ get t.folder names.gate) → opened ≡ is_open found → IfSome gated (λ t. held ≡ keys t.folder) → IsSeen names opened held before between
names_seen names opened held found before gated between one two is reads all = record {
  reads = pass_then before gated between one two;
  gate = gate_seen before names.gate found opened is reads;
  all_names = folder_stays (λ folder. held ≡ keys folder) before gated one.reads all;
}

-- What a change of a folder leaves, and why a crash at any moment of it does no harm.
use Rattle.std.proofs.Common.{◌≡◌, ℕ, Bool, true, false, not, ◌&&◌, ◌||◌, cond, List, [], ◌∷◌, ◌++◌, filter, nat_eq, refl, sym, ap, subst, ◌∙◌, Option, Some, None, is_some, arith}
use Rattle.std.specs.List.{list_any, list_all}
use Rattle.std.specs.Ordering.{nat_cmp}
use Rattle.std.specs.Cmp.Lexicographic.{slice_cmp, pointwise, nat_list_cmp_total, texts_ties}
use Rattle.std.specs.FinMap.{get, empty, keys, insert, remove, get-insert, get-remove, get-empty, contains_key-keys}
use Rattle.drv_outside.specs.Disk.{Folder, Disk, Durably, settled, after, after_all, leave_alone, changes}
use Rattle.drv_outside.specs.IfObserved.{IfObserved}
use Rattle.drv_outside.specs.Moments.{LeavesOnly, Stops, all_done}
use Rattle.drv_outside.specs.TreeState.{TreeState, disk_of, done}
use Rattle.drv_outside.specs.declared.types.Call.{Call}
use Rattle.drv_outside.specs.declared.types.Call.TheVariants.{Write, Remove, Sync}
use Rattle.ordered_lists.specs.Among.{is_among}
use Rattle.disk_images.specs.Laws.{CommitsFrom, closing, forgetting, withdrawal, committing, commit_calls, is_open}
use Rattle.disk_images.proofs.CommitLemmas.{after_then, commit_is_durable}
use Rattle.disk_images.proofs.ImagesLemmas.{is_at, same_name, same_folder}
use Rattle.disk_images.proofs.MomentsLemmas.{done_leaves, stops_leaves}
use Rattle.disk_commit.specs.declared.files.File.{File}
use Rattle.disk_commit.specs.Change.{changing, others, swept, opened_folder}
use Rattle.disk_commit.specs.Files.{is_named, unwanted, with_files, folder_of}
use Rattle.disk_commit.specs.Safe.{ChangeIsSafe, MayChange, AreSafe}
use Rattle.disk_commit.specs.Steps.{removals, writes}
use Rattle.disk_commit.proofs.Folder.{last_at, get-with_files, at_some, is_at-pointwise, last_of_named}

-- ---- the disk after runs of calls

-- the disk of a tree after calls
disk-all_done : (calls : List Call) (t : TreeState) → disk_of (all_done calls t) ≡ after_all calls (disk_of t)
disk-all_done [] t = refl
disk-all_done (call ∷ calls) t = disk-all_done calls (done call t)

-- the folder once names are removed
abbrev without : List (List ℕ) → Folder → Folder
without [] folder = folder
without (name ∷ names) folder = without names (remove folder name)

folder-removals : (names : List (List ℕ)) (disk : Disk) → (after_all (removals names) disk).folder ≡ without names disk.folder
folder-removals [] disk = refl
folder-removals (name ∷ names) disk = folder-removals names (after (Remove name) disk)

folder-writes : (files : List File) (disk : Disk) → (after_all (writes files) disk).folder ≡ with_files files disk.folder
folder-writes [] disk = refl
folder-writes (file ∷ files) disk = folder-writes files (after (Write file.name file.bytes) disk)

-- the folder before the gate is shut: without the record, where it was forgotten
abbrev closed : Bool → Bool → List ℕ → Folder → Folder
closed true recorded build_record folder = folder
closed false true build_record folder = remove folder build_record
closed false false build_record folder = folder

folder-closing : (opened recorded : Bool) (build_record : List ℕ) (disk : Disk) → (after_all (closing opened recorded build_record) disk).folder ≡ closed opened recorded build_record disk.folder
folder-closing true recorded build_record disk = refl
folder-closing false true build_record disk = refl
folder-closing false false build_record disk = refl

-- the folder after all of a change
abbrev changed : List ℕ → List ℕ → Bool → Bool → List (List ℕ) → List File → Folder → Folder
changed gate build_record opened recorded names files folder =
    insert (with_files files (without names (insert (closed opened recorded build_record folder) gate (0 ∷ [])))) gate (1 ∷ [])

disk-changing : (gate build_record : List ℕ) (opened recorded : Bool) (names : List (List ℕ)) (files : List File) (disk : Disk)
    → after_all (commit_calls gate build_record opened recorded (removals names ++ writes files)) disk ≡ settled (changed gate build_record opened recorded names files disk.folder)
disk-changing gate build_record opened recorded names files disk =
    let shut = after_all (closing opened recorded build_record) disk in
    let drawn = after_all (withdrawal gate) shut in
    let gone = after_all (removals names) drawn in
    after_then (closing opened recorded build_record) (withdrawal gate ++ ((removals names ++ writes files) ++ committing gate)) disk
    ∙ after_then (withdrawal gate) ((removals names ++ writes files) ++ committing gate) shut
    ∙ after_then (removals names ++ writes files) (committing gate) drawn
    ∙ ap (λ d. after_all (committing gate) d) (after_then (removals names) (writes files) drawn)
    ∙ ap (λ f. settled (insert f gate (1 ∷ []))) (
    folder-writes files gone
    ∙ ap (with_files files) (folder-removals names drawn ∙ ap (λ f. without names (insert f gate (0 ∷ []))) (folder-closing opened recorded build_record disk)))

-- ---- the folder that is left

get-without : (names : List (List ℕ)) (folder : Folder) (q : List ℕ) → get (without names folder) q ≡ cond (list_any (is_at q) names) None (get folder q)
get-without [] folder q = refl
get-without (name ∷ names) folder q =
    get-without names (remove folder name) q ∙ ap (cond (list_any (is_at q) names) None) (get-remove nat_list_cmp_total folder name q) ∙ either (is_at q name) (list_any (is_at q) names) (get folder q)
  where
    either : (a b : Bool) (x : Option (List ℕ)) → cond b None (cond a None x) ≡ cond (a || b) None x
    either true true x = refl
    either true false x = refl
    either false b x = refl

-- what stands at a name once the record was forgotten is what stood there, or nothing
abbrev kept_or_gone : Bool → Option (List ℕ) → Option (List ℕ)
kept_or_gone gone found = cond gone None found

get-closed : (opened recorded : Bool) (build_record : List ℕ) (folder : Folder) (q : List ℕ) → get (closed opened recorded build_record folder) q ≡ kept_or_gone (not opened && (recorded && is_at q build_record)) (get folder q)
get-closed true recorded build_record folder q = refl
get-closed false true build_record folder q = get-remove nat_list_cmp_total folder build_record q
get-closed false false build_record folder q = refl

-- A name that isn't the gate's and was there is removed, or is that of a file.
left_elsewhere : (files : List File) (q : List ℕ) (gone named : Bool) (found : Option (List ℕ)) → is_named files q ≡ named
    → last_at files q (cond (not named && (true && is_some found)) None (kept_or_gone gone found)) ≡ last_at files q None
left_elsewhere files q gone true found e = last_of_named files q (kept_or_gone gone found) e
left_elsewhere files q true false (Some x) e = refl
left_elsewhere files q false false (Some x) e = refl
left_elsewhere files q true false None e = refl
left_elsewhere files q false false None e = refl

at_gate : (at : Bool) (here there x : Option (List ℕ)) → (at ≡ false → here ≡ there) → cond at x here ≡ cond at x there
at_gate true here there x same = refl
at_gate false here there x same = same refl

-- At a name other than the gate's the changed folder has what the files have.
changed_elsewhere : (gate build_record : List ℕ) (opened recorded : Bool) (files : List File) (folder : Folder) (q : List ℕ) → is_at q gate ≡ false
    → get (with_files files (without (swept gate (keys folder) files) (insert (closed opened recorded build_record folder) gate (0 ∷ [])))) q ≡ get (folder_of files) q
changed_elsewhere gate build_record opened recorded files folder q away =
    let before = insert (closed opened recorded build_record folder) gate (0 ∷ []) in
    let gone = not opened && (recorded && is_at q build_record) in
    let not_gate : pointwise nat_eq gate q ≡ false = is_at-pointwise q gate ∙ away in
    let among : list_any (is_at q) (swept gate (keys folder) files) ≡ not (is_named files q) && (true && is_some (get folder q)) =
    at_some (λ name. not (is_named files name)) q (others gate (keys folder))
    ∙ ap (λ b. not (is_named files q) && b) (at_some (λ name. not (pointwise nat_eq gate name)) q (keys folder)
    ∙ (λ i. not (not_gate i) && sym (contains_key-keys folder q) i)) in
    let found : get before q ≡ kept_or_gone gone (get folder q) =
    get-insert nat_list_cmp_total (closed opened recorded build_record folder) gate (0 ∷ []) q ∙ ap (λ b. cond b (Some (0 ∷ [])) (get (closed opened recorded build_record folder) q)) away ∙ get-closed opened recorded build_record folder q in
    get-with_files files (without (swept gate (keys folder) files) before) q
    ∙ ap (last_at files q) (get-without (swept gate (keys folder) files) before q ∙ (λ i. cond (among i) None (found i)))
    ∙ left_elsewhere files q gone (is_named files q) (get folder q) refl
    ∙ sym (get-with_files files empty q ∙ ap (last_at files q) (get-empty (slice_cmp nat_cmp) q))

pub changed_folder : (gate build_record : List ℕ) (opened recorded : Bool) (files : List File) (folder : Folder)
    → changed gate build_record opened recorded (swept gate (keys folder) files) files folder ≡ opened_folder gate files
changed_folder gate build_record opened recorded files folder = same_folder _ _ (λ q.
    let left = with_files files (without (swept gate (keys folder) files) (insert (closed opened recorded build_record folder) gate (0 ∷ []))) in
    get-insert nat_list_cmp_total left gate (1 ∷ []) q
    ∙ at_gate (is_at q gate) (get left q) (get (folder_of files) q) (Some (1 ∷ [])) (changed_elsewhere gate build_record opened recorded files folder q)
    ∙ sym (get-insert nat_list_cmp_total (folder_of files) gate (1 ∷ []) q))

-- the disk of a tree after a change
pub disk_changed : (gate build_record : List ℕ) (opened : Bool) (names : List (List ℕ)) (files : List File) (t : TreeState) → names ≡ keys t.folder
    → disk_of (all_done (changing gate build_record opened names files) t) ≡ settled (opened_folder gate files)
disk_changed gate build_record opened names files t all =
    disk-all_done (changing gate build_record opened names files) t
    ∙ disk-changing gate build_record opened (is_among names build_record) (swept gate names files) files (disk_of t)
    ∙ ap (λ ns. settled (changed gate build_record opened (is_among names build_record) (swept gate ns files) files t.folder)) all
    ∙ ap settled (changed_folder gate build_record opened (is_among names build_record) files t.folder)

-- ---- the law

-- calls on other names leave the gate alone
alone_both : (name : List ℕ) (a b : List Call) → leave_alone name a ≡ true → leave_alone name b ≡ true → leave_alone name (a ++ b) ≡ true
alone_both name [] b one two = two
alone_both name (call ∷ a) b one two = both (not (changes name call)) (leave_alone name a) (leave_alone name (a ++ b)) one (λ rest. alone_both name a b rest two)
  where
    both : (x y z : Bool) → x && y ≡ true → (y ≡ true → z ≡ true) → x && z ≡ true
    both true y z e f = f e
    both false y z e f = e

-- one name more that is neither the gate nor a file's
alone_file : (gate name : List ℕ) (files : List File) (named : Bool) (names : List (List ℕ)) → pointwise nat_eq gate name ≡ false → leave_alone gate (removals (unwanted files names)) ≡ true
    → leave_alone gate (removals (cond (not named) (name ∷ unwanted files names) (unwanted files names))) ≡ true
alone_file gate name files true names away rest = rest
alone_file gate name files false names away rest = (λ i. not ((texts_ties name gate ∙ sym (is_at-pointwise name gate) ∙ away) i) && leave_alone gate (removals (unwanted files names))) ∙ rest

alone_name : (gate name : List ℕ) (files : List File) (at : Bool) (names : List (List ℕ)) → pointwise nat_eq gate name ≡ at → leave_alone gate (removals (unwanted files names)) ≡ true
    → leave_alone gate (removals (unwanted files (cond (not at) (name ∷ names) names))) ≡ true
alone_name gate name files true names e rest = rest
alone_name gate name files false names e rest = alone_file gate name files (is_named files name) names e rest

not_swept : (gate : List ℕ) (files : List File) (names : List (List ℕ)) → leave_alone gate (removals (swept gate names files)) ≡ true
not_swept gate files [] = refl
not_swept gate files (name ∷ names) = alone_name gate name files (pointwise nat_eq gate name) (others gate names) refl (not_swept gate files names)

not_written : (gate : List ℕ) (files : List File) → is_named files gate ≡ false → leave_alone gate (writes files) ≡ true
not_written gate [] e = refl
not_written gate (file ∷ files) e = neither (pointwise nat_eq file.name gate) (is_named files gate) (leave_alone gate (writes files)) e (not_written gate files)
  where
    neither : (at named alone : Bool) → at || named ≡ false → (named ≡ false → alone ≡ true) → not at && alone ≡ true
    neither true named alone e f = cc
    neither false named alone e f = f e

-- a name among those of a folder stands there
among-keys : (names : List (List ℕ)) (q : List ℕ) → is_among names q ≡ list_any (is_at q) names
among-keys [] q = refl
among-keys (name ∷ names) q = λ i. is_at-pointwise q name i || among-keys names q i

none_there : (found : Option (List ℕ)) → is_some found ≡ false → found ≡ None
none_there None e = refl
none_there (Some x) e = cc

pub commits_from : (gate build_record : List ℕ) (opened : Bool) (names : List (List ℕ)) (files : List File) (P : Folder → Type 0) (t : TreeState) → MayChange gate build_record opened names files P t
    → CommitsFrom gate build_record opened (is_among names build_record) (removals (swept gate names files) ++ writes files) P (disk_of t)
commits_from gate build_record opened names files P t may = record {
  trusts = may.trusts;
  apart = may.apart;
  gate_reads = may.gate_reads;
  record_reads = λ e. none_there (get t.folder build_record) (contains_key-keys t.folder build_record ∙ sym (among-keys (keys t.folder) build_record) ∙ ap (λ ns. is_among ns build_record) (sym may.all_names) ∙ e);
  changes_others = alone_both gate (removals (swept gate names files)) (writes files) (not_swept gate files names) (not_written gate files may.no_gate);
  committed = subst P (sym (
      ap (λ (d : Disk). d.folder) (sym (disk-all_done (changing gate build_record opened names files) t) ∙ disk_changed gate build_record opened names files t may.all_names)
      )) may.changed;
}

pub change_safely : (P : Folder → Type 0) → ChangeIsSafe P
change_safely P gate build_record opened names files t may =
    let calls = changing gate build_record opened names files in
    let durably = commit_is_durable P gate build_record opened (is_among names build_record) (removals (swept gate names files) ++ writes files) (disk_of t) (commits_from gate build_record opened names files P t may) may.trusted in
    let disk = disk_changed gate build_record opened names files t may.all_names in
    record {
      done = done_leaves P calls t durably;
      stopped = λ after_. stops_leaves P calls t after_ durably;
      folder = ap (λ (d : Disk). d.folder) disk;
      settled = ap (λ (d : Disk). d.doubts) disk;
    }

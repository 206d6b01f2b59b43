-- What a crash leaves at the moments of a run of calls.
use Rattle.std.proofs.Common.{◌≡◌, ℕ, ◌+◌, ◌-◌, arith, length, map, drop, inl, inr, Bool, true, false, List, [], ◌∷◌, ◌++◌, Option, Some, None, refl, sym, ap, subst, ◌∙◌, append_assoc, append-nil, length-append}
use Rattle.drv_outside.specs.Disk.{Folder, Disk, Durably, DurablyThrough, after, after_all, after_failure, folder_left}
use Rattle.std.specs.FinMap.{get}
use Rattle.drv_outside.specs.TreeState.{TreeState, disk_of, done}
use Rattle.drv_outside.specs.IfObserved.{IfObserved}
use Rattle.std.proofs.lemmas.Grind.{common_steps}
use Rattle.drv_outside.specs.Reads.{OnlyReads}
use Rattle.drv_outside.specs.Moments.{moments_since, AnyLeaves, LeftSince, AllDurably, LeavesOnly, all_done, failed_by, Fails, unlisted, listed, Stops}
use Rattle.drv_outside.specs.declared.types.Call.{Call}
use Rattle.drv_outside.specs.declared.types.Call.TheVariants.{List as Listing, ReadSource, ReadMap, Names, ReadFile, Write, Remove, Sync}
use Rattle.disk_images.proofs.ImagesLemmas.{is_at, of_doubted, to_doubted}
use Rattle.disk_images.proofs.CommitLemmas.{elsewhere_written, elsewhere_removed}

-- the disk before each of these calls
abbrev before_each : List Call → Disk → List Disk
before_each [] disk = []
before_each (call ∷ calls) disk = disk ∷ before_each calls (after call disk)

disk_after : (calls : List Call) (t : TreeState) → disk_of (all_done calls t) ≡ after_all calls (disk_of t)
disk_after [] t = refl
disk_after (call ∷ calls) t = disk_after calls (done call t)

earlier_after : (calls : List Call) (t : TreeState) → (all_done calls t).earlier ≡ t.earlier ++ before_each calls (disk_of t)
earlier_after [] t = sym (append-nil t.earlier)
earlier_after (call ∷ calls) t = earlier_after calls (done call t) ∙ append_assoc t.earlier (disk_of t ∷ []) (before_each calls (after call (disk_of t)))

all_durably : (P : Folder → Type 0) (calls : List Call) (disk : Disk) → DurablyThrough P calls disk → AllDurably P (before_each calls disk)
all_durably P [] disk through = tt
all_durably P (call ∷ calls) disk through = (through.0, all_durably P calls (after call disk) through.1)

length-before_each : (calls : List Call) (disk : Disk) → length (before_each calls disk) ≡ length calls
length-before_each [] disk = refl
length-before_each (call ∷ calls) disk = let rest : length (before_each calls (after call disk)) ≡ length calls = length-before_each calls (after call disk) in omega (arith, rest)

calls_after : (calls : List Call) (t : TreeState) → length (all_done calls t).calls ≡ length calls + length t.calls
calls_after [] t = omega arith
calls_after (call ∷ calls) t =
    let rest : length (all_done calls (done call t)).calls ≡ length calls + length (t.calls ++ call ∷ []) = calls_after calls (done call t) in
    omega (arith, rest, length-append t.calls (call ∷ []))

all_durably-append : (P : Folder → Type 0) (a b : List Disk) → AllDurably P a → AllDurably P b → AllDurably P (a ++ b)
all_durably-append P [] b one two = two
all_durably-append P (disk ∷ a) b one two = (one.0, all_durably-append P a b one.1 two)

at_end : (P : Folder → Type 0) (calls : List Call) (disk : Disk) → DurablyThrough P calls disk → Durably P (after_all calls disk)
at_end P [] disk through = through
at_end P (call ∷ calls) disk through = at_end P calls (after call disk) through.1

-- a run of calls that were all done
pub done_leaves : (P : Folder → Type 0) (calls : List Call) (t : TreeState) → DurablyThrough P calls (disk_of t) → LeavesOnly P t (all_done calls t)
done_leaves P calls t through = record {
  since = before_each calls (disk_of t);
  is = earlier_after calls t;
  one_each = omega (arith, length-before_each calls (disk_of t), calls_after calls t);
  each = all_durably P calls (disk_of t) through;
  now = subst (Durably P) (sym (disk_after calls t)) (at_end P calls (disk_of t) through);
}

-- one run behind another
pub leaves_then : (P : Folder → Type 0) (t u v : TreeState) → LeavesOnly P t u → LeavesOnly P u v → LeavesOnly P t v
leaves_then P t u v one two = record {
  since = one.since ++ two.since;
  is = two.is ∙ ap (λ disks. disks ++ two.since) one.is ∙ append_assoc t.earlier one.since two.since;
  one_each = omega (arith, one.one_each, two.one_each, length-append one.since two.since);
  each = all_durably-append P one.since two.since one.each two.each;
  now = two.now;
}

same_disk : (P : Folder → Type 0) (disk : Disk) (calls : List Call) → Durably P disk → AllDurably P (map (λ call. disk) calls)
same_disk P disk [] safe = tt
same_disk P disk (call ∷ calls) safe = (safe, same_disk P disk calls safe)

length-same : (disk : Disk) (calls : List Call) → length (map (λ call. disk) calls) ≡ length calls
length-same disk [] = refl
length-same disk (call ∷ calls) = let rest : length (map (λ call. disk) calls) ≡ length calls = length-same disk calls in omega (arith, rest)

-- calls that read alone
pub reads_leave : (P : Folder → Type 0) (t : TreeState) (after_ : Option TreeState) → Durably P (disk_of t) → OnlyReads (Some t) after_ → IfObserved (Some t) after_ (LeavesOnly P)
reads_leave P t after_ safe reads = subst (λ o. IfObserved (Some t) o (LeavesOnly P)) (sym reads.is) (record {
  since = map (λ call. disk_of t) reads.calls;
  is = refl;
  one_each = omega (arith, length-same (disk_of t) reads.calls, length-append t.calls reads.calls);
  each = same_disk P (disk_of t) reads.calls safe;
  now = safe;
})

any_left : (P : Folder → Type 0) (disks : List Disk) (last : Disk) (image : Folder) → AllDurably P disks → Durably P last → AnyLeaves (disks ++ last ∷ []) image → P image
any_left P [] last image each now (inl is) = now.at image is
any_left P [] last image each now (inr left) = absurd left
any_left P (disk ∷ disks) last image each now (inl is) = each.0.at image is
any_left P (disk ∷ disks) last image each now (inr left) = any_left P disks last image each.1 now left

drop_front : (a b : List Disk) (n : ℕ) → n ≡ length a → drop n (a ++ b) ≡ b
drop_front a b n is = rw is (grind (arith, common_steps))

-- every folder that a crash since the beginning may have left is so
pub left_since : (P : Folder → Type 0) (t u : TreeState) → LeavesOnly P t u → (image : Folder) → LeftSince (length t.calls) u image → P image
left_since P t u leaves image left =
    let n : length u.earlier - (length u.calls - length t.calls) ≡ length t.earlier = omega (arith, leaves.one_each, ap length leaves.is, length-append t.earlier leaves.since) in
    let rest : moments_since (length t.calls) u ≡ leaves.since ++ disk_of u ∷ [] =
    ap (λ disks. drop (length u.earlier - (length u.calls - length t.calls)) (disks ++ disk_of u ∷ [])) leaves.is
    ∙ ap (drop (length u.earlier - (length u.calls - length t.calls))) (append_assoc t.earlier leaves.since (disk_of u ∷ []))
    ∙ drop_front t.earlier (leaves.since ++ disk_of u ∷ []) (length u.earlier - (length u.calls - length t.calls)) n in
    any_left P leaves.since (disk_of u) image leaves.each leaves.now (subst (λ disks. AnyLeaves disks image) rest left)

elsewhere_left : (as_it_was : Bool) (folder : Folder) (name : List ℕ) (found : Option (List ℕ)) (q : List ℕ) → is_at q name ≡ false → get (folder_left as_it_was folder name found) q ≡ get folder q
elsewhere_left true folder name found q e = refl
elsewhere_left false folder name None q e = elsewhere_removed folder name q e
elsewhere_left false folder name (Some bytes) q e = elsewhere_written folder name bytes q e

-- a call that failed leaves what it may leave before it or once it is done
pub failure_durably : (P : Folder → Type 0) (as_it_was : Bool) (found : Option (List ℕ)) (call : Call) (disk : Disk) → Durably P disk → Durably P (after call disk) → Durably P (after_failure as_it_was found call disk)
failure_durably P as_it_was found (Write name bytes) disk safe then = record {
  at = λ image is. then.at image (to_doubted disk name _ image (elsewhere_written disk.folder name bytes) (of_doubted disk name _ image (elsewhere_left as_it_was disk.folder name found) is));
}
failure_durably P as_it_was found (Remove name) disk safe then = record {
  at = λ image is. then.at image (to_doubted disk name _ image (elsewhere_removed disk.folder name) (of_doubted disk name _ image (elsewhere_left as_it_was disk.folder name found) is));
}
failure_durably P as_it_was found Sync disk safe then = safe
failure_durably P as_it_was found Listing disk safe then = safe
failure_durably P as_it_was found (ReadSource path) disk safe then = safe
failure_durably P as_it_was found (ReadMap path) disk safe then = safe
failure_durably P as_it_was found Names disk safe then = safe
failure_durably P as_it_was found (ReadFile file) disk safe then = safe

-- the first calls of a run
front_through : (P : Folder → Type 0) (a b : List Call) (disk : Disk) → DurablyThrough P (a ++ b) disk → DurablyThrough P a disk × DurablyThrough P b (after_all a disk)
front_through P [] [] disk through = (through, through)
front_through P [] (call ∷ b) disk through = (through.0, through)
front_through P (call ∷ a) b disk through =
    let rest : DurablyThrough P a (after call disk) × DurablyThrough P b (after_all a (after call disk)) = front_through P a b (after call disk) through.1 in
    ((through.0, rest.0), rest.1)

first_through : (P : Folder → Type 0) (b : List Call) (disk : Disk) → DurablyThrough P b disk → Durably P disk
first_through P [] disk through = through
first_through P (call ∷ b) disk through = through.0

one_failed : (P : Folder → Type 0) (t u : TreeState) (found : Option (List ℕ)) (call : Call) → LeavesOnly P t u → Durably P (after_failure u.failed_calls_change_nothing found call (disk_of u)) → LeavesOnly P t (failed_by found call u)
one_failed P t u found call leaves so = leaves_then P t u (failed_by found call u) leaves (record {
  since = disk_of u ∷ [];
  is = refl;
  one_each = omega (arith, length-append u.calls (call ∷ []));
  each = (leaves.now, tt);
  now = so;
})

-- a run of calls of which one failed
stopped : (P : Folder → Type 0) (t : TreeState) (after_ : Option TreeState) (a : List Call) (call : Call) (b : List Call) → DurablyThrough P (a ++ call ∷ b) (disk_of t) → Fails call (Some (all_done a t)) after_ → IfObserved (Some t) after_ (LeavesOnly P)
stopped P t after_ a call b through (unlisted is) =
    subst (λ o. IfObserved (Some t) o (LeavesOnly P)) (sym is) (done_leaves P a t (front_through P a (call ∷ b) (disk_of t) through).0)
stopped P t after_ a call b through (listed found is) =
    let parts : DurablyThrough P a (disk_of t) × DurablyThrough P (call ∷ b) (after_all a (disk_of t)) = front_through P a (call ∷ b) (disk_of t) through in
    let there : Durably P (after_failure (all_done a t).failed_calls_change_nothing found call (after_all a (disk_of t))) =
    failure_durably P (all_done a t).failed_calls_change_nothing found call (after_all a (disk_of t)) parts.1.0 (first_through P b (after call (after_all a (disk_of t))) parts.1.1) in
    subst (λ o. IfObserved (Some t) o (LeavesOnly P)) (sym is)
    (one_failed P t (all_done a t) found call (done_leaves P a t parts.0)
    (subst (λ d. Durably P (after_failure (all_done a t).failed_calls_change_nothing found call d)) (sym (disk_after a t)) there))

pub stops_leaves : (P : Folder → Type 0) (calls : List Call) (t : TreeState) (after_ : Option TreeState) → DurablyThrough P calls (disk_of t) → Stops calls (Some t) after_ → IfObserved (Some t) after_ (LeavesOnly P)
stops_leaves P calls t after_ through stops =
    stopped P t after_ stops.done_calls stops.call stops.rest (subst (λ cs. DurablyThrough P cs (disk_of t)) stops.is through) stops.fails

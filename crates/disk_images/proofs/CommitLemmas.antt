-- Every moment of a commit is safe.
use Rattle.std.proofs.Common.{◌≡◌, ℕ, Bool, true, false, not, ◌&&◌, cond, List, [], ◌∷◌, ◌++◌, nat_eq, Option, Some, None, is_some, refl, sym, ap, subst, ◌∙◌}
use Rattle.std.proofs.lemmas.Bool.{and_parts, not-true}
use Rattle.std.specs.Ordering.{nat_cmp}
use Rattle.std.specs.Cmp.Lexicographic.{slice_cmp, pointwise, nat_list_cmp_total, texts_ties, same_text}
use Rattle.std.specs.Cmp.{eq_by_cmp_equiv}
use Rattle.std.specs.FinMap.{get, insert, remove, get-insert, get-remove, get-empty}
use Rattle.drv_outside.specs.TreeState.{Folder}
use Rattle.drv_outside.specs.declared.types.Call.{Call}
use Rattle.drv_outside.specs.declared.types.Call.TheVariants.{List as Listing, ReadSource, ReadMap, Names, ReadFile, Write, Remove, Sync}
use Rattle.drv_outside.specs.Disk.{Disk, in_doubt, Durably, DurablyThrough, after, after_all, settled, changes, leave_alone}
use Rattle.disk_images.specs.Laws.{is_open, TrustsByGate, closing, forgetting, withdrawal, committing, commit_calls, CommitIsDurable}
use Rattle.disk_images.proofs.ImagesLemmas.{is_at, same_name, same_folder, settled_durably, in_doubt-doubted, IsImageBut, of_doubted}

-- elsewhere a write and a removal leave what there was
pub elsewhere_written : (folder : Folder) (name bytes q : List ℕ) → is_at q name ≡ false → get (insert folder name bytes) q ≡ get folder q
elsewhere_written folder name bytes q e = get-insert nat_list_cmp_total folder name bytes q ∙ ap (λ b. cond b (Some bytes) (get folder q)) e

pub elsewhere_removed : (folder : Folder) (name q : List ℕ) → is_at q name ≡ false → get (remove folder name) q ≡ get folder q
elsewhere_removed folder name q e = get-remove nat_list_cmp_total folder name q ∙ ap (λ b. cond b None (get folder q)) e

at_itself : (name : List ℕ) → is_at name name ≡ true
at_itself name = (eq_by_cmp_equiv nat_list_cmp_total).refl name

pub written_there : (folder : Folder) (name bytes : List ℕ) → get (insert folder name bytes) name ≡ Some bytes
written_there folder name bytes = get-insert nat_list_cmp_total folder name bytes name ∙ ap (λ b. cond b (Some bytes) (get folder name)) (at_itself name)

pub removed_there : (folder : Folder) (name : List ℕ) → get (remove folder name) name ≡ None
removed_there folder name = get-remove nat_list_cmp_total folder name name ∙ ap (λ b. cond b None (get folder name)) (at_itself name)

differ : (a b : List ℕ) → pointwise nat_eq a b ≡ false → is_at b a ≡ false
differ a b e = sym ((eq_by_cmp_equiv nat_list_cmp_total).symm a b) ∙ sym (texts_ties a b) ∙ e

-- What a settled name reads stays through a call that doesn't change it.
pub record Stands (name : List ℕ) (found : Option (List ℕ)) (disk : Disk) : Type 0 where
  pub reads : get disk.folder name ≡ found
  pub sure : in_doubt disk name ≡ false

pub stands_after : (name : List ℕ) (found : Option (List ℕ)) (call : Call) (disk : Disk) → changes name call ≡ false → Stands name found disk → Stands name found (after call disk)
stands_after name found (Write at bytes) disk e s = record {
  reads = elsewhere_written disk.folder at bytes name (differ at name e) ∙ s.reads;
  sure = in_doubt-doubted disk at name ∙ rw (differ at name e) s.sure;
}
stands_after name found (Remove at) disk e s = record {
  reads = elsewhere_removed disk.folder at name (differ at name e) ∙ s.reads;
  sure = in_doubt-doubted disk at name ∙ rw (differ at name e) s.sure;
}
stands_after name found Sync disk e s = record { reads = s.reads; sure = ap is_some (get-empty (slice_cmp nat_cmp) name) }
stands_after name found Listing disk e s = s
stands_after name found (ReadSource path) disk e s = s
stands_after name found (ReadMap path) disk e s = s
stands_after name found Names disk e s = s
stands_after name found (ReadFile file) disk e s = s

-- what is so of every folder with this under a name is so durably where it stands there
pub stands_durably : (P : Folder → Type 0) (name : List ℕ) (found : Option (List ℕ)) (disk : Disk) → ((folder : Folder) → get folder name ≡ found → P folder) → Stands name found disk → Durably P disk
stands_durably P name found disk so s = record { at = λ image is. so image (is.at name s.sure ∙ s.reads) }

pub stands_through : (P : Folder → Type 0) (name : List ℕ) (found : Option (List ℕ)) → ((folder : Folder) → get folder name ≡ found → P folder)
    → (calls : List Call) (disk : Disk) → leave_alone name calls ≡ true → Stands name found disk → DurablyThrough P calls disk × Stands name found (after_all calls disk)
stands_through P name found so [] disk e s = (stands_durably P name found disk so s, s)
stands_through P name found so (call ∷ calls) disk e s =
    let here : (not (changes name call) ≡ true) × (leave_alone name calls ≡ true) = and_parts (not (changes name call)) (leave_alone name calls) e in
    let rest : DurablyThrough P calls (after call disk) × Stands name found (after_all calls (after call disk)) =
    stands_through P name found so calls (after call disk) here.1 (stands_after name found call disk (not-true (changes name call) here.0) s) in
    ((stands_durably P name found disk so s, rest.0), rest.1)

-- one list of calls and then another
pub through_then : (P : Folder → Type 0) (a b : List Call) (disk : Disk) → DurablyThrough P a disk → DurablyThrough P b (after_all a disk) → DurablyThrough P (a ++ b) disk
through_then P [] b disk one two = two
through_then P (call ∷ a) b disk one two = (one.0, through_then P a b (after call disk) one.1 two)

pub after_then : (a b : List Call) (disk : Disk) → after_all (a ++ b) disk ≡ after_all b (after_all a disk)
after_then [] b disk = refl
after_then (call ∷ a) b disk = after_then a b (after call disk)

-- a folder that differs from a trusted one in its gate alone may be trusted where that gate was open
opened : (bytes : Option (List ℕ)) → is_open bytes ≡ true → bytes ≡ Some (1 ∷ [])
opened None e = cc
opened (Some bytes) e = ap Some (same_text bytes (1 ∷ []) (sym e))

module _ (gate build_record : List ℕ) (P : Folder → Type 0) (trusts : TrustsByGate gate build_record P) where
  but_the_gate : (disk : Disk) (image : Folder) → is_open (get disk.folder gate) ≡ true → Durably P disk → IsImageBut disk gate image → P image
  but_the_gate disk image reads safe but = by_test (is_open (get image gate)) refl
    where
      by_test : (b : Bool) → is_open (get image gate) ≡ b → P image
      by_test false e = trusts.shut image e
      by_test true e = safe.at image (record { at = λ q sure. at_each q sure (is_at q gate) refl })
        where
          at_each : (q : List ℕ) → in_doubt disk q ≡ false → (at : Bool) → is_at q gate ≡ at → get image q ≡ get disk.folder q
          at_each q sure true f = rw (same_name q gate f) (opened (get image gate) e ∙ sym (opened (get disk.folder gate) reads))
          at_each q sure false f = but.at q f sure

  -- the write that shuts an open gate
  pub shutting : (disk : Disk) (bytes : List ℕ) → is_open (get disk.folder gate) ≡ true → Durably P disk → Durably P (after (Write gate bytes) disk)
  shutting disk bytes reads safe = record {
    at = λ image is. but_the_gate disk image reads safe (of_doubted disk gate (insert disk.folder gate bytes) image (elsewhere_written disk.folder gate bytes) is);
  }

  -- the write that opens the gate once all else is settled
  pub opening : (folder : Folder) → P (insert folder gate (1 ∷ [])) → Durably P (after (Write gate (1 ∷ [])) (settled folder))
  opening folder committed = record {
    at = λ image is. by_test image (of_doubted (settled folder) gate (insert folder gate (1 ∷ [])) image (elsewhere_written folder gate (1 ∷ [])) is) (is_open (get image gate)) refl;
  }
    where
      by_test : (image : Folder) → IsImageBut (settled folder) gate image → (b : Bool) → is_open (get image gate) ≡ b → P image
      by_test image but false e = trusts.shut image e
      by_test image but true e = subst P (sym (same_folder image (insert folder gate (1 ∷ [])) (λ q. at_each q (is_at q gate) refl))) committed
        where
          at_each : (q : List ℕ) → (at : Bool) → is_at q gate ≡ at → get image q ≡ get (insert folder gate (1 ∷ [])) q
          at_each q true f = rw (same_name q gate f) (opened (get image gate) e ∙ sym (written_there folder gate (1 ∷ [])))
          at_each q false f = but.at q f (ap is_some (get-empty (slice_cmp nat_cmp) q)) ∙ sym (elsewhere_written folder gate (1 ∷ []) q f)

  -- a shut gate that stands
  shut_durably : (found : Option (List ℕ)) → is_open found ≡ false → (folder : Folder) → get folder gate ≡ found → P folder
  shut_durably found e folder is = trusts.shut folder (ap is_open is ∙ e)

  stands_settled : (name : List ℕ) (found : Option (List ℕ)) (folder : Folder) → get folder name ≡ found → Stands name found (settled folder)
  stands_settled name found folder is = record { reads = is; sure = ap is_some (get-empty (slice_cmp nat_cmp) name) }

  pub committing_durably : (disk : Disk) → Stands gate (Some (0 ∷ [])) disk → P (insert disk.folder gate (1 ∷ [])) → DurablyThrough P (committing gate) disk
  committing_durably disk stands committed = (
    stands_durably P gate (Some (0 ∷ [])) disk (shut_durably (Some (0 ∷ [])) refl) stands,
    (
      settled_durably P disk.folder (shut_durably (Some (0 ∷ [])) refl disk.folder stands.reads),
      (
        opening disk.folder committed,
        settled_durably P (insert disk.folder gate (1 ∷ [])) committed,
      ),
    ),
  )

  -- the withdrawal of an open gate, and of one that isn't open while there is no record
  pub withdrawal_open : (disk : Disk) → is_open (get disk.folder gate) ≡ true → Durably P disk → DurablyThrough P (withdrawal gate) disk
  withdrawal_open disk reads safe = (
    safe,
    (
      shutting disk (0 ∷ []) reads safe,
      settled_durably P (insert disk.folder gate (0 ∷ [])) (shut_durably (Some (0 ∷ [])) refl (insert disk.folder gate (0 ∷ [])) (written_there disk.folder gate (0 ∷ []))),
    ),
  )

  pub withdrawal_unrecorded : pointwise nat_eq gate build_record ≡ false → (disk : Disk) → Stands build_record None disk → DurablyThrough P (withdrawal gate) disk
  withdrawal_unrecorded apart disk stands =
      (stands_through P build_record None trusts.unrecorded (withdrawal gate) disk (rw apart refl) stands).0

  pub withdrawn : (disk : Disk) → Stands gate (Some (0 ∷ [])) (after_all (withdrawal gate) disk)
  withdrawn disk = stands_settled gate (Some (0 ∷ [])) (insert disk.folder gate (0 ∷ [])) (written_there disk.folder gate (0 ∷ []))

  -- what comes before the withdrawal where the gate isn't open
  forgetting_durably : pointwise nat_eq build_record gate ≡ false → (recorded : Bool) (disk : Disk) → is_open (get disk.folder gate) ≡ false → Durably P disk → DurablyThrough P (forgetting recorded build_record) disk
  forgetting_durably apart false disk reads safe = (safe, settled_durably P disk.folder (trusts.shut disk.folder reads))
  forgetting_durably apart true disk reads safe = (
    safe,
    (stands_through P gate (get disk.folder gate) (shut_durably (get disk.folder gate) reads) (Remove build_record ∷ Sync ∷ []) (settled disk.folder) (rw apart refl)
        (stands_settled gate (get disk.folder gate) disk.folder refl)).0,
  )

  forgotten : (recorded : Bool) (disk : Disk) → (recorded ≡ false → get disk.folder build_record ≡ None) → Stands build_record None (after_all (forgetting recorded build_record) disk)
  forgotten false disk reads = stands_settled build_record None disk.folder (reads refl)
  forgotten true disk reads = stands_settled build_record None (remove disk.folder build_record) (removed_there disk.folder build_record)

  -- the calls up to the withdrawal
  front_durably : pointwise nat_eq gate build_record ≡ false → pointwise nat_eq build_record gate ≡ false → (opened recorded : Bool) (disk : Disk) → is_open (get disk.folder gate) ≡ opened
      → (recorded ≡ false → get disk.folder build_record ≡ None) → Durably P disk
      → DurablyThrough P (closing opened recorded build_record) disk × DurablyThrough P (withdrawal gate) (after_all (closing opened recorded build_record) disk)
  front_durably apart parted true recorded disk reads has safe = (safe, withdrawal_open disk reads safe)
  front_durably apart parted false recorded disk reads has safe =
      (forgetting_durably parted recorded disk reads safe, withdrawal_unrecorded apart (after_all (forgetting recorded build_record) disk) (forgotten recorded disk has))

parted : (a b : List ℕ) → pointwise nat_eq a b ≡ false → pointwise nat_eq b a ≡ false
parted a b e = texts_ties b a ∙ differ a b e

left_by : (gate build_record : List ℕ) (opened recorded : Bool) (changes : List Call) (disk : Disk)
    → after_all (commit_calls gate build_record opened recorded changes) disk
    ≡ after_all (committing gate) (after_all changes (after_all (withdrawal gate) (after_all (closing opened recorded build_record) disk)))
left_by gate build_record opened recorded changes disk =
    after_then (closing opened recorded build_record) (withdrawal gate ++ (changes ++ committing gate)) disk
    ∙ after_then changes (committing gate) (after_all (withdrawal gate) (after_all (closing opened recorded build_record) disk))

pub commit_is_durable : (P : Folder → Type 0) → CommitIsDurable P
commit_is_durable P gate build_record opened recorded changes disk c safe =
    let shut : Disk = after_all (closing opened recorded build_record) disk in
    let withdrawn_disk : Disk = after_all (withdrawal gate) shut in
    let front : DurablyThrough P (closing opened recorded build_record) disk × DurablyThrough P (withdrawal gate) shut =
    front_durably gate build_record P c.trusts c.apart (parted gate build_record c.apart) opened recorded disk c.gate_reads c.record_reads safe in
    let placed : DurablyThrough P changes withdrawn_disk × Stands gate (Some (0 ∷ [])) (after_all changes withdrawn_disk) =
    stands_through P gate (Some (0 ∷ [])) (λ folder is. c.trusts.shut folder (ap is_open is)) changes withdrawn_disk c.changes_others (withdrawn gate build_record P c.trusts shut) in
    let committed : P (insert (after_all changes withdrawn_disk).folder gate (1 ∷ [])) =
    subst (λ d. P d.folder) (left_by gate build_record opened recorded changes disk) c.committed in
    through_then P (closing opened recorded build_record) (withdrawal gate ++ (changes ++ committing gate)) disk front.0
    (through_then P (withdrawal gate) (changes ++ committing gate) shut front.1
    (through_then P changes (committing gate) withdrawn_disk placed.0
    (committing_durably gate build_record P c.trusts (after_all changes withdrawn_disk) placed.1 committed)))

-- What a crash and a dropped file make of a disk.
use Rattle.std.specs.Prelude.{◌/◌, ◌%◌}
use Rattle.std.proofs.Common.{◌≡◌, ◌∙◌, ◌||◌, ℕ, Bool, true, false, cond, List, [], ◌∷◌, map, Option, Some, None, is_some, refl, sym, ap, subst}
use Rattle.std.proofs.lemmas.Bool.{or_parts}
use Rattle.std.specs.List.{list_any}
use Rattle.std.specs.Cmp.{eq_by_cmp_equiv}
use Rattle.std.specs.Cmp.Lexicographic.{nat_list_cmp_total}
use Rattle.std.specs.FinMap.{get, remove, entries, get-remove, contains_key-keys}
use Rattle.drv_outside.specs.Disk.{Folder, Disk, in_doubt, IsImage, Durably, settled, with_file, dropped, chosen, left_by_crash}
use Rattle.disk_images.proofs.ImagesLemmas.{is_at, same_name, same_folder, settled_durably}
use Rattle.disk_images.proofs.CommitLemmas.{elsewhere_written, elsewhere_removed, written_there, removed_there}

elsewhere : (folder : Folder) (name : List ℕ) (found : Option (List ℕ)) (q : List ℕ) → is_at q name ≡ false → get (with_file folder name found) q ≡ get folder q
elsewhere folder name None q e = elsewhere_removed folder name q e
elsewhere folder name (Some bytes) q e = elsewhere_written folder name bytes q e

there : (folder : Folder) (name : List ℕ) (found : Option (List ℕ)) → get (with_file folder name found) name ≡ found
there folder name None = removed_there folder name
there folder name (Some bytes) = written_there folder name bytes

elsewhere_crashed : (choice : ℕ) (doubts : List (List ℕ × Option (List ℕ))) (folder : Folder) (q : List ℕ) → list_any (is_at q) (map (λ e. e.0) doubts) ≡ false → get (left_by_crash choice doubts folder) q ≡ get folder q
elsewhere_crashed choice [] folder q e = refl
elsewhere_crashed choice (d ∷ doubts) folder q e =
    let parts : (is_at q d.0 ≡ false) × (list_any (is_at q) (map (λ e. e.0) doubts) ≡ false) = or_parts (is_at q d.0) (list_any (is_at q) (map (λ e. e.0) doubts)) e in
    elsewhere_crashed (choice / 4) doubts (with_file folder d.0 (chosen (choice % 4) (get folder d.0) d.1)) q parts.1
    ∙ elsewhere folder d.0 (chosen (choice % 4) (get folder d.0) d.1) q parts.0

-- a crash by any choice leaves an image
pub crash_is_image : (choice : ℕ) (disk : Disk) → IsImage disk (left_by_crash choice (entries disk.doubts) disk.folder)
crash_is_image choice disk = record {
  at = λ q sure. elsewhere_crashed choice (entries disk.doubts) disk.folder q (sym (contains_key-keys disk.doubts q) ∙ sure);
}

-- what every image is, every crash leaves, durably
pub crash_durably : (P : Folder → Type 0) (choice : ℕ) (disk : Disk) → Durably P disk → Durably P (settled (left_by_crash choice (entries disk.doubts) disk.folder))
crash_durably P choice disk safe = settled_durably P (left_by_crash choice (entries disk.doubts) disk.folder) (safe.at (left_by_crash choice (entries disk.doubts) disk.folder) (crash_is_image choice disk))

still_in_doubt : (disk : Disk) (name q : List ℕ) → is_at q name ≡ false → in_doubt (dropped name disk) q ≡ in_doubt disk q
still_in_doubt disk name q e = ap is_some (get-remove nat_list_cmp_total disk.doubts name q ∙ ap (λ b. cond b None (get disk.doubts q)) e)

at_itself : (disk : Disk) (name q : List ℕ) → is_at q name ≡ true → in_doubt (dropped name disk) q ≡ false
at_itself disk name q e = ap is_some (get-remove nat_list_cmp_total disk.doubts name q ∙ ap (λ b. cond b None (get disk.doubts q)) e)

-- what stays so as a file is removed stays so durably as one is dropped
pub drop_durably : (P : Folder → Type 0) (name : List ℕ) (disk : Disk) → ((folder : Folder) → P folder → P (remove folder name)) → Durably P disk → Durably P (dropped name disk)
drop_durably P name disk stays safe = record {
  at = λ image is.
      let before : Folder = with_file image name (get disk.folder name) in
      let was : IsImage disk before = record { at = λ q sure. was_at image is q sure (is_at q name) refl } in
      subst P (same_folder (remove before name) image (λ q. now_at image is q (is_at q name) refl)) (stays before (safe.at before was));
}
  where
    was_at : (image : Folder) → IsImage (dropped name disk) image → (q : List ℕ) → in_doubt disk q ≡ false → (at : Bool) → is_at q name ≡ at → get (with_file image name (get disk.folder name)) q ≡ get disk.folder q
    was_at image is q sure true e = rw (same_name q name e) (there image name (get disk.folder name))
    was_at image is q sure false e = elsewhere image name (get disk.folder name) q e ∙ is.at q (still_in_doubt disk name q e ∙ sure) ∙ elsewhere_removed disk.folder name q e

    now_at : (image : Folder) → IsImage (dropped name disk) image → (q : List ℕ) → (at : Bool) → is_at q name ≡ at → get (remove (with_file image name (get disk.folder name)) name) q ≡ get image q
    now_at image is q true e = rw (same_name q name e) (removed_there (with_file image name (get disk.folder name)) name ∙ sym (is.at name (at_itself disk name name ((eq_by_cmp_equiv nat_list_cmp_total).refl name)) ∙ removed_there disk.folder name))
    now_at image is q false e = elsewhere_removed (with_file image name (get disk.folder name)) name q e ∙ elsewhere image name (get disk.folder name) q e

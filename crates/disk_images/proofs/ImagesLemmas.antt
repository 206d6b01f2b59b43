-- What changes of a disk make of the folders that a crash may leave.
use Rattle.std.proofs.Common.{◌≡◌, ℕ, Bool, true, false, cond, List, Some, is_some, refl, sym, ap, subst, ◌∙◌}
use Rattle.std.specs.Ordering.{nat_cmp, eq_by_cmp}
use Rattle.std.specs.Cmp.Lexicographic.{slice_cmp, nat_list_cmp_total, texts_ties, same_text}
use Rattle.std.specs.FinMap.{get, insert, get-insert, get-empty, same_map, slice_cmp-IsAntisymmetric, nat_cmp-IsAntisymmetric}
use Rattle.drv_outside.specs.TreeState.{Folder}
use Rattle.drv_outside.specs.Disk.{Disk, in_doubt, doubted, IsImage, Durably, settled}

-- whether two names are one, as the order of names tells it
abbrev pub is_at : List ℕ → List ℕ → Bool
is_at q name = eq_by_cmp (slice_cmp nat_cmp) q name

pub same_name : (q name : List ℕ) → is_at q name ≡ true → q ≡ name
same_name q name e = same_text q name (sym e ∙ sym (texts_ties q name))

-- the folder as it reads is one that a crash may leave
pub reads_as_image : (disk : Disk) → IsImage disk disk.folder
reads_as_image disk = record { at = λ name sure. refl }

-- two folders that read alike are one
pub same_folder : (f g : Folder) → ((q : List ℕ) → get f q ≡ get g q) → f ≡ g
same_folder = same_map nat_list_cmp_total (slice_cmp-IsAntisymmetric nat_cmp-IsAntisymmetric)

-- once all is settled, a crash leaves what reads give
pub settled_image : (folder image : Folder) → IsImage (settled folder) image → image ≡ folder
settled_image folder image is = same_folder image folder (λ q. is.at q (ap is_some (get-empty (slice_cmp nat_cmp) q)))

pub settled_durably : (P : Folder → Type 0) (folder : Folder) → P folder → Durably P (settled folder)
settled_durably P folder so = record { at = λ image is. subst P (sym (settled_image folder image is)) so }

-- which names are in doubt once one more is
doubted_by : (disk : Disk) (name q : List ℕ) (was at : Bool) → in_doubt disk name ≡ was → is_at q name ≡ at
    → is_some (get (cond was disk.doubts (insert disk.doubts name (get disk.folder name))) q) ≡ cond at true (in_doubt disk q)
doubted_by disk name q true true e f = rw (same_name q name f) e
doubted_by disk name q true false e f = refl
doubted_by disk name q false at e f =
    ap is_some (get-insert nat_list_cmp_total disk.doubts name (get disk.folder name) q) ∙ chosen (is_at q name) at f
  where
    chosen : (s at : Bool) → s ≡ at → is_some (cond s (Some (get disk.folder name)) (get disk.doubts q)) ≡ cond at true (in_doubt disk q)
    chosen true true f = refl
    chosen false false f = refl
    chosen true false f = cc
    chosen false true f = cc

pub in_doubt-doubted : (disk : Disk) (name q : List ℕ) → is_some (get (doubted disk name) q) ≡ cond (is_at q name) true (in_doubt disk q)
in_doubt-doubted disk name q = doubted_by disk name q (in_doubt disk name) (is_at q name) refl refl

-- a folder in which every name but this one is as a crash may leave it
pub record IsImageBut (disk : Disk) (name : List ℕ) (image : Folder) : Type 0 where
  pub at : (q : List ℕ) → is_at q name ≡ false → in_doubt disk q ≡ false → get image q ≡ get disk.folder q

-- once this name is in doubt, whatever it reads
pub of_doubted : (disk : Disk) (name : List ℕ) (folder image : Folder) → ((q : List ℕ) → is_at q name ≡ false → get folder q ≡ get disk.folder q)
    → IsImage (record { folder = folder; doubts = doubted disk name }) image → IsImageBut disk name image
of_doubted disk name folder image same is = record {
  at = λ q other sure. is.at q (in_doubt-doubted disk name q ∙ rw other sure) ∙ same q other;
}

pub to_doubted : (disk : Disk) (name : List ℕ) (folder image : Folder) → ((q : List ℕ) → is_at q name ≡ false → get folder q ≡ get disk.folder q)
    → IsImageBut disk name image → IsImage (record { folder = folder; doubts = doubted disk name }) image
to_doubted disk name folder image same is = record {
  at = λ q sure. by_test q (is_at q name) refl (sym (in_doubt-doubted disk name q) ∙ sure);
}
  where
    by_test : (q : List ℕ) (at : Bool) → is_at q name ≡ at → cond (is_at q name) true (in_doubt disk q) ≡ false → get image q ≡ get folder q
    by_test q true e sure = let h : true ≡ false = rw e at sure in cc
    by_test q false e sure = is.at q e (rw e at sure) ∙ sym (same q e)

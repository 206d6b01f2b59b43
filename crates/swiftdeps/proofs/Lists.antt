-- Lists of files, nodes and keys that grow at their end.
use Rattle.std.proofs.Common.{◌≡◌, ℕ, true, List, [], ◌∷◌, ◌++◌, Option, Some, None, refl, sym, ap, ◌∙◌, subst}
use Rattle.std.specs.List.{AllByRecursion}
use Rattle.std.specs.Cmp.Lexicographic.{nat_list_cmp_total}
use Rattle.std.proofs.lemmas.List.{map-append}
use Rattle.dep_key.specs.declared.key.Key.{Key}
use Rattle.dep_key.specs.declared.graph.Node.{Node}
use Rattle.dep_key.specs.declared.graph.FileGraph.{FileGraph}
use Rattle.dep_key.specs.KeyOrder.{key_order_total}
use Rattle.dep_key.specs.GraphOrder.{AreAscending, AreInOrder, keys_of}
use Rattle.swiftdeps.specs.Judging.{last, is_above_text, is_above_key}
use Rattle.swiftdeps.specs.Spelling.{AreAscendingTexts, IsSpelledFile, AreSpelledFiles, paths_of}
use Rattle.swiftdeps.proofs.TextLaws.{last_tail, above, sorted_push}

pub last_push : {A : Type 0} (xs : List A) (x : A) → last (xs ++ x ∷ []) ≡ Some x
last_push [] x = refl
last_push (y ∷ []) x = refl
last_push (y ∷ z ∷ zs) x = last_tail y z (zs ++ x ∷ []) ∙ last_push (z ∷ zs) x

pub all_push : {A : Type 0} (P : A → Type 0) (xs : List A) (x : A) → AllByRecursion P xs → P x → AllByRecursion P (xs ++ x ∷ [])
all_push P [] x all h = (h, tt)
all_push P (y ∷ ys) x all h = (all.0, all_push P ys x all.1 h)

pub all_last : {A : Type 0} (P : A → Type 0) (xs : List A) (x : A) → AllByRecursion P (xs ++ x ∷ []) → P x
all_last P [] x all = all.0
all_last P (y ∷ ys) x all = all_last P ys x all.1

pub all_swap : {A : Type 0} (P : A → Type 0) (xs : List A) (x y : A) → AllByRecursion P (xs ++ x ∷ []) → P y → AllByRecursion P (xs ++ y ∷ [])
all_swap P [] x y all h = (h, tt)
all_swap P (z ∷ zs) x y all h = (all.0, all_swap P zs x y all.1 h)

-- the two tests are one
pub above_text_is : (b : Option (List ℕ)) (t : List ℕ) → is_above_text b t ≡ above nat_list_cmp_total b t
above_text_is None t = refl
above_text_is (Some b) t = refl

pub above_key_is : (b : Option Key) (k : Key) → is_above_key b k ≡ above key_order_total b k
above_key_is None k = refl
above_key_is (Some b) k = refl

pub texts_push : (texts : List (List ℕ)) (text : List ℕ) → AreAscendingTexts texts → is_above_text (last texts) text ≡ true → AreAscendingTexts (texts ++ text ∷ [])
texts_push texts text s h = sorted_push nat_list_cmp_total texts text s (sym (above_text_is (last texts) text) ∙ h)

pub keys_push : (keys : List Key) (key : Key) → AreAscending keys → is_above_key (last keys) key ≡ true → AreAscending (keys ++ key ∷ [])
keys_push keys key s h = sorted_push key_order_total keys key s (sym (above_key_is (last keys) key) ∙ h)

-- a node behind others
pub nodes_push : (nodes : List Node) (node : Node) → AreInOrder nodes → is_above_key (last (keys_of nodes)) node.key ≡ true → AreAscending node.uses → AreInOrder (nodes ++ node ∷ [])
nodes_push nodes node s h uses =
    (subst AreAscending (sym (map-append (λ (n : Node). n.key) nodes (node ∷ []))) (keys_push (keys_of nodes) node.key s.0 h), all_push (λ (n : Node). AreAscending n.uses) nodes node s.1 uses)

-- another last node of the same key
pub nodes_swap : (nodes : List Node) (old new : Node) → old.key ≡ new.key → AreInOrder (nodes ++ old ∷ []) → AreAscending new.uses → AreInOrder (nodes ++ new ∷ [])
nodes_swap nodes old new same s uses =
    let keys : keys_of (nodes ++ old ∷ []) ≡ keys_of (nodes ++ new ∷ []) = map-append (λ (n : Node). n.key) nodes (old ∷ []) ∙ ap (λ (k : Key). keys_of nodes ++ k ∷ []) same ∙ sym (map-append (λ (n : Node). n.key) nodes (new ∷ [])) in
    (subst AreAscending keys s.0, all_swap (λ (n : Node). AreAscending n.uses) nodes old new s.1 uses)

-- a file behind others
pub files_push : (names : List (List ℕ)) (files : List FileGraph) (file : FileGraph) → AreSpelledFiles names files → is_above_text (last (paths_of files)) file.path ≡ true → IsSpelledFile names file → AreSpelledFiles names (files ++ file ∷ [])
files_push names files file s h spelled =
    (subst AreAscendingTexts (sym (map-append (λ (f : FileGraph). f.path) files (file ∷ []))) (texts_push (paths_of files) file.path s.0 h), all_push (IsSpelledFile names) files file s.1 spelled)

-- another last file of the same path
pub files_swap : (names : List (List ℕ)) (files : List FileGraph) (old new : FileGraph) → old.path ≡ new.path → AreSpelledFiles names (files ++ old ∷ []) → IsSpelledFile names new → AreSpelledFiles names (files ++ new ∷ [])
files_swap names files old new same s spelled =
    let paths : paths_of (files ++ old ∷ []) ≡ paths_of (files ++ new ∷ []) = map-append (λ (f : FileGraph). f.path) files (old ∷ []) ∙ ap (λ (p : List ℕ). paths_of files ++ p ∷ []) same ∙ sym (map-append (λ (f : FileGraph). f.path) files (new ∷ [])) in
    (subst AreAscendingTexts paths s.0, all_swap (IsSpelledFile names) files old new s.1 spelled)

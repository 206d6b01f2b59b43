-- What a writer was asked for, item by item.
use Rattle.std.proofs.Common.{◌≡◌, ℕ, ◌+◌, ◌<◌, ◌≤◌, List, [], ◌∷◌, ◌++◌, length, get_or, take, map, None, append_assoc, sym, ap, ◌∙◌, subst}
use Rattle.std.specs.List.{flat_map}
use Rattle.std.proofs.Math.Seq.{take_all}
use Rattle.std.proofs.lemmas.List.{append-nil, map-append}
use Rattle.bitstream.specs.Reading.{Seen, Enters, LeaveBlock, Record}
use Rattle.bitstream.specs.Writer.{Writing}
use Rattle.bitstream.specs.Written.{HasWritten}
use Rattle.dep_key.specs.declared.graph.FileGraph.{FileGraph}
use Rattle.swiftdeps.specs.Spelling.{identifier_item, file_items, spelling}
use Rattle.swiftdeps.specs.Shown.{Shows, AlsoShows}
use Rattle.swiftdeps.proofs.WriteLaws.{map_more, flat_more}

pub also_one : (at : ℕ) (item : Seen) (s t : Writing) → ((items : List (ℕ × Seen)) → HasWritten items s → HasWritten (items ++ (at, item) ∷ []) t) → AlsoShows (item ∷ []) s t
also_one at item s t f = λ before h.
    (h.0 ++ (at, item) ∷ [], f h.0 h.1, map-append (λ (x : ℕ × Seen). x.1) h.0 ((at, item) ∷ []) ∙ ap (λ (x : List Seen). x ++ item ∷ []) h.2)

pub also_both : (xs ys : List Seen) (s t u : Writing) → AlsoShows xs s t → AlsoShows ys t u → AlsoShows (xs ++ ys) s u
also_both xs ys s t u f g = λ before h. subst (λ (x : List Seen). Shows x u) (append_assoc before xs ys) (g (before ++ xs) (f before h))

pub also_none : (s : Writing) → AlsoShows [] s s
also_none s = λ before h. subst (λ (x : List Seen). Shows x s) (sym (append-nil before)) h

pub also_map : {A : Type 0} (f : A → Seen) (l : List A) (i : ℕ) (x : A) (s t u : Writing) → i < length l → x ≡ get_or l i x → AlsoShows (map f (take i l)) s t → AlsoShows (f x ∷ []) t u → AlsoShows (map f (take (i + 1) l)) s u
also_map f l i x s t u h e a b = subst (λ (items : List Seen). AlsoShows items s u) (sym (map_more f l i x h e)) (also_both (map f (take i l)) (f x ∷ []) s t u a b)

pub also_flat : {A : Type 0} (f : A → List Seen) (l : List A) (i : ℕ) (x : A) (s t u : Writing) → i < length l → x ≡ get_or l i x → AlsoShows (flat_map f (take i l)) s t → AlsoShows (f x) t u → AlsoShows (flat_map f (take (i + 1) l)) s u
also_flat f l i x s t u h e a b = subst (λ (items : List Seen). AlsoShows items s u) (sym (flat_more f l i x h e)) (also_both (flat_map f (take i l)) (f x) s t u a b)

-- a loop that has come to the end of its list
pub whole_map : {A : Type 0} (f : A → Seen) (l : List A) (i : ℕ) (s t : Writing) → length l ≤ i → AlsoShows (map f (take i l)) s t → AlsoShows (map f l) s t
whole_map {A} f l i s t h a = subst (λ (x : List A). AlsoShows (map f x) s t) (take_all i l h) a

pub whole_flat : {A : Type 0} (f : A → List Seen) (l : List A) (i : ℕ) (s t : Writing) → length l ≤ i → AlsoShows (flat_map f (take i l)) s t → AlsoShows (flat_map f l) s t
whole_flat {A} f l i s t h a = subst (λ (x : List A). AlsoShows (flat_map f x) s t) (take_all i l h) a

-- the whole block
pub block_shown : (version : ℕ) (names : List (List ℕ)) (files : List FileGraph) (a b c d e : Writing) → Shows (Enters 8 ∷ []) a → AlsoShows (Record 1 (version ∷ []) None ∷ []) a b → AlsoShows (map identifier_item names) b c
    → AlsoShows (flat_map (file_items names) files) c d → AlsoShows (LeaveBlock ∷ []) d e → Shows (spelling version names files) e
block_shown version names files a b c d e begun header identifiers graphs left =
    let all = left _ (graphs _ (identifiers _ (header (Enters 8 ∷ []) begun))) in
    subst (λ (x : List Seen). Shows x e) (append_assoc (Enters 8 ∷ Record 1 (version ∷ []) None ∷ map identifier_item names) (flat_map (file_items names) files) (LeaveBlock ∷ [])) all

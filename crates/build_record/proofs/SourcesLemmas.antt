-- The files that the members of an object give stand by path.
use Rattle.std.proofs.Common.{◌≡◌, ◌∙◌, ap, ℕ, List, [], ◌∷◌, ◌++◌, map, Option, Some, None, Ok, Bool, true, false, cond, Ordering, Less, refl, sym, subst, append_assoc, append-nil}
use Rattle.std.specs.Prelude.{Err, String, string_bytes, option_and_then, option_map}
use Rattle.std.specs.List.{list_all, AllByRecursion}
use Rattle.std.specs.List.Sorted.{IsStrictlySortedBy}
use Rattle.std.specs.declared.alloc.Global.{Global}
use Rattle.std.specs.String.{string_cmp}
use Rattle.std.specs.Ordering.{nat_cmp}
use Rattle.std.specs.Cmp.Lexicographic.{slice_cmp}
use Rattle.std.proofs.lemmas.Bool.{and_from}
use Rattle.std.proofs.lemmas.List.{map-append}
use Rattle.std.proofs.lemmas.List.Folds.{list_all-append}
use Rattle.std.proofs.lemmas.List.Sums.{AllPass-from_list_all}
use Rattle.drv_outside.specs.Plain.{is_plain_path}
use Rattle.drv_outside.specs.declared.types.Stamp.{Stamp}
use Rattle.drv_outside.specs.declared.faults.RecordFault.{RecordFault}
use Rattle.serde_json.specs.Data.{Data, Members, member, no_members}
use Rattle.serde_json.specs.View.{members_view}
use Rattle.serde_json.specs.declared.value.Value.{Value}
use Rattle.build_record.specs.Reading.{stamp_of, clean_of, file_of, files_after, some_or}
use Rattle.build_record.specs.Sources.{AreSources}
use Rattle.build_record.specs.declared.record.FileState.{FileState}

abbrev order : List ℕ → List ℕ → Ordering
order = slice_cmp nat_cmp

abbrev is_plain : FileState → Bool
is_plain file = is_plain_path file.path

abbrev paths : List FileState → List (List ℕ)
paths = map (λ f. f.path)

-- the names of members
abbrev names : Members → List (List ℕ)
names no_members = []
names (member name d ms) = name ∷ names ms

abbrev path_in : Option FileState → List ℕ
path_in None = []
path_in (Some file) = file.path

-- a file has the path under which it stands
has_path : (path : List ℕ) (stamp : Option Stamp) (clean : Option Bool) (file : FileState) → option_and_then (λ (s : Stamp). option_map (λ c. record { path = path; stamp = s; clean = c }) clean) stamp ≡ Some file → file.path ≡ path
has_path path None clean file e = cc
has_path path (Some s) None file e = cc
has_path path (Some s) (Some c) file e = ap path_in (sym e)

-- and that is plain
has_plain_path : (path : List ℕ) (d : Data) (file : FileState) (plain : Bool) → cond plain (option_and_then (λ (s : Stamp). option_map (λ c. record { path = path; stamp = s; clean = c }) (clean_of d)) (stamp_of d)) None ≡ Some file → (plain ≡ true) × (file.path ≡ path)
has_plain_path path d file true e = (refl, has_path path (stamp_of d) (clean_of d) file e)
has_plain_path path d file false e = cc

-- Files have the names of the members as their paths, behind those before them, and are plain where these are.
abbrev AreListed : List FileState → Members → List FileState → Type 0
AreListed before ms files = (paths files ≡ paths before ++ names ms) × (list_all is_plain before ≡ true → list_all is_plain files ≡ true)

listed_more : (before files : List FileState) (path : List ℕ) (d : Data) (ms : Members) (file : Option FileState) → file_of path d ≡ file → some_or (Err (RecordFault.File path)) (λ f. files_after (before ++ f ∷ []) ms) file ≡ Ok files
    → ((f : FileState) → files_after (before ++ f ∷ []) ms ≡ Ok files → AreListed (before ++ f ∷ []) ms files) → AreListed before (member path d ms) files
listed_more before files path d ms None h e rest = cc
listed_more before files path d ms (Some f) h e rest =
    let at = has_plain_path path d f (is_plain_path path) h in
    let more = rest f e in (
      more.0
          ∙ ap (λ ps. ps ++ names ms) (map-append (λ (g : FileState). g.path) before (f ∷ []))
          ∙ append_assoc (paths before) (f.path ∷ []) (names ms)
          ∙ ap (λ p. paths before ++ p ∷ names ms) at.1,
      λ all. more.1 (list_all-append is_plain before (f ∷ []) ∙ and_from _ _ all (and_from _ _ (ap is_plain_path at.1 ∙ at.0) refl)),
    )

listed : (ms : Members) (before files : List FileState) → files_after before ms ≡ Ok files → AreListed before ms files
listed no_members before files e = let same : before ≡ files = cc in (ap paths (sym same) ∙ sym (append-nil (paths before)), λ all. subst (λ fs. list_all is_plain fs ≡ true) same all)
listed (member path d ms) before files e = listed_more before files path d ms (file_of path d) refl e (λ f h. listed ms (before ++ f ∷ []) files h)

names_view : (es : List (String Global × Value)) → names (members_view es) ≡ map (λ e. string_bytes e.0) es
names_view [] = refl
names_view (e ∷ es) = ap (λ ns. string_bytes e.0 ∷ ns) (names_view es)

below_bytes : (name : String Global) (es : List (String Global × Value)) → AllByRecursion (λ y. string_cmp name y ≡ Less) (map (λ e. e.0) es) → AllByRecursion (λ y. order (string_bytes name) y ≡ Less) (map (λ e. string_bytes e.0) es)
below_bytes name [] h = tt
below_bytes name (e ∷ es) h = (h.0, below_bytes name es h.1)

sorted_bytes : (es : List (String Global × Value)) → IsStrictlySortedBy string_cmp (map (λ e. e.0) es) → IsStrictlySortedBy order (map (λ e. string_bytes e.0) es)
unfolding IsStrictlySortedBy
sorted_bytes [] h = tt
sorted_bytes (e ∷ es) h = (below_bytes e.0 es h.0, sorted_bytes es h.1)

-- The files that members in order are stand by path, and their paths are plain.
pub sources_of : (es : List (String Global × Value)) (files : List FileState) → IsStrictlySortedBy string_cmp (map (λ e. e.0) es) → files_after [] (members_view es) ≡ Ok files → AreSources files
sources_of es files up e =
    let l = listed (members_view es) [] files e in
    (λ k d lt. AllPass-from_list_all is_plain files (l.1 refl) k d lt, subst (IsStrictlySortedBy order) (sym (l.0 ∙ names_view es)) (sorted_bytes es up))

-- The record that a record's value is.
use Rattle.std.proofs.Common.{◌≡◌, ◌∙◌, ◌^◌, ◌≤◌, ap, ℕ, suc, max, List, [], ◌∷◌, ◌++◌, map, Option, Some, None, Ok, Bool, true, false, cond, Ordering, Less, Equal, Greater, refl, sym, subst, arith, append_assoc, append-nil, nat_lt, All, IsTrue}
use Rattle.std.specs.Prelude.{Err, IsUtf8, option_and_then, option_map}
use Rattle.std.specs.List.{list_all, AllByRecursion}
use Rattle.std.specs.List.Sorted.{IsStrictlySortedBy}
use Rattle.std.specs.Ordering.{nat_cmp, match_ordering, ordering_reverse}
use Rattle.std.specs.Cmp.Lexicographic.{slice_cmp, nat_list_cmp_total}
use Rattle.std.proofs.lemmas.Bool.{and_parts}
use Rattle.std.proofs.lemmas.Map.Keys.{sorted_head, sorted_tail}
use Rattle.drv_outside.specs.Plain.{is_plain_path}
use Rattle.drv_outside.specs.declared.types.Stamp.{Stamp}
use Rattle.drv_outside.specs.declared.faults.RecordFault.{RecordFault}
use Rattle.serde_json.specs.Data.{Data, Members, member, no_members, put, depth, members_depth}
use Rattle.serde_json.specs.Read.{read, max_depth}
use Rattle.build_record.specs.Format.{stamp_value, with_files, map_value, record_value, word_of}
use Rattle.build_record.specs.Reading.{stamp_of, clean_of, clean_word, file_of, files_after, text_or_null, of_files, of_map, fields_of, record_of, some_or, IsTextOfRecord}
use Rattle.build_record.specs.Sources.{nanos_fit, AreSources}
use Rattle.build_record.specs.declared.record.BuildRecord.{BuildRecord}
use Rattle.build_record.specs.declared.record.FileState.{FileState}

abbrev order : List ℕ → List ℕ → Ordering
order = slice_cmp nat_cmp

-- the members of files, in their order
abbrev listed : List FileState → Members
listed [] = no_members
listed (f ∷ fs) = member f.path (stamp_value f.stamp f.clean) (listed fs)

abbrev IsBelow : List ℕ → List FileState → Type 0
IsBelow k fs = AllByRecursion (λ f. order f.path k ≡ Less) fs

put_above : (k : List ℕ) (d : Data) (l : List ℕ) (e : Data) (ms : Members) → order l k ≡ Less → put k d (member l e ms) ≡ member l e (put k d ms)
put_above k d l e ms h =
    let above : order k l ≡ Greater = nat_list_cmp_total.antisymm k l ∙ ap ordering_reverse h in
    ap (λ r. match_ordering r (member k d (member l e ms)) (member l d ms) (member l e (put k d ms))) above

put_last : (f : FileState) (fs : List FileState) → IsBelow f.path fs → put f.path (stamp_value f.stamp f.clean) (listed fs) ≡ listed (fs ++ f ∷ [])
put_last f [] h = refl
put_last f (g ∷ fs) h = put_above f.path (stamp_value f.stamp f.clean) g.path (stamp_value g.stamp g.clean) (listed fs) h.0 ∙ ap (member g.path (stamp_value g.stamp g.clean)) (put_last f fs h.1)

abbrev paths : List FileState → List (List ℕ)
paths = map (λ f. f.path)

below_at : (x : List ℕ) (f : FileState) (gs rest : List FileState) → AllByRecursion (λ y. order x y ≡ Less) (paths (gs ++ f ∷ rest)) → order x f.path ≡ Less
below_at x f [] rest h = h.0
below_at x f (g ∷ gs) rest h = below_at x f gs rest h.1

below_next : (f : FileState) (fs rest : List FileState) → IsStrictlySortedBy order (paths (fs ++ f ∷ rest)) → IsBelow f.path fs
below_next f [] rest up = tt
below_next f (g ∷ gs) rest up = (below_at g.path f gs rest (sorted_head order g.path (paths (gs ++ f ∷ rest)) up), below_next f gs rest (sorted_tail order g.path (paths (gs ++ f ∷ rest)) up))

with_ascending : (fs rest : List FileState) → IsStrictlySortedBy order (paths (fs ++ rest)) → with_files (listed fs) rest ≡ listed (fs ++ rest)
with_ascending fs [] up = ap listed (sym (append-nil fs))
with_ascending fs (f ∷ rest) up =
    let same : (fs ++ f ∷ []) ++ rest ≡ fs ++ f ∷ rest = append_assoc fs (f ∷ []) rest in
    ap (λ ms. with_files ms rest) (put_last f fs (below_next f fs rest up))
    ∙ with_ascending (fs ++ f ∷ []) rest (subst (λ gs. IsStrictlySortedBy order (paths gs)) (sym same) up)
    ∙ ap listed same

word_read : (clean : Bool) → clean_word (word_of clean) ≡ Some clean
word_read true = refl
word_read false = refl

file_if : (f : FileState) (plain fits : Bool) → is_plain_path f.path ≡ plain → nat_lt f.stamp.nanos (2 ^ 32) ≡ fits → plain ≡ true → fits ≡ true → file_of f.path (stamp_value f.stamp f.clean) ≡ Some f
file_if f plain fits p n e g =
    ap (λ b. cond b (option_and_then (λ stamp. option_map (λ clean. record { path = f.path; stamp = stamp; clean = clean }) (clean_of (stamp_value f.stamp f.clean))) (stamp_of (stamp_value f.stamp f.clean))) None) (p ∙ e)
    ∙ ap (λ b. option_and_then (λ (stamp : Stamp). option_map (λ clean. record { path = f.path; stamp = stamp; clean = clean }) (clean_of (stamp_value f.stamp f.clean))) (cond b (Some f.stamp) None)) (n ∙ g)
    ∙ ap (option_map (λ clean. record { path = f.path; stamp = f.stamp; clean = clean })) (word_read f.clean)

file_read : (f : FileState) → is_plain_path f.path ≡ true → nanos_fit f ≡ true → file_of f.path (stamp_value f.stamp f.clean) ≡ Some f
file_read f p n = file_if f _ _ refl refl p n

files_read : (before fs : List FileState) → All (λ f. IsTrue (is_plain_path f.path)) fs → list_all nanos_fit fs ≡ true → files_after before (listed fs) ≡ Ok (before ++ fs)
files_read before [] all n = ap Ok (sym (append-nil before))
files_read before (f ∷ fs) all n =
    ap (some_or (Err (RecordFault.File f.path)) (λ file. files_after (before ++ file ∷ []) (listed fs))) (file_read f (all 0 f (omega arith)) (and_parts _ _ n).0)
    ∙ files_read (before ++ f ∷ []) fs (λ k d lt. all (suc k) d (omega (arith, lt))) (and_parts (nanos_fit f) _ n).1
    ∙ ap Ok (append_assoc before (f ∷ []) fs)

sources_read : (r : BuildRecord) → AreSources r.files → list_all nanos_fit r.files ≡ true → files_after [] (with_files no_members r.files) ≡ Ok r.files
sources_read r h n = ap (files_after []) (with_ascending [] r.files h.1) ∙ files_read [] r.files h.0 n

map_read : (o : Option (List ℕ)) → text_or_null (map_value o) ≡ Some o
map_read None = refl
map_read (Some text) = refl

put_depth_at : (o : Ordering) (k l : List ℕ) (d e : Data) (ms : Members) → depth d ≤ 1 → max (depth e) (members_depth ms) ≤ 1 → members_depth (put k d ms) ≤ 1
    → members_depth (match_ordering o (member k d (member l e ms)) (member l d ms) (member l e (put k d ms))) ≤ 1
put_depth_at Less k l d e ms h all later = deeper (depth d) _ h all
  where
    deeper : (a b : ℕ) → a ≤ 1 → b ≤ 1 → max a b ≤ 1
    deeper a b h k = omega (arith, h, k)
put_depth_at Equal k l d e ms h all later = deeper (depth d) (members_depth ms) (depth e) h all
  where
    deeper : (a b c : ℕ) → a ≤ 1 → max c b ≤ 1 → max a b ≤ 1
    deeper a b c h k = omega (arith, h, k)
put_depth_at Greater k l d e ms h all later = deeper (members_depth (put k d ms)) (members_depth ms) (depth e) later all
  where
    deeper : (a b c : ℕ) → a ≤ 1 → max c b ≤ 1 → max c a ≤ 1
    deeper a b c h k = omega (arith, h, k)

put_depth : (k : List ℕ) (d : Data) (ms : Members) → depth d ≤ 1 → members_depth ms ≤ 1 → members_depth (put k d ms) ≤ 1
put_depth k d no_members h all = flat (depth d) h
  where
    flat : (a : ℕ) → a ≤ 1 → max a 0 ≤ 1
    flat a h = omega (arith, h)
put_depth k d (member l e ms) h all = put_depth_at (order k l) k l d e ms h all (put_depth k d ms h (rest (depth e) (members_depth ms) all))
  where
    rest : (a b : ℕ) → max a b ≤ 1 → b ≤ 1
    rest a b h = omega (arith, h)

files_depth : (fs : List FileState) (ms : Members) → members_depth ms ≤ 1 → members_depth (with_files ms fs) ≤ 1
files_depth [] ms h = h
files_depth (f ∷ fs) ms h = files_depth fs _ (put_depth f.path (stamp_value f.stamp f.clean) ms (omega arith) h)

map_depth : (o : Option (List ℕ)) → depth (map_value o) ≡ 0
map_depth None = refl
map_depth (Some text) = refl

pub record_depth : (r : BuildRecord) → depth (record_value r) ≤ 127
record_depth r = shallow (members_depth (with_files no_members r.files)) (depth (map_value r.map)) (files_depth r.files no_members (omega arith)) (map_depth r.map)
  where
    shallow : (a b : ℕ) → a ≤ 1 → b ≡ 0 → suc (max (suc a) (max b (max 0 (max 0 0)))) ≤ 127
    shallow a b h k = omega (arith, h, k)

of_record : (r : BuildRecord) (o : Option (Option (List ℕ))) → o ≡ Some r.map → AreSources r.files → list_all nanos_fit r.files ≡ true → of_map (record_value r) (with_files no_members r.files) o ≡ Ok r
of_record r o e h n = ap (of_map (record_value r) (with_files no_members r.files)) e ∙ ap (of_files r.«module» r.map) (sources_read r h n)

pub value_read : (r : BuildRecord) → AreSources r.files → list_all nanos_fit r.files ≡ true → record_of (record_value r) ≡ Ok r
unfolding record_of fields_of
value_read r h n = of_record r (text_or_null (map_value r.map)) (map_read r.map) h n

-- The text of a record is read back.
pub text_read : (r : BuildRecord) (d : Data) (text : List ℕ) → d ≡ record_value r → IsUtf8 text → (depth d ≤ max_depth → read text ≡ Some d) → list_all nanos_fit r.files ≡ true → AreSources r.files → IsTextOfRecord text r
text_read r d text e u reads n h =
    let is : read text ≡ Some d = reads (subst (λ v. depth v ≤ 127) (sym e) (record_depth r)) in
    (d, (u, is), ap record_of e ∙ value_read r h n)

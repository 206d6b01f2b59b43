-- A build record has no floats and nests at most three deep.
use Rattle.std.proofs.Common.{◌≡◌, ◌∙◌, ap, ℕ, List, [], ◌∷◌, Option, Some, None, false, ◌||◌, Ordering, Less, Equal, Greater, refl}
use Rattle.std.specs.Ordering.{nat_cmp, match_ordering}
use Rattle.std.specs.Cmp.Lexicographic.{slice_cmp}
use Rattle.std.proofs.lemmas.Bool.{or_from, or_parts}
use Rattle.serde_json.specs.Data.{Data, Members, no_members, member, put}
use Rattle.serde_json.specs.Written.{has_float, members_have_float, compact_text}
use Rattle.build_record.specs.Format.{stamp_value, with_files, map_value, record_value, record_text}
use Rattle.build_record.specs.declared.record.BuildRecord.{BuildRecord}
use Rattle.build_record.specs.declared.record.FileState.{FileState}

put_floats_at : (o : Ordering) (k l : List ℕ) (d e : Data) (ms : Members) → has_float d ≡ false → members_have_float (member l e ms) ≡ false → members_have_float (put k d ms) ≡ false
    → members_have_float (match_ordering o (member k d (member l e ms)) (member l d ms) (member l e (put k d ms))) ≡ false
put_floats_at Less k l d e ms h all later = or_from _ _ h all
put_floats_at Equal k l d e ms h all later = or_from _ _ h (or_parts (has_float e) _ all).1
put_floats_at Greater k l d e ms h all later = or_from _ _ (or_parts (has_float e) _ all).0 later

put_floats : (k : List ℕ) (d : Data) (ms : Members) → has_float d ≡ false → members_have_float ms ≡ false → members_have_float (put k d ms) ≡ false
put_floats k d no_members h all = or_from _ _ h refl
put_floats k d (member l e ms) h all = put_floats_at (slice_cmp nat_cmp k l) k l d e ms h all (put_floats k d ms h (or_parts (has_float e) _ all).1)

with_files_floats : (fs : List FileState) (ms : Members) → members_have_float ms ≡ false → members_have_float (with_files ms fs) ≡ false
with_files_floats [] ms h = h
with_files_floats (f ∷ fs) ms h = with_files_floats fs _ (put_floats f.path (stamp_value f.stamp f.clean) ms refl h)

map_floats : (map : Option (List ℕ)) → (has_float (map_value map) || false) ≡ false
map_floats None = refl
map_floats (Some text) = refl

pub record_has_no_float : (r : BuildRecord) → has_float (record_value r) ≡ false
record_has_no_float r = or_from _ _ (with_files_floats r.files no_members refl) (map_floats r.map)

-- what is written for a record's value is its text
pub record_written : (r : BuildRecord) (d : Data) (text : List ℕ) → d ≡ record_value r → (has_float d ≡ false → text ≡ compact_text d) → text ≡ record_text r
unfolding record_text
record_written r d text e written = written (ap has_float e ∙ record_has_no_float r) ∙ ap compact_text e

-- What is read is spelled so.
use Rattle.std.proofs.Common.{◌≡◌, ℕ, ◌*◌, ◌==◌, Bool, true, false, cond, List, [], ◌∷◌, ◌++◌, length, take, drop, nat_eq, nat_lt, Option, Some, None, Result, Ok, Err, append_assoc, refl, sym, ◌∙◌, subst}
use Rattle.std.specs.Prelude.{IsTrue, codes}
use Rattle.std.specs.Cmp.Lexicographic.{pointwise, bytes_decides}
use Rattle.std.proofs.lemmas.Bool.{eqb-true}
use Rattle.std.proofs.lemmas.List.{take-append-drop, append-nil}
use Rattle.bitstream.specs.Reading.{Seen, Enters, LeaveBlock, Record, Ends}
use Rattle.bitstream.specs.Items.{items_in}
use Rattle.bitstream.specs.declared.item.BitFault.{BitFault}
use Rattle.dep_key.specs.declared.graph.FileGraph.{FileGraph}
use Rattle.swiftdeps.specs.declared.fault.DepsFault.{DepsFault}
use Rattle.swiftdeps.specs.declared.fault.DepsFault.TheVariants as faults
use Rattle.swiftdeps.specs.declared.stage.Stage.{Stage}
use Rattle.swiftdeps.specs.declared.stage.Stage.TheVariants.{Start, Version, Names, Nodes, Print, Uses, Behind}
use Rattle.swiftdeps.specs.Stages.{is_behind, is_version}
use Rattle.swiftdeps.specs.Judging.{State, nothing_read, files_of, record_at, item_at, ended, items_judged}
use Rattle.swiftdeps.specs.Spelling.{Spell, BytesSpell, seen_items}
use Rattle.swiftdeps.specs.Streams.{stream_of, stream_judged, signed_judged, bytes_judged}
use Rattle.swiftdeps.proofs.Taking.{bind_ok, guard_ok, ok_is}
use Rattle.swiftdeps.proofs.Reached.{front, body, Reached}
use Rattle.swiftdeps.proofs.Steps.{block_step, version_step, identifier_step, file_step, node_step, print_step, use_step, leave_step}

-- one step of the choice by the code of a record
by_code : (one : Bool) (code n : ℕ) (ops : List ℕ) (blob : Option (List ℕ)) (t : State) (before : List Seen) (this other : Result State DepsFault)
    → (this ≡ Ok t → Reached one t.stage t (before ++ Record n ops blob ∷ [])) → (other ≡ Ok t → Reached one t.stage t (before ++ Record code ops blob ∷ []))
    → cond (code == n) this other ≡ Ok t → Reached one t.stage t (before ++ Record code ops blob ∷ [])
by_code one code n ops blob t before this other f g e = by (code == n) refl e
  where
    by : (b : Bool) → b ≡ (code == n) → cond b this other ≡ Ok t → Reached one t.stage t (before ++ Record code ops blob ∷ [])
    by true h e = subst (λ (k : ℕ). Reached one t.stage t (before ++ Record k ops blob ∷ [])) (sym (eqb-true code n (sym h))) (f e)
    by false h e = g e

record_step : (one : Bool) (at code : ℕ) (ops : List ℕ) (blob : Option (List ℕ)) (s t : State) (before : List Seen) → Reached one s.stage s before → record_at one at code ops blob s ≡ Ok t → Reached one t.stage t (before ++ Record code ops blob ∷ [])
unfolding record_at
record_step one at code ops blob s t before r =
    by_code one code 1 ops blob t before _ _ (version_step one at ops blob s t before r)
    (by_code one code 2 ops blob t before _ _ (node_step one at ops blob s t before r)
    (by_code one code 3 ops blob t before _ _ (print_step one at ops blob s t before r)
    (by_code one code 4 ops blob t before _ _ (use_step one at ops blob s t before r)
    (by_code one code 5 ops blob t before _ _ (identifier_step one at ops blob s t before r)
    (by_code one code 6 ops blob t before _ (Err (faults.RecordOrder at)) (file_step one at ops blob s t before r) (λ e. absurd cc))))))

pub item_step : (one : Bool) (at : ℕ) (item : Seen) (s t : State) (before : List Seen) → Reached one s.stage s before → item_at one at item s ≡ Ok t → Reached one t.stage t (before ++ item ∷ [])
item_step one at (Enters block) s t before r e = block_step one at block s t before r e
item_step one at LeaveBlock s t before r e = leave_step one at s t before r e
item_step one at (Record code ops blob) s t before r e = record_step one at code ops blob s t before r e
item_step one at Ends s t before r e = absurd cc

at_behind : (g : Stage) → is_behind g ≡ true → g ≡ Behind
at_behind Start e = absurd cc
at_behind Version e = absurd cc
at_behind Names e = absurd cc
at_behind Nodes e = absurd cc
at_behind Print e = absurd cc
at_behind Uses e = absurd cc
at_behind Behind e = refl

-- What is told of items that were read.
pub record ItemsRead (one : Bool) (fault : Option BitFault) (x : ℕ × List FileGraph) (items : List Seen) : Type 0 where
  pub whole : fault ≡ None
  pub spelled : Spell x.0 x.1 items
  pub version : IsTrue (is_version one x.0)
  pub single : one ≡ true → length x.1 ≡ 1

ends_read : (one : Bool) (bits : ℕ) (fault : Option BitFault) (s : State) (before : List Seen) (x : ℕ × List FileGraph) → Reached one s.stage s before → ended bits fault s ≡ Ok x → ItemsRead one fault x before
ends_read one bits (Some d) s before x r e = absurd cc
ends_read one bits None s before x r e =
    let g = guard_ok (is_behind s.stage) (Ok (s.version, files_of s)) (faults.RecordOrder bits) x e in
    let here : Reached one Behind s before = subst (λ (y : Stage). Reached one y s before) (at_behind s.stage g.0) r in
    let items = here.2 ∙ append_assoc (front s.version s.names) (body s.names (files_of s)) (LeaveBlock ∷ []) in
    let fine = here.0 in
    let spelled : Spell s.version (files_of s) before = record { names = s.names; are_identifiers = fine.names; are_files = fine.files; spelled = items } in
    let made : ItemsRead one None (s.version, files_of s) before = record { whole = refl; spelled = spelled; version = fine.version; single = here.1 } in
    subst (λ (y : ℕ × List FileGraph). ItemsRead one None y before) (ok_is (s.version, files_of s) x g.1) made

pub items_read : (one : Bool) (bits : ℕ) (items : List (ℕ × Seen)) (fault : Option BitFault) (s : State) (before : List Seen) (x : ℕ × List FileGraph) → Reached one s.stage s before → items_judged one bits items fault s ≡ Ok x
    → ItemsRead one fault x (before ++ seen_items items)
items_read one bits [] fault s before x r e = subst (ItemsRead one fault x) (sym (append-nil before)) (ends_read one bits fault s before x r e)
items_read one bits (item ∷ items) fault s before x r e =
    let p = bind_ok (item_at one item.0 item.1 s) (items_judged one bits items fault) x e in
    let next = item_step one item.0 item.1 s p.0 before r p.1 in
    subst (ItemsRead one fault x) (append_assoc before (item.1 ∷ []) (seen_items items)) (items_read one bits items fault p.0 (before ++ item.1 ∷ []) x next p.2)

pub stream_read : (one : Bool) (bytes : List ℕ) (x : ℕ × List FileGraph) → stream_judged one bytes ≡ Ok x → ItemsRead one (items_in bytes).1 x (seen_items (items_in bytes).0)
unfolding stream_judged
stream_read one bytes x e = items_read one (8 * length bytes) (items_in bytes).0 (items_in bytes).1 nothing_read [] x (refl, refl) e

-- What is told of bytes that were read.
pub record BytesRead (one : Bool) (x : ℕ × List FileGraph) (bytes : List ℕ) : Type 0 where
  pub spelled : BytesSpell x.0 x.1 bytes
  pub version : IsTrue (is_version one x.0)
  pub single : one ≡ true → length x.1 ≡ 1

some_is : {A : Type 0} (a b : A) → Some a ≡ Some b → a ≡ b
some_is a b e = cc

pub signed : (bytes stream : List ℕ) → stream_of bytes ≡ Some stream → bytes ≡ codes "DEPS" ++ stream
signed bytes stream e = by (nat_lt (length bytes) 4) (pointwise nat_eq (take 4 bytes) (codes "DEPS")) refl e
  where
    by : (a b : Bool) → b ≡ pointwise nat_eq (take 4 bytes) (codes "DEPS") → cond a None (cond b (Some (drop 4 bytes)) None) ≡ Some stream → bytes ≡ codes "DEPS" ++ stream
    by true b h e = absurd cc
    by false false h e = absurd cc
    by false true h e =
        let sign = (bytes_decides (take 4 bytes) (codes "DEPS")).0 (sym h) in
        sym (take-append-drop 4 bytes) ∙ (λ i. sign i ++ some_is (drop 4 bytes) stream e i)

pub bytes_read : (one : Bool) (bytes : List ℕ) (x : ℕ × List FileGraph) → bytes_judged one bytes ≡ Ok x → BytesRead one x bytes
unfolding bytes_judged
bytes_read one bytes x e = by (stream_of bytes) refl e
  where
    by : (o : Option (List ℕ)) → o ≡ stream_of bytes → signed_judged one o ≡ Ok x → BytesRead one x bytes
    by None h e = absurd cc
    by (Some stream) h e =
        let r = stream_read one stream x e in
        record { spelled = record { stream = stream; signed = signed bytes stream (sym h); whole = r.whole; items = r.spelled }; version = r.version; single = r.single }

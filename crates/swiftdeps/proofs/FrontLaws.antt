-- The first fault is that of the first item with which no accepted list goes on.
use Rattle.std.proofs.Common.{◌≡◌, ℕ, ◌*◌, ◌<◌, ◌==◌, Bool, true, false, cond, ◌&&◌, inl, inr, List, [], ◌∷◌, ◌++◌, length, map, Option, Some, None, Result, Ok, Err, append_assoc, refl, sym, ap, ◌∙◌, subst, lit<}
use Rattle.std.specs.Prelude.{is_none, slice_index}
use Rattle.std.specs.Str.{is_utf8}
use Rattle.std.specs.List.{AllByRecursion}
use Rattle.std.proofs.lemmas.List.{append-nil, map-append}
use Rattle.std.proofs.lemmas.Str.{IsUtf8-from_ascii}
use Rattle.std.proofs.lemmas.Str.Ascii.{IsAscii-from_all}
use Rattle.std.proofs.lemmas.List.Elements.{All-nil, All-cons}
use Rattle.bitstream.specs.Reading.{Seen, Enters, LeaveBlock, Record, Ends}
use Rattle.bitstream.specs.Items.{items_in}
use Rattle.bitstream.specs.declared.item.BitFault.{BitFault}
use Rattle.dep_key.specs.declared.graph.FileGraph.{FileGraph}
use Rattle.dep_key.specs.KeyOrder.{kind_at, aspect_at}
use Rattle.dep_key.specs.KeyShapes.{has_shape, is_filled}
use Rattle.swiftdeps.specs.declared.fault.DepsFault.{DepsFault}
use Rattle.swiftdeps.specs.declared.fault.DepsFault.TheVariants as faults
use Rattle.swiftdeps.specs.declared.stage.Stage.{Stage}
use Rattle.swiftdeps.specs.declared.stage.Stage.TheVariants.{Start, Version, Names, Nodes, Print, Uses, Behind}
use Rattle.swiftdeps.specs.Stages.{takes_block, takes_version, takes_identifier, takes_node, takes_print, takes_use, takes_file, may_end, is_version, is_behind}
use Rattle.swiftdeps.specs.Judging.{State, nothing_read, ◌>>=◌, or_fault, text_at, text_of, key_of, key_in, blob_alone, is_above_text, is_above_key, is_same_text, last, files_of, begun, block_at, version_at, identifier_of, identifier_at, file_of, file_at, node_at, print_at, use_at, leave_at, record_at, item_at, ended, items_judged}
use Rattle.swiftdeps.specs.Spelling.{identifier_item, print_item, IsIdentifier, seen_items}
use Rattle.swiftdeps.specs.Streams.{stream_of, stream_judged, signed_judged, bytes_judged}
use Rattle.swiftdeps.specs.Fronts.{AreAccepted, BeginAccepted, IsToldAt, StopsAtEnd, Stops, IsFirstFault}
use Rattle.swiftdeps.proofs.Reached.{Reached}
use Rattle.swiftdeps.proofs.Sound.{item_step, items_read, signed}
use Rattle.swiftdeps.proofs.Complete.{block_again, version_again, identifier_again, leave_again, items_again, stream_again, is_no_fault}

-- ---- each front that is read can be completed

-- reading goes on from a state to an end
abbrev Completes : Bool → State → Type 0
Completes one s = (more : List (ℕ × Seen)) × (x : ℕ × List FileGraph) × (items_judged one 0 more None s ≡ Ok x)

complete_behind : (one : Bool) (s : State) → s.stage ≡ Behind → Completes one s
complete_behind one s g = ([], (s.version, files_of s), rw g refl)

complete_step : (one : Bool) (item : Seen) (s t : State) → item_at one 0 item s ≡ Ok t → Completes one t → Completes one s
complete_step one item s t is (more, x, e) = ((0, item) ∷ more, x, ap (λ (r : Result State DepsFault). r >>= items_judged one 0 more None) is ∙ e)

complete_end : (one : Bool) (s : State) → may_end one s.stage ≡ true → Completes one s
complete_end one s h = complete_step one LeaveBlock s (record s { stage = Behind }) (leave_again one 0 s h) (complete_behind one (record s { stage = Behind }) refl)

first_file : (one : Bool) (s : State) (name : List ℕ) (names : List (List ℕ)) → s.stage ≡ Names → s.path ≡ None → s.names ≡ name ∷ names → is_filled name ≡ true → item_at one 0 (Record 6 (1 ∷ []) None) s ≡ Ok (begun name s)
unfolding record_at file_at text_of
first_file one s name names g path are filled = rw (g, path, are, filled) refl

complete_names : (one : Bool) (s : State) (name : List ℕ) (names : List (List ℕ)) → s.stage ≡ Names → s.path ≡ None → s.names ≡ name ∷ names → is_filled name ≡ true → Completes one s
complete_names one s name names g path are filled = complete_step one (Record 6 (1 ∷ []) None) s (begun name s) (first_file one s name names g path are filled) (complete_end one (begun name s) refl)

-- the text of one small a
abbrev a_name : List ℕ
a_name = 97 ∷ []

a_name_is : IsIdentifier a_name
a_name_is = (refl, IsUtf8-from_ascii a_name (IsAscii-from_all a_name (All-cons (λ b. b < 128) 97 [] (lit< tt) (All-nil (λ b. b < 128)))))

complete_no_names : (one : Bool) (s : State) → s.stage ≡ Names → s.path ≡ None → s.names ≡ [] → Completes one s
complete_no_names one s g path none =
    let t : State = record s { names = s.names ++ a_name ∷ [] } in
    complete_step one (identifier_item a_name) s t (identifier_again one 0 s a_name g a_name_is (rw none refl)) (complete_names one t a_name [] g path (rw none refl) refl)

complete_at_names : (one : Bool) (s : State) (names : List (List ℕ)) → s.stage ≡ Names → s.path ≡ None → s.names ≡ names → AllByRecursion IsIdentifier names → Completes one s
complete_at_names one s [] g path are all = complete_no_names one s g path are
complete_at_names one s (name ∷ names) g path are all = complete_names one s name names g path are (all.0).0

complete_version : (one : Bool) → Completes one (record nothing_read { stage = Version })
complete_version one =
    let t : State = record nothing_read { stage = Names; version = 2 } in
    complete_step one (Record 1 (2 ∷ []) None) (record nothing_read { stage = Version }) t (version_again one 0 2 refl) (complete_no_names one t refl refl refl)

complete_start : (one : Bool) → Completes one nothing_read
complete_start one = complete_step one (Enters 8) nothing_read (record nothing_read { stage = Version }) (block_again one 0) (complete_version one)

print_again : (one : Bool) (s : State) → s.stage ≡ Print → item_at one 0 (print_item []) s ≡ Ok (record s { stage = Uses; print = [] })
unfolding record_at print_at
print_again one s g = rw g refl

completes : (one : Bool) (s : State) (before : List Seen) → Reached one s.stage s before → Completes one s
completes one s before r = by s.stage refl r
  where
    by : (g : Stage) → s.stage ≡ g → Reached one g s before → Completes one s
    by Start e r = subst (Completes one) (sym r.0) (complete_start one)
    by Version e r = subst (Completes one) (sym r.0) (complete_version one)
    by Names e r = complete_at_names one s s.names e r.2 refl ((r.0).names).1
    by Nodes e r = complete_end one s (rw e refl)
    by Print e r = complete_step one (print_item []) s (record s { stage = Uses; print = [] }) (print_again one s e) (complete_end one (record s { stage = Uses; print = [] }) refl)
    by Uses e r = complete_end one s (rw e refl)
    by Behind e r = complete_behind one s e

begins_so : (one : Bool) (s : State) (before : List Seen) → Reached one s.stage s before → BeginAccepted one before
begins_so one s before r =
    let c = completes one s before r in
    let read = items_read one 0 c.0 None s before c.1 r c.2 in
    (seen_items c.0, (c.1.0, c.1.1, read.version, read.single, read.spelled))

-- ---- each fault of an item is told at it

abbrev Told : {A : Type 0} → ℕ → Result A DepsFault → Type 0
Told at (Ok x) = Unit {0}
Told at (Err d) = IsToldAt at d

guard_told : {A : Type 0} (at : ℕ) (b : Bool) (r : Result A DepsFault) (f : DepsFault) → IsToldAt at f → (b ≡ true → Told at r) → Told at (cond b r (Err f))
guard_told at true r f h m = m refl
guard_told at false r f h m = h

or_told : {A : Type 0} (at : ℕ) (f : DepsFault) (o : Option A) → IsToldAt at f → Told at (or_fault f o)
or_told at f (Some x) h = tt
or_told at f None h = h

then_told : {A B : Type 0} (at : ℕ) (r : Result A DepsFault) (f : A → Result B DepsFault) → Told at r → ((x : A) → Told at (f x)) → Told at (r >>= f)
then_told at (Ok x) f m g = g x
then_told at (Err e) f m g = m

choice_told : {A : Type 0} (at : ℕ) (b : Bool) (x y : Result A DepsFault) → Told at x → Told at y → Told at (cond b x y)
choice_told at true x y m n = m
choice_told at false x y m n = n

text_told : (names : List (List ℕ)) (at n : ℕ) → Told at (text_of names at n)
unfolding text_of
text_told names at n = or_told at (faults.IdentifierNumber at n) (text_at names n) refl

key_told : (names : List (List ℕ)) (at : ℕ) (ops : List ℕ) (blob : Option (List ℕ)) → Told at (key_in names at ops blob)
unfolding key_in key_of
key_told names at ops blob =
    guard_told at (is_none blob && (length ops == 4)) _ (faults.RecordOrder at) refl (λ h.
    then_told at _ _ (or_told at (faults.KindNumber at (slice_index ops 0)) (kind_at (slice_index ops 0)) refl) (λ kind.
    then_told at _ _ (or_told at (faults.KindNumber at (slice_index ops 1)) (aspect_at (slice_index ops 1)) refl) (λ aspect.
    then_told at _ _ (text_told names at (slice_index ops 2)) (λ context.
    then_told at _ _ (text_told names at (slice_index ops 3)) (λ name.
    guard_told at (has_shape (record { kind = kind; aspect = aspect; context = context; name = name })) _ (faults.KeyShape at) refl (λ g. tt))))))

blob_told : (at : ℕ) (ops : List ℕ) (blob : Option (List ℕ)) → Told at (blob_alone at ops blob)
blob_told at ops blob = guard_told at (length ops == 0) _ (faults.RecordOrder at) refl (λ h. or_told at (faults.RecordOrder at) blob refl)

file_told : (at : ℕ) (path : List ℕ) (s : State) → Told at (file_of at path s)
file_told at path s = by (is_same_text s.path path)
  where
    by : (b : Bool) → Told at (cond b (Err (faults.FileRepeated path)) (cond (is_filled path && is_above_text s.path path) (Ok (begun path s)) (Err (faults.NotCanonicalOrder at))))
    by true = tt
    by false = guard_told at (is_filled path && is_above_text s.path path) _ (faults.NotCanonicalOrder at) refl (λ g. tt)

record_told : (one : Bool) (at code : ℕ) (ops : List ℕ) (blob : Option (List ℕ)) (s : State) → Told at (record_at one at code ops blob s)
unfolding record_at version_at node_at print_at use_at identifier_at identifier_of file_at
record_told one at code ops blob s =
    let order = faults.RecordOrder at in
    let above = faults.NotCanonicalOrder at in
    choice_told at (code == 1) _ _ (guard_told at (takes_version s.stage && (is_none blob && (length ops == 1))) _ order refl (λ h. guard_told at (is_version one (slice_index ops 0)) _ (faults.Version (slice_index ops 0)) tt (λ g. tt)))
    (choice_told at (code == 2) _ _ (guard_told at (takes_node s.stage) _ order refl (λ h. then_told at _ _ (key_told s.names at ops blob) (λ key. guard_told at (is_above_key s.key key) _ above refl (λ g. tt))))
    (choice_told at (code == 3) _ _ (guard_told at (takes_print s.stage) _ order refl (λ h. then_told at _ _ (blob_told at ops blob) (λ print. tt)))
    (choice_told at (code == 4) _ _ (guard_told at (takes_use s.stage) _ order refl (λ h. then_told at _ _ (key_told s.names at ops blob) (λ key. guard_told at (is_above_key (last s.uses) key) _ above refl (λ g. tt))))
    (choice_told at (code == 5) _ _ (guard_told at (takes_identifier s.stage) _ order refl (λ h. then_told at _ _ (blob_told at ops blob) (λ bytes.
    then_told at _ _ (guard_told at (is_utf8 bytes) (Ok bytes) (faults.NotUtf8 at) refl (λ g. tt)) (λ text. guard_told at (is_filled text && is_above_text (last s.names) text) _ above refl (λ g. tt)))))
    (choice_told at (code == 6) _ _ (guard_told at (takes_file one s.stage && (is_none blob && (length ops == 1))) _ order refl (λ h. then_told at _ _ (text_told s.names at (slice_index ops 0)) (λ path. file_told at path s)))
    refl)))))

item_told : (one : Bool) (at : ℕ) (item : Seen) (s : State) → Told at (item_at one at item s)
unfolding block_at leave_at
item_told one at (Enters block) s = guard_told at (takes_block s.stage && (block == 8)) _ (faults.RecordOrder at) refl (λ h. tt)
item_told one at LeaveBlock s = guard_told at (may_end one s.stage) _ (faults.RecordOrder at) refl (λ h. tt)
item_told one at (Record code ops blob) s = record_told one at code ops blob s
item_told one at Ends s = refl

-- ---- the items, one after the other

-- reading comes from the first item to a state by these items, whatever follows them
abbrev Comes : Bool → List (ℕ × Seen) → State → Type 0
Comes one before s = (rest : List (ℕ × Seen)) → items_judged one 0 (before ++ rest) None nothing_read ≡ items_judged one 0 rest None s

-- an accepted list is read
accepted_again : (one : Bool) (items : List (ℕ × Seen)) (d : DepsFault) → AreAccepted one (seen_items items) → items_judged one 0 items None nothing_read ≡ Err d → ⊥
accepted_again one items d (version, files, v, single, spelled) e = is_no_fault (items_again one 0 version files items v single spelled) e

abbrev at_bit : Seen → ℕ × Seen
at_bit item = (0, item)

seen_again : (items : List Seen) → seen_items (map at_bit items) ≡ items
seen_again [] = refl
seen_again (item ∷ items) = ap (λ l. item ∷ l) (seen_again items)

stuck_at : (one : Bool) (before : List (ℕ × Seen)) (item : ℕ × Seen) (s : State) (d : DepsFault) → Comes one before s → item_at one item.0 item.1 s ≡ Err d → BeginAccepted one (seen_items before ++ item.1 ∷ []) → ⊥
stuck_at one before item s d comes is (more, accepted) =
    let all = before ++ item ∷ map at_bit more in
    let seen : seen_items all ≡ (seen_items before ++ item.1 ∷ []) ++ more
    = map-append (λ (x : ℕ × Seen). x.1) before (item ∷ map at_bit more) ∙ ap (λ l. seen_items before ++ item.1 ∷ l) (seen_again more) ∙ sym (append_assoc (seen_items before) (item.1 ∷ []) more) in
    accepted_again one all d (subst (AreAccepted one) (sym seen) accepted)
    (comes (item ∷ map at_bit more) ∙ ap (λ (r : Result State DepsFault). r >>= items_judged one 0 (map at_bit more) None) is)

err_same : {A : Type 0} (d f : DepsFault) → (let r : Result A DepsFault = Err d in r) ≡ Err f → d ≡ f
err_same d f e = cc

end_stops : (one : Bool) (bits : ℕ) (bits_fault : Option BitFault) (s : State) (before : List (ℕ × Seen)) (d : DepsFault) → Reached one s.stage s (seen_items before) → Comes one before s → ended bits bits_fault s ≡ Err d
    → StopsAtEnd one bits before bits_fault d
end_stops one bits bits_fault s before d r comes e = record {
  begins = begins_so one s (seen_items before) r;
  of_bits = λ f is. sym (err_same {A = ℕ × List FileGraph} (faults.Bits f) d (ap (λ (o : Option BitFault). ended bits o s) (sym is) ∙ e));
  too_few = λ none. by (is_behind s.stage) refl (ap (λ (o : Option BitFault). ended bits o s) (sym none) ∙ e);
}
  where
    by : (b : Bool) → is_behind s.stage ≡ b → ended bits None s ≡ Err d → (d ≡ faults.RecordOrder bits) × (AreAccepted one (seen_items before) → ⊥)
    by true t e = let h = rw t at e in absurd cc
    by false t e =
        let h = rw t at e in (
          sym (err_same {A = ℕ × List FileGraph} (faults.RecordOrder bits) d h),
          λ accepted.
              accepted_again one before (faults.RecordOrder 0) accepted (ap (λ l. items_judged one 0 l None nothing_read) (sym (append-nil before)) ∙ comes [] ∙ rw t refl),
        )

walk : (one : Bool) (bits : ℕ) (items : List (ℕ × Seen)) (bits_fault : Option BitFault) (s : State) (before : List (ℕ × Seen)) (d : DepsFault) → Reached one s.stage s (seen_items before) → Comes one before s
    → items_judged one bits items bits_fault s ≡ Err d → Stops one bits (before ++ items) bits_fault d
walk one bits [] bits_fault s before d r comes e = subst (λ l. Stops one bits l bits_fault d) (sym (append-nil before)) (inr (end_stops one bits bits_fault s before d r comes e))
walk one bits (item ∷ items) bits_fault s before d r comes e = by (item_at one item.0 item.1 s) refl (item_told one item.0 item.1 s) e (λ t reached comes e. walk one bits items bits_fault t (before ++ item ∷ []) d reached comes e)
  where
    by : (j : Result State DepsFault) → item_at one item.0 item.1 s ≡ j → Told item.0 j → (j >>= items_judged one bits items bits_fault) ≡ Err d
        → ((t : State) → Reached one t.stage t (seen_items (before ++ item ∷ [])) → Comes one (before ++ item ∷ []) t → items_judged one bits items bits_fault t ≡ Err d → Stops one bits ((before ++ item ∷ []) ++ items) bits_fault d)
        → Stops one bits (before ++ item ∷ items) bits_fault d
    by (Ok t) is told e later =
        let reached : Reached one t.stage t (seen_items (before ++ item ∷ [])) = subst (Reached one t.stage t) (sym (map-append (λ (x : ℕ × Seen). x.1) before (item ∷ []))) (item_step one item.0 item.1 s t (seen_items before) r is) in
        let next : Comes one (before ++ item ∷ []) t = λ rest. ap (λ l. items_judged one 0 l None nothing_read) (append_assoc before (item ∷ []) rest) ∙ comes (item ∷ rest)
        ∙ ap (λ (r : Result State DepsFault). r >>= items_judged one 0 rest None) is in
        subst (λ l. Stops one bits l bits_fault d) (append_assoc before (item ∷ []) items) (later t reached next e)
    by (Err f) is told e later =
        let same : f ≡ d = err_same {A = ℕ × List FileGraph} f d e in
        inl (record {
          before = before;
          item = item;
          behind = items;
          whole = refl;
          begins = begins_so one s (seen_items before) r;
          stuck = stuck_at one before item s f comes is;
          told = subst (IsToldAt item.0) same told;
        })

stream_stops : (one : Bool) (stream : List ℕ) (d : DepsFault) → stream_judged one stream ≡ Err d → Stops one (8 * length stream) (items_in stream).0 (items_in stream).1 d
unfolding stream_judged
stream_stops one stream d e = walk one (8 * length stream) (items_in stream).0 (items_in stream).1 nothing_read [] d (refl, refl) (λ rest. refl) e

-- The first fault is told at the first item with which no accepted list goes on.
pub first-fault : (one : Bool) (bytes : List ℕ) (d : DepsFault) → bytes_judged one bytes ≡ Err d → IsFirstFault one bytes d
unfolding bytes_judged
first-fault one bytes d e = by (stream_of bytes) refl e
  where
    by : (o : Option (List ℕ)) → stream_of bytes ≡ o → signed_judged one o ≡ Err d → IsFirstFault one bytes d
    by None h e = inl (sym (err_same {A = ℕ × List FileGraph} faults.Signature d e), λ stream is. let s : Some stream ≡ None = sym (ap stream_of is ∙ stream_again stream) ∙ h in absurd cc)
    by (Some stream) h e = inr (stream, signed bytes stream h, stream_stops one stream d e)

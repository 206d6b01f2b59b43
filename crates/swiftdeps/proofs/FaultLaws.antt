-- Which faults an item can have.
use Rattle.std.proofs.Common.{◌≡◌, ℕ, ◌==◌, Bool, true, false, cond, ◌&&◌, List, [], ◌∷◌, ◌++◌, length, Option, Some, None, Result, Ok, Err, refl, sym, ap, ◌∙◌, subst}
use Rattle.std.specs.Prelude.{is_none, slice_index, not}
use Rattle.std.specs.Str.{is_utf8}
use Rattle.bitstream.specs.Reading.{Seen, Enters, LeaveBlock, Record, Ends}
use Rattle.bitstream.specs.Items.{items_in}
use Rattle.bitstream.specs.declared.item.BitFault.{BitFault}
use Rattle.bitstream.specs.declared.item.BitFault.TheVariants as bits
use Rattle.dep_key.specs.KeyOrder.{kind_at, aspect_at}
use Rattle.dep_key.specs.KeyShapes.{has_shape, is_filled}
use Rattle.swiftdeps.specs.declared.fault.DepsFault.{DepsFault}
use Rattle.swiftdeps.specs.declared.fault.DepsFault.TheVariants as faults
use Rattle.swiftdeps.specs.declared.stage.Stage.{Stage}
use Rattle.swiftdeps.specs.declared.stage.Stage.TheVariants.{Start, Version, Names, Nodes, Print, Uses, Behind}
use Rattle.swiftdeps.specs.Stages.{takes_block, takes_version, takes_identifier, takes_node, takes_print, takes_use, takes_file, may_end, is_version, is_behind}
use Rattle.swiftdeps.specs.Judging.{State, nothing_read, ◌>>=◌, or_fault, text_at, text_of, key_of, key_in, blob_alone, is_above_text, is_above_key, is_same_text, last, files_of, begun, block_at, version_at, identifier_of, identifier_at, file_of, file_at, node_at, print_at, use_at, leave_at, record_at, item_at, ended, items_judged}
use Rattle.swiftdeps.specs.Streams.{stream_of, stream_judged, signed_judged, bytes_judged}
use Rattle.swiftdeps.proofs.Taking.{both}
use Rattle.swiftdeps.proofs.Reached.{Reached}
use Rattle.swiftdeps.proofs.Sound.{item_step}

-- a fault of an item, among them that of a file that is repeated where there may be several
abbrev pub is_item_fault : Bool → DepsFault → Bool
is_item_fault several (faults.Bits e) = false
is_item_fault several faults.Signature = false
is_item_fault several (faults.Version n) = true
is_item_fault several (faults.RecordOrder at) = true
is_item_fault several (faults.KindNumber at n) = true
is_item_fault several (faults.IdentifierNumber at n) = true
is_item_fault several (faults.KeyShape at) = true
is_item_fault several (faults.NotUtf8 at) = true
is_item_fault several (faults.NotCanonicalOrder at) = true
is_item_fault several (faults.FileRepeated path) = several
is_item_fault several faults.NoMemory = false

-- each fault of a judgement is one of an item
abbrev Mild : {A : Type 0} → Bool → Result A DepsFault → Type 0
Mild several r = (d : DepsFault) → r ≡ Err d → is_item_fault several d ≡ true

ok_mild : {A : Type 0} (several : Bool) (x : A) → Mild several (Ok x)
ok_mild several x = λ d e. absurd cc

err_is : {A : Type 0} (several : Bool) (f d : DepsFault) (r : Result A DepsFault) → r ≡ Err f → r ≡ Err d → is_item_fault several f ≡ true → is_item_fault several d ≡ true
err_is several f d r a b h = let same : f ≡ d = cc in subst (λ (x : DepsFault). is_item_fault several x ≡ true) same h

err_mild : {A : Type 0} (several : Bool) (f : DepsFault) → is_item_fault several f ≡ true → Mild {A = A} several (Err f)
err_mild {A} several f h = λ d e. err_is {A = A} several f d (Err f) refl e h

guard_mild : {A : Type 0} (several : Bool) (b : Bool) (r : Result A DepsFault) (f : DepsFault) → is_item_fault several f ≡ true → (b ≡ true → Mild several r) → Mild several (cond b r (Err f))
guard_mild several true r f h m = m refl
guard_mild {A} several false r f h m = err_mild {A = A} several f h

or_mild : {A : Type 0} (several : Bool) (f : DepsFault) (o : Option A) → is_item_fault several f ≡ true → Mild several (or_fault f o)
or_mild several f (Some x) h = ok_mild several x
or_mild {A} several f None h = err_mild {A = A} several f h

bind_mild : {A B : Type 0} (several : Bool) (r : Result A DepsFault) (f : A → Result B DepsFault) → Mild several r → ((x : A) → Mild several (f x)) → Mild several (r >>= f)
bind_mild several (Ok x) f m g = g x
bind_mild several (Err e) f m g = λ d h. let same : e ≡ d = cc in m d (ap (λ (x : DepsFault). Err x) same)

text_mild : (several : Bool) (names : List (List ℕ)) (at n : ℕ) → Mild several (text_of names at n)
unfolding text_of
text_mild several names at n = or_mild several (faults.IdentifierNumber at n) (text_at names n) refl

key_mild : (several : Bool) (names : List (List ℕ)) (at : ℕ) (ops : List ℕ) (blob : Option (List ℕ)) → Mild several (key_in names at ops blob)
unfolding key_in key_of
key_mild several names at ops blob =
    guard_mild several (is_none blob && (length ops == 4)) _ (faults.RecordOrder at) refl (λ h.
    bind_mild several _ _ (or_mild several (faults.KindNumber at (slice_index ops 0)) (kind_at (slice_index ops 0)) refl) (λ kind.
    bind_mild several _ _ (or_mild several (faults.KindNumber at (slice_index ops 1)) (aspect_at (slice_index ops 1)) refl) (λ aspect.
    bind_mild several _ _ (text_mild several names at (slice_index ops 2)) (λ context.
    bind_mild several _ _ (text_mild several names at (slice_index ops 3)) (λ name.
    guard_mild several (has_shape (record { kind = kind; aspect = aspect; context = context; name = name })) _ (faults.KeyShape at) refl (λ g. ok_mild several _))))))

blob_mild : (several : Bool) (at : ℕ) (ops : List ℕ) (blob : Option (List ℕ)) → Mild several (blob_alone at ops blob)
blob_mild several at ops blob = guard_mild several (length ops == 0) _ (faults.RecordOrder at) refl (λ h. or_mild several (faults.RecordOrder at) blob refl)

-- a file that may be the only one has none before it
none_before : (one : Bool) (g : Stage) (s : State) (before : List Seen) → Reached one g s before → takes_file one g ≡ true → one ≡ true → s.path ≡ None
none_before one Start s before r e h = absurd (not_due one e h)
  where
    not_due : (one : Bool) → takes_file one Start ≡ true → one ≡ true → ⊥
    not_due true e h = cc
    not_due false e h = cc
none_before one Version s before r e h = absurd (not_due one e h)
  where
    not_due : (one : Bool) → takes_file one Version ≡ true → one ≡ true → ⊥
    not_due true e h = cc
    not_due false e h = cc
none_before one Names s before r e h = r.2
none_before one Nodes s before r e h = absurd (not_due one e h)
  where
    not_due : (one : Bool) → takes_file one Nodes ≡ true → one ≡ true → ⊥
    not_due true e h = cc
    not_due false e h = cc
none_before one Print s before r e h = absurd (not_due one e h)
  where
    not_due : (one : Bool) → takes_file one Print ≡ true → one ≡ true → ⊥
    not_due true e h = cc
    not_due false e h = cc
none_before one Uses s before r e h = absurd (not_due one e h)
  where
    not_due : (one : Bool) → takes_file one Uses ≡ true → one ≡ true → ⊥
    not_due true e h = cc
    not_due false e h = cc
none_before one Behind s before r e h = absurd (not_due one e h)
  where
    not_due : (one : Bool) → takes_file one Behind ≡ true → one ≡ true → ⊥
    not_due true e h = cc
    not_due false e h = cc

repeated_mild : (one : Bool) (at : ℕ) (path : List ℕ) (s : State) → (one ≡ true → s.path ≡ None) → Mild (not one) (file_of at path s)
repeated_mild one at path s h = by (is_same_text s.path path) refl
  where
    other : Mild (not one) (cond (is_filled path && is_above_text s.path path) (Ok (begun path s)) (Err (faults.NotCanonicalOrder at)))
    other = guard_mild (not one) (is_filled path && is_above_text s.path path) _ (faults.NotCanonicalOrder at) refl (λ g. ok_mild (not one) (begun path s))

    several : (one : Bool) → (one ≡ true → s.path ≡ None) → true ≡ is_same_text s.path path → not one ≡ true
    several true h e = absurd (different (e ∙ ap (λ (x : Option (List ℕ)). is_same_text x path) (h refl)))
      where
        different : true ≡ false → ⊥
        different e = cc
    several false h e = refl

    by : (b : Bool) → b ≡ is_same_text s.path path → Mild (not one) (cond b (Err (faults.FileRepeated path)) (cond (is_filled path && is_above_text s.path path) (Ok (begun path s)) (Err (faults.NotCanonicalOrder at))))
    by true e = err_mild {A = State} (not one) (faults.FileRepeated path) (several one h e)
    by false e = other

choice_mild : {A : Type 0} (several : Bool) (b : Bool) (x y : Result A DepsFault) → Mild several x → Mild several y → Mild several (cond b x y)
choice_mild several true x y m n = m
choice_mild several false x y m n = n

record_mild : (one : Bool) (at code : ℕ) (ops : List ℕ) (blob : Option (List ℕ)) (s : State) (before : List Seen) → Reached one s.stage s before → Mild (not one) (record_at one at code ops blob s)
unfolding record_at version_at node_at print_at use_at identifier_at identifier_of file_at
record_mild one at code ops blob s before r =
    let t = not one in
    choice_mild t (code == 1) _ _ (guard_mild t (takes_version s.stage && (is_none blob && (length ops == 1))) _ (faults.RecordOrder at) refl (λ h. guard_mild t (is_version one (slice_index ops 0)) _ (faults.Version (slice_index ops 0)) refl (λ g. ok_mild t _)))
    (choice_mild t (code == 2) _ _ (guard_mild t (takes_node s.stage) _ (faults.RecordOrder at) refl (λ h. bind_mild t _ _ (key_mild t s.names at ops blob) (λ key. guard_mild t (is_above_key s.key key) _ (faults.NotCanonicalOrder at) refl (λ g. ok_mild t _))))
    (choice_mild t (code == 3) _ _ (guard_mild t (takes_print s.stage) _ (faults.RecordOrder at) refl (λ h. bind_mild t _ _ (blob_mild t at ops blob) (λ print. ok_mild t _)))
    (choice_mild t (code == 4) _ _ (guard_mild t (takes_use s.stage) _ (faults.RecordOrder at) refl (λ h. bind_mild t _ _ (key_mild t s.names at ops blob) (λ key. guard_mild t (is_above_key (last s.uses) key) _ (faults.NotCanonicalOrder at) refl (λ g. ok_mild t _))))
    (choice_mild t (code == 5) _ _ (guard_mild t (takes_identifier s.stage) _ (faults.RecordOrder at) refl (λ h. bind_mild t _ _ (blob_mild t at ops blob) (λ bytes.
    bind_mild t _ _ (guard_mild t (is_utf8 bytes) (Ok bytes) (faults.NotUtf8 at) refl (λ g. ok_mild t bytes)) (λ text. guard_mild t (is_filled text && is_above_text (last s.names) text) _ (faults.NotCanonicalOrder at) refl (λ g. ok_mild t _)))))
    (choice_mild t (code == 6) _ _ (guard_mild t (takes_file one s.stage && (is_none blob && (length ops == 1))) _ (faults.RecordOrder at) refl (λ h. bind_mild t _ _ (text_mild t s.names at (slice_index ops 0)) (λ path.
    repeated_mild one at path s (none_before one s.stage s before r (both (takes_file one s.stage) (is_none blob && (length ops == 1)) h).0))))
    (err_mild {A = State} t (faults.RecordOrder at) refl))))))

item_mild : (one : Bool) (at : ℕ) (item : Seen) (s : State) (before : List Seen) → Reached one s.stage s before → Mild (not one) (item_at one at item s)
unfolding block_at leave_at
item_mild one at (Enters block) s before r = guard_mild (not one) (takes_block s.stage && (block == 8)) _ (faults.RecordOrder at) refl (λ h. ok_mild (not one) _)
item_mild one at LeaveBlock s before r = guard_mild (not one) (may_end one s.stage) _ (faults.RecordOrder at) refl (λ h. ok_mild (not one) _)
item_mild one at (Record code ops blob) s before r = record_mild one at code ops blob s before r
item_mild one at Ends s before r = err_mild {A = State} (not one) (faults.RecordOrder at) refl

-- the fault that ends the items, or one of an item
abbrev pub is_fault_of : Bool → Option BitFault → DepsFault → Type 0
is_fault_of several fault (faults.Bits e) = fault ≡ Some e
is_fault_of several fault faults.Signature = ⊥
is_fault_of several fault (faults.Version n) = Unit {0}
is_fault_of several fault (faults.RecordOrder at) = Unit {0}
is_fault_of several fault (faults.KindNumber at n) = Unit {0}
is_fault_of several fault (faults.IdentifierNumber at n) = Unit {0}
is_fault_of several fault (faults.KeyShape at) = Unit {0}
is_fault_of several fault (faults.NotUtf8 at) = Unit {0}
is_fault_of several fault (faults.NotCanonicalOrder at) = Unit {0}
is_fault_of several fault (faults.FileRepeated path) = several ≡ true
is_fault_of several fault faults.NoMemory = ⊥

from_item : (several : Bool) (fault : Option BitFault) (d : DepsFault) → is_item_fault several d ≡ true → is_fault_of several fault d
from_item several fault (faults.Bits e) h = absurd cc
from_item several fault faults.Signature h = absurd cc
from_item several fault (faults.Version n) h = tt
from_item several fault (faults.RecordOrder at) h = tt
from_item several fault (faults.KindNumber at n) h = tt
from_item several fault (faults.IdentifierNumber at n) h = tt
from_item several fault (faults.KeyShape at) h = tt
from_item several fault (faults.NotUtf8 at) h = tt
from_item several fault (faults.NotCanonicalOrder at) h = tt
from_item several fault (faults.FileRepeated path) h = h
from_item several fault faults.NoMemory h = absurd cc

ended_fault : (several : Bool) (bits : ℕ) (fault : Option BitFault) (s : State) (d : DepsFault) → ended bits fault s ≡ Err d → is_fault_of several fault d
ended_fault several bits (Some e) s d h = let same : faults.Bits e ≡ d = cc in subst (is_fault_of several (Some e)) same refl
ended_fault several bits None s d h = from_item several None d (guard_mild several (is_behind s.stage) (Ok (s.version, files_of s)) (faults.RecordOrder bits) refl (λ g. ok_mild several (s.version, files_of s)) d h)

fault_step : (one : Bool) (bits : ℕ) (item : ℕ × Seen) (items : List (ℕ × Seen)) (fault : Option BitFault) (s : State) (d : DepsFault) (j : Result State DepsFault) → j ≡ item_at one item.0 item.1 s → Mild (not one) (item_at one item.0 item.1 s)
    → ((t : State) → item_at one item.0 item.1 s ≡ Ok t → items_judged one bits items fault t ≡ Err d → is_fault_of (not one) fault d) → (j >>= items_judged one bits items fault) ≡ Err d → is_fault_of (not one) fault d
fault_step one bits item items fault s d (Ok t) e mild later h = later t (sym e) h
fault_step one bits item items fault s d (Err f) e mild later h = let same : f ≡ d = cc in from_item (not one) fault d (mild d (sym e ∙ ap (λ (x : DepsFault). Err x) same))

items_fault : (one : Bool) (bits : ℕ) (items : List (ℕ × Seen)) (fault : Option BitFault) (s : State) (before : List Seen) (d : DepsFault) → Reached one s.stage s before → items_judged one bits items fault s ≡ Err d → is_fault_of (not one) fault d
items_fault one bits [] fault s before d r h = ended_fault (not one) bits fault s d h
items_fault one bits (item ∷ items) fault s before d r h =
    fault_step one bits item items fault s d (item_at one item.0 item.1 s) refl (item_mild one item.0 item.1 s before r) (λ t e. items_fault one bits items fault t (before ++ item.1 ∷ []) d (item_step one item.0 item.1 s t before r e)) h

-- Bytes that are no file graphs: a fault of the bits is the one that ends the items, and a file is repeated only among several.
pub stream_fault : (one : Bool) (bytes : List ℕ) (d : DepsFault) → stream_judged one bytes ≡ Err d → is_fault_of (not one) (items_in bytes).1 d
unfolding stream_judged
stream_fault one bytes d h = items_fault one _ (items_in bytes).0 (items_in bytes).1 nothing_read [] d (refl, refl) h

abbrev NoMemoryInBits : List ℕ → Type 0
NoMemoryInBits bytes = (stream : List ℕ) → stream_of bytes ≡ Some stream → (items_in stream).1 ≡ Some bits.NoMemory → ⊥

pub never_memory : (one : Bool) (bytes : List ℕ) (d : DepsFault) → NoMemoryInBits bytes → bytes_judged one bytes ≡ Err d → d ≡ faults.Bits bits.NoMemory → ⊥
unfolding bytes_judged
never_memory one bytes d m h e = by (stream_of bytes) refl h
  where
    by : (o : Option (List ℕ)) → o ≡ stream_of bytes → signed_judged one o ≡ Err d → ⊥
    by None g h = let same : faults.Signature ≡ d = cc in differs (same ∙ e)
      where
        differs : faults.Signature ≡ faults.Bits bits.NoMemory → ⊥
        differs e = cc
    by (Some stream) g h = m stream (sym g) (subst (is_fault_of (not one) (items_in stream).1) e (stream_fault one stream d h))

pub never_repeated : (bytes : List ℕ) (d : DepsFault) (path : List ℕ) → bytes_judged true bytes ≡ Err d → d ≡ faults.FileRepeated path → ⊥
unfolding bytes_judged
never_repeated bytes d path h e = by (stream_of bytes) refl h
  where
    by : (o : Option (List ℕ)) → o ≡ stream_of bytes → signed_judged true o ≡ Err d → ⊥
    by None g h = let same : faults.Signature ≡ d = cc in differs (same ∙ e)
      where
        differs : faults.Signature ≡ faults.FileRepeated path → ⊥
        differs e = cc
    by (Some stream) g h = different (subst (is_fault_of false (items_in stream).1) e (stream_fault true stream d h))
      where
        different : false ≡ true → ⊥
        different e = cc

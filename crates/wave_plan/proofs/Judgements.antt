-- A folder has one first fault, or valid priors for one last build, and never both.
use Rattle.std.proofs.Common.{◌≡◌, ◌≢◌, ◌⊎◌, inl, inr, ⊎_elim, ℕ, Bool, true, false, cond, List, [], ◌∷◌, Option, Some, None, Result, Ok, Err, refl, sym, ap, subst, ◌∙◌}
use Rattle.std.specs.Prelude.{nat_eq}
use Rattle.std.specs.Cmp.Lexicographic.{pointwise, bytes_decides}
use Rattle.dep_key.specs.declared.graph.FileGraph.{FileGraph}
use Rattle.serde_json.specs.Data.{Data}
use Rattle.drv_outside.specs.declared.faults.RecordFault.{RecordFault}
use Rattle.drv_outside.specs.declared.faults.RecordFault.TheVariants.{NotJson}
use Rattle.build_record.specs.declared.record.BuildRecord.{BuildRecord}
use Rattle.build_record.specs.Reading.{IsTextOf, IsTextOfRecord, HasFault, record_of}
use Rattle.swiftdeps.specs.declared.fault.DepsFault.{DepsFault}
use Rattle.swiftdeps.specs.Streams.{bytes_judged}
use Rattle.swiftdeps.proofs.Complete.{bytes_again}
use Rattle.priors_store.specs.Priors.{ArePriors, recorded}
use Rattle.wave_plan.specs.declared.plan.Seen.{Seen}
use Rattle.wave_plan.specs.declared.plan.Asked.{Asked}
use Rattle.wave_plan.specs.declared.plan.PriorsWhy.{PriorsWhy}
use Rattle.wave_plan.specs.declared.plan.PriorsWhy.TheVariants.{NoGate, GateClosed, NoRecord, Record, OtherModule, OtherMap, NoPriors, Priors}
use Rattle.wave_plan.specs.Validity.{open_gate, HasRecordText, HasRecord, HasAskedRecord, LastBuild, AreValid, IsJudged}

abbrev same : List ℕ → List ℕ → Bool
same one other = pointwise nat_eq one other

abbrev same_map : Option (List ℕ) → Option (List ℕ) → Bool
same_map None None = true
same_map (Some one) (Some other) = same one other
same_map _ _ = false

is_same : (one other : List ℕ) → one ≡ other → same one other ≡ true
is_same one other e = (bytes_decides one other).1 e

differ : (one other : List ℕ) → one ≢ other → same one other ≡ false
differ one other n = (elim (same one other) as (λ v. same one other ≡ v → v ≡ false) [
  | true ↦ λ e. absurd (n ((bytes_decides one other).0 e))
  | false ↦ λ e. refl
]) refl

is_same_map : (one other : Option (List ℕ)) → one ≡ other → same_map one other ≡ true
is_same_map None None e = refl
is_same_map (Some one) (Some other) e = is_same one other (cc)
is_same_map None (Some other) e = cc
is_same_map (Some one) None e = cc

maps_differ : (one other : Option (List ℕ)) → one ≢ other → same_map one other ≡ false
maps_differ None None n = absurd (n refl)
maps_differ (Some one) (Some other) n = differ one other (λ e. n (ap (λ x. Some x) e))
maps_differ None (Some other) n = refl
maps_differ (Some one) None n = refl

-- ---- what each part of a folder says

abbrev Judged : Type 0
Judged = Result LastBuild PriorsWhy

abbrev by_priors : BuildRecord → Result (ℕ × List FileGraph) DepsFault → Judged
by_priors r (Ok (version, files)) = Ok (record { build_record = r; version = version; graph = recorded version files })
by_priors r (Err fault) = Err (Priors fault)

abbrev by_priors_text : BuildRecord → Option (List ℕ) → Judged
by_priors_text r None = Err NoPriors
by_priors_text r (Some text) = by_priors r (bytes_judged false text)

abbrev by_map : Seen → Asked → BuildRecord → Bool → Judged
by_map seen asked r true = by_priors_text r seen.priors
by_map seen asked r false = Err (OtherMap r.map asked.map)

abbrev by_module : Seen → Asked → BuildRecord → Bool → Judged
by_module seen asked r true = by_map seen asked r (same_map r.map asked.map)
by_module seen asked r false = Err (OtherModule r.«module» asked.«module»)

abbrev by_record : Seen → Asked → Result BuildRecord RecordFault → Judged
by_record seen asked (Ok r) = by_module seen asked r (same r.«module» asked.«module»)
by_record seen asked (Err fault) = Err (Record fault)

abbrev by_record_text : Seen → Asked → Result BuildRecord RecordFault → Option (List ℕ) → Judged
by_record_text seen asked read None = Err NoRecord
by_record_text seen asked read (Some text) = by_record seen asked read

abbrev by_open_gate : Seen → Asked → Result BuildRecord RecordFault → Bool → Judged
by_open_gate seen asked read true = by_record_text seen asked read seen.build_record
by_open_gate seen asked read false = Err GateClosed

abbrev by_gate : Seen → Asked → Result BuildRecord RecordFault → Option (List ℕ) → Judged
by_gate seen asked read None = Err NoGate
by_gate seen asked read (Some gate) = by_open_gate seen asked read (same gate open_gate)

-- what a folder says, where its record's text is read so
abbrev judged : Seen → Asked → Result BuildRecord RecordFault → Judged
judged seen asked read = by_gate seen asked read seen.gate

-- a text is read to this record, or has this fault
abbrev IsRead : List ℕ → Result BuildRecord RecordFault → Type 0
IsRead text (Ok r) = IsTextOfRecord text r
IsRead text (Err fault) = HasFault text fault

one_value : (text : List ℕ) (d e : Data) → IsTextOf text d → IsTextOf text e → d ≡ e
one_value text d e p q = (let both : Some d ≡ Some e = sym p.1 ∙ q.1 in cc)

read_fault : (text : List ℕ) (r : BuildRecord) (fault : RecordFault) → IsTextOfRecord text r → HasFault text fault → ⊥
read_fault text r fault p q =
    ⊎_elim (λ no. (let none : None ≡ Some p.0 = sym (no.1 p.1.0) ∙ p.1.1 in cc))
    (λ yes. (let both : Ok r ≡ Err fault = sym p.2 ∙ ap record_of (one_value text p.0 yes.0 p.1 yes.1) ∙ yes.2 in cc)) q

faults_of : (text : List ℕ) (d : Data) (f g : RecordFault) → IsTextOf text d → record_of d ≡ Err f → HasFault text g → f ≡ g
faults_of text d f g is e q =
    ⊎_elim (λ no. absurd (let none : None ≡ Some d = sym (no.1 is.0) ∙ is.1 in cc))
    (λ yes. (let both : Err f ≡ Err g = sym e ∙ ap record_of (one_value text d yes.0 is yes.1) ∙ yes.2 in cc)) q

one_fault : (text : List ℕ) (f g : RecordFault) → HasFault text f → HasFault text g → f ≡ g
one_fault text f g p q =
    ⊎_elim (λ no. ⊎_elim (λ other. no.0 ∙ sym other.0) (λ yes. sym (faults_of text yes.0 g f yes.1 yes.2 p)) q)
    (λ yes. faults_of text yes.0 f g yes.1 yes.2 q) p

one_record : (text : List ℕ) (r s : BuildRecord) → IsTextOfRecord text r → IsTextOfRecord text s → r ≡ s
one_record text r s p q = (let both : Ok r ≡ Ok s = sym p.2 ∙ ap record_of (one_value text p.0 q.0 p.1 q.1) ∙ q.2 in cc)

one_read : (text : List ℕ) (a b : Result BuildRecord RecordFault) → IsRead text a → IsRead text b → a ≡ b
one_read text (Ok r) (Ok s) p q = ap (λ x. Ok x) (one_record text r s p q)
one_read text (Ok r) (Err g) p q = absurd (read_fault text r g p q)
one_read text (Err f) (Ok s) p q = absurd (read_fault text s f q p)
one_read text (Err f) (Err g) p q = ap (λ x. Err x) (one_fault text f g p q)

-- ---- each judgement is what the folder says

record Said (seen : Seen) (asked : Asked) (j : Judged) : Type 0 where
  read : Result BuildRecord RecordFault
  is : (text : List ℕ) → HasRecordText seen text → IsRead text read
  says : judged seen asked read ≡ j

opened : (seen : Seen) (asked : Asked) (read : Result BuildRecord RecordFault) → seen.gate ≡ Some open_gate → judged seen asked read ≡ by_record_text seen asked read seen.build_record
opened seen asked read gate = ap (by_gate seen asked read) gate ∙ ap (by_open_gate seen asked read) (is_same open_gate open_gate refl)

with_text : (seen : Seen) (asked : Asked) (read : Result BuildRecord RecordFault) (text : List ℕ) → HasRecordText seen text → judged seen asked read ≡ by_record seen asked read
with_text seen asked read text has = opened seen asked read has.gate ∙ ap (by_record_text seen asked read) has.held

one_text : (seen : Seen) (one other : List ℕ) → HasRecordText seen one → HasRecordText seen other → one ≡ other
one_text seen one other p q = (let both : Some one ≡ Some other = sym p.held ∙ q.held in cc)

said_with : (seen : Seen) (asked : Asked) (j : Judged) (text : List ℕ) (read : Result BuildRecord RecordFault) → HasRecordText seen text → IsRead text read → by_record seen asked read ≡ j → Said seen asked j
said_with seen asked j text read has is says = record {
  read = read;
  is = λ other held. subst (λ t. IsRead t read) (one_text seen text other has held) is;
  says = with_text seen asked read text has ∙ says;
}

same_record : (seen : Seen) (asked : Asked) (r : BuildRecord) → HasAskedRecord seen asked r → by_record seen asked (Ok r) ≡ by_priors_text r seen.priors
same_record seen asked r has =
    ap (by_module seen asked r) (is_same r.«module» asked.«module» has.same_module) ∙ ap (by_map seen asked r) (is_same_map r.map asked.map has.same_map)

abbrev by_map_fault : Option (List ℕ) → Option (List ℕ) → Judged
by_map_fault found wanted = Err (OtherMap found wanted)

abbrev by_module_fault : List ℕ → List ℕ → Judged
by_module_fault found wanted = Err (OtherModule found wanted)

other_map : (r : BuildRecord) (asked : Asked) (found wanted : Option (List ℕ)) → found ≡ r.map → wanted ≡ asked.map → by_map_fault r.map asked.map ≡ by_map_fault found wanted
other_map r asked found wanted f w = λ i. by_map_fault (sym f i) (sym w i)

other_module : (r : BuildRecord) (asked : Asked) (found wanted : List ℕ) → found ≡ r.«module» → wanted ≡ asked.«module» → by_module_fault r.«module» asked.«module» ≡ by_module_fault found wanted
other_module r asked found wanted f w = λ i. by_module_fault (sym f i) (sym w i)

valid : (r : BuildRecord) (version : ℕ) (graph : List FileGraph) (text : List ℕ) → ArePriors version graph text → by_priors r (bytes_judged false text) ≡ Ok (record { build_record = r; version = version; graph = graph })
valid r version graph text are =
    ap (by_priors r) (bytes_again false version are.spelled text are.is_known (λ one. cc) are.spell)
    ∙ (λ i. Ok (record { build_record = r; version = version; graph = sym are.graph i }))

said : (seen : Seen) (asked : Asked) (j : Judged) → IsJudged seen asked j → Said seen asked j
said seen asked (Ok last) is =
    let r = last.build_record in
    said_with seen asked (Ok last) is.recorded.has.text (Ok r) is.recorded.has.held is.recorded.has.is
    (same_record seen asked r is.recorded ∙ ap (by_priors_text r) is.held ∙ valid r last.version last.graph is.text is.read)
said seen asked (Err NoGate) is = record {
  read = Err NotJson;
  is = λ text has. absurd (let both : None ≡ Some open_gate = sym is ∙ has.gate in cc);
  says = ap (by_gate seen asked (Err NotJson)) is;
}
said seen asked (Err GateClosed) is = record {
  read = Err NotJson;
  is = λ text has. absurd (is.2 (let both : Some is.0 ≡ Some open_gate = sym is.1 ∙ has.gate in cc));
  says = ap (by_gate seen asked (Err NotJson)) is.1 ∙ ap (by_open_gate seen asked (Err NotJson)) (differ is.0 open_gate is.2);
}
said seen asked (Err NoRecord) is = record {
  read = Err NotJson;
  is = λ text has. absurd (let both : None ≡ Some text = sym is.1 ∙ has.held in cc);
  says = opened seen asked (Err NotJson) is.0 ∙ ap (by_record_text seen asked (Err NotJson)) is.1;
}
said seen asked (Err (Record fault)) is = said_with seen asked (Err (Record fault)) is.0 (Err fault) is.1 is.2 refl
said seen asked (Err (OtherModule found wanted)) is =
    let r = is.0 in
    said_with seen asked (Err (OtherModule found wanted)) is.1.text (Ok r) is.1.held is.1.is
    (ap (by_module seen asked r) (differ r.«module» asked.«module» is.2) ∙ other_module r asked found wanted is.3 is.4)
said seen asked (Err (OtherMap found wanted)) is =
    let r = is.0 in
    said_with seen asked (Err (OtherMap found wanted)) is.1.text (Ok r) is.1.held is.1.is
    (ap (by_module seen asked r) (is_same r.«module» asked.«module» is.2) ∙ ap (by_map seen asked r) (maps_differ r.map asked.map is.3) ∙ other_map r asked found wanted is.4 is.5)
said seen asked (Err NoPriors) is =
    let r = is.0 in
    said_with seen asked (Err NoPriors) is.1.has.text (Ok r) is.1.has.held is.1.has.is (same_record seen asked r is.1 ∙ ap (by_priors_text r) is.2)
said seen asked (Err (Priors fault)) is =
    let r = is.0 in
    said_with seen asked (Err (Priors fault)) is.1.has.text (Ok r) is.1.has.held is.1.has.is
    (same_record seen asked r is.1 ∙ ap (by_priors_text r) is.2.1 ∙ ap (by_priors r) is.2.2)

-- how the record's text is read counts only where there is one
by_text : (seen : Seen) (asked : Asked) (a b : Result BuildRecord RecordFault) (held : Option (List ℕ)) → seen.gate ≡ Some open_gate → seen.build_record ≡ held
    → ((text : List ℕ) → HasRecordText seen text → IsRead text a) → ((text : List ℕ) → HasRecordText seen text → IsRead text b)
    → by_record_text seen asked a held ≡ by_record_text seen asked b held
by_text seen asked a b None gate e p q = refl
by_text seen asked a b (Some text) gate e p q =
    let has : HasRecordText seen text = record { gate = gate; held = e } in
    ap (by_record seen asked) (one_read text a b (p text has) (q text has))

by_opened : (seen : Seen) (asked : Asked) (a b : Result BuildRecord RecordFault) (gate : List ℕ) (is_open : Bool) → seen.gate ≡ Some gate → same gate open_gate ≡ is_open
    → ((text : List ℕ) → HasRecordText seen text → IsRead text a) → ((text : List ℕ) → HasRecordText seen text → IsRead text b)
    → by_open_gate seen asked a is_open ≡ by_open_gate seen asked b is_open
by_opened seen asked a b gate false e is p q = refl
by_opened seen asked a b gate true e is p q =
    by_text seen asked a b seen.build_record (e ∙ ap (λ x. Some x) ((bytes_decides gate open_gate).0 is)) refl p q

by_any_gate : (seen : Seen) (asked : Asked) (a b : Result BuildRecord RecordFault) (gate : Option (List ℕ)) → seen.gate ≡ gate
    → ((text : List ℕ) → HasRecordText seen text → IsRead text a) → ((text : List ℕ) → HasRecordText seen text → IsRead text b)
    → by_gate seen asked a gate ≡ by_gate seen asked b gate
by_any_gate seen asked a b None e p q = refl
by_any_gate seen asked a b (Some gate) e p q = by_opened seen asked a b gate (same gate open_gate) e refl p q

pub one_judgement : (seen : Seen) (asked : Asked) (a b : Judged) → IsJudged seen asked a → IsJudged seen asked b → a ≡ b
one_judgement seen asked a b p q =
    let one = said seen asked a p in
    let other = said seen asked b q in
    sym one.says ∙ by_any_gate seen asked one.read other.read seen.gate refl one.is other.is ∙ other.says

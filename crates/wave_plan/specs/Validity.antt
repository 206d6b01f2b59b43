-- When the priors of a build folder are valid, and why they aren't.
use Rattle.std.specs.Prelude.{◌≡◌, ◌≢◌, ℕ, false, List, [], ◌∷◌, Some, None, Result, Ok, Err}
use Rattle.dep_key.specs.declared.graph.FileGraph.{FileGraph}
use Rattle.build_record.specs.declared.record.BuildRecord.{BuildRecord}
use Rattle.build_record.specs.Reading.{IsTextOfRecord, HasFault}
use Rattle.swiftdeps.specs.declared.fault.DepsFault.{DepsFault}
use Rattle.swiftdeps.specs.Streams.{bytes_judged}
use Rattle.priors_store.specs.Priors.{ArePriors}
use Rattle.wave_plan.specs.declared.plan.Seen.{Seen}
use Rattle.wave_plan.specs.declared.plan.Asked.{Asked}
use Rattle.wave_plan.specs.declared.plan.PriorsWhy.{PriorsWhy}
use Rattle.wave_plan.specs.declared.plan.PriorsWhy.TheVariants.{NoGate, GateClosed, NoRecord, Record, OtherModule, OtherMap, NoPriors, Priors}

-- the gate of a folder that may be trusted: the byte 01
abbrev pub open_gate : List ℕ
open_gate = 1 ∷ []

-- The folder may be trusted, and this is the text of its record.
pub record HasRecordText (seen : Seen) (text : List ℕ) : Type 0 where
  pub gate : seen.gate ≡ Some open_gate
  pub held : seen.build_record ≡ Some text

-- The folder may be trusted, and this is its record.
pub record HasRecord (seen : Seen) (r : BuildRecord) : Type 0 where
  pub text : List ℕ
  pub held : HasRecordText seen text
  pub is : IsTextOfRecord text r

-- The folder may be trusted, and its record is that of the module and of the output file map that are asked for.
pub record HasAskedRecord (seen : Seen) (asked : Asked) (r : BuildRecord) : Type 0 where
  pub has : HasRecord seen r
  pub same_module : r.«module» ≡ asked.«module»
  pub same_map : r.map ≡ asked.map

-- What a folder tells of the build before: its record, and the version and the graph of its priors.
pub record LastBuild : Type 0 where
  pub build_record : BuildRecord
  pub version : ℕ
  pub graph : List FileGraph

-- The priors are valid, and this is what the folder tells of the build before.
pub record AreValid (seen : Seen) (asked : Asked) (last : LastBuild) : Type 0 where
  pub recorded : HasAskedRecord seen asked last.build_record
  pub text : List ℕ
  pub held : seen.priors ≡ Some text
  pub read : ArePriors last.version last.graph text

-- The priors aren't valid, and this is the first reason: no gate; another one than the byte 01; no record; none that can
-- be read; that of another module; that of another output file map; no priors; none that can be read.
abbrev pub IsFirstFault : Seen → Asked → PriorsWhy → Type 0
IsFirstFault seen asked NoGate = seen.gate ≡ None
IsFirstFault seen asked GateClosed = (bytes : List ℕ) × (seen.gate ≡ Some bytes) × (bytes ≢ open_gate)
IsFirstFault seen asked NoRecord = (seen.gate ≡ Some open_gate) × (seen.build_record ≡ None)
IsFirstFault seen asked (Record fault) = (text : List ℕ) × HasRecordText seen text × HasFault text fault
IsFirstFault seen asked (OtherModule found wanted) = (r : BuildRecord) × HasRecord seen r × (r.«module» ≢ asked.«module») × (found ≡ r.«module») × (wanted ≡ asked.«module»)
IsFirstFault seen asked (OtherMap found wanted) = (r : BuildRecord) × HasRecord seen r × (r.«module» ≡ asked.«module») × (r.map ≢ asked.map) × (found ≡ r.map) × (wanted ≡ asked.map)
IsFirstFault seen asked NoPriors = (r : BuildRecord) × HasAskedRecord seen asked r × (seen.priors ≡ None)
IsFirstFault seen asked (Priors fault) = (r : BuildRecord) × HasAskedRecord seen asked r × ((text : List ℕ) × (seen.priors ≡ Some text) × (bytes_judged false text ≡ Err fault))

-- The priors' text is refused, and this says with which fault.
abbrev pub IsRefusedPriors : List ℕ → PriorsWhy → Type 0
IsRefusedPriors text why = (fault : DepsFault) × (why ≡ Priors fault) × (bytes_judged false text ≡ Err fault)

-- The priors are valid, or this is the first reason why they aren't.
abbrev pub IsJudged : Seen → Asked → Result LastBuild PriorsWhy → Type 0
IsJudged seen asked (Ok last) = AreValid seen asked last
IsJudged seen asked (Err why) = IsFirstFault seen asked why

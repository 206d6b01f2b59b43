-- What is so of the labels and of the slots of every function.
use Rattle.std.specs.Prelude.{◌≡◌, ℕ, ◌<◌, ◌≤◌, ◌+◌, ◌==◌, Bool, true, false, List, [], ◌∷◌, length}
use Rattle.std.proofs.Common.{get_or}
use Rattle.dep_key.specs.declared.key.Key.{Key}
use Rattle.type_rules.specs.declared.ty.Ty.{Ty}
use Rattle.type_rules.specs.declared.ty.Ty.TheVariants as ty
use Rattle.type_rules.specs.declared.meaning.Meaning.{Meaning}
use Rattle.typed_code.specs.declared.units.Unit.{Unit as CodeUnit}
use Rattle.object_emit.specs.declared.instruction.Instruction.{Instruction}
use Rattle.object_emit.specs.declared.instruction.Instruction.TheVariants as op
use Rattle.object_emit.specs.Layouts.{words, total, slots_from, slot_in}
use Rattle.object_emit.specs.Objects.{unit_code}

abbrev pub one_if : Bool → ℕ
one_if true = 1
one_if false = 0

-- 1 where a label is the other one, and else 0
unfoldable pub at : ℕ → ℕ → ℕ
at label other = one_if (label == other)

-- how often an instruction sets a label
abbrev pub set_by : ℕ → Instruction → ℕ
set_by label (op.Label n) = at label n
set_by label _ = 0

-- how often an instruction may go on at a label
abbrev pub used_by : ℕ → Instruction → ℕ
used_by label (op.Unless n) = at label n
used_by label (op.Jump n) = at label n
used_by label _ = 0

-- how often a label is set in code
abbrev pub times_set : ℕ → List Instruction → ℕ
times_set label [] = 0
times_set label (instruction ∷ code) = set_by label instruction + times_set label code

-- how often code may go on at a label
abbrev pub times_used : ℕ → List Instruction → ℕ
times_used label [] = 0
times_used label (instruction ∷ code) = used_by label instruction + times_used label code

-- The labels of a function are numbered from 0: each below their count is set once, no other is set, and none but these is gone on at.
pub record HasItsLabels (code : List Instruction) : Type 0 where
  pub count : ℕ
  pub once : (label : ℕ) → label < count → times_set label code ≡ 1
  pub no_other : (label : ℕ) → count ≤ label → times_set label code ≡ 0
  pub there : (label : ℕ) → count ≤ label → times_used label code ≡ 0

abbrev pub LabelsAreSet : Type 0
LabelsAreSet = (answers : Key → Meaning) (u : CodeUnit) → HasItsLabels (unit_code answers u)

-- where a value of a list of types begins, and where the next one may begin
abbrev pub begins : (Key → Meaning) → ℕ → List Ty → ℕ → ℕ
begins answers first types number = slot_in (slots_from answers first types) number

abbrev pub ends : (Key → Meaning) → ℕ → List Ty → ℕ → ℕ
ends answers first types number = begins answers first types number + words answers (get_or types number ty.Void)

-- Of two values that stand one behind the other the first ends before the second begins; each begins behind the first slot and ends before their words end.
abbrev pub SlotsAreApart : Type 0
SlotsAreApart = (answers : Key → Meaning) (first : ℕ) (types : List Ty) (i j : ℕ) → i < j → j < length types → ends answers first types i ≤ begins answers first types j

abbrev pub SlotsAreWithin : Type 0
SlotsAreWithin = (answers : Key → Meaning) (first : ℕ) (types : List Ty) (i : ℕ) → i < length types →
    (first ≤ begins answers first types i) × (ends answers first types i ≤ first + total answers types)

-- The code of the steps of a body.
use Rattle.std.specs.Prelude.{ℕ, ◌+◌, ◌==◌, not, List, [], ◌∷◌, filter, map, codes, Option, Some, None, if◌then◌else◌}
use Rattle.dep_key.specs.declared.key.Key.{Key}
use Rattle.type_rules.specs.declared.meaning.Meaning.{Meaning}
use Rattle.typed_code.specs.declared.step.Step.{Step, Step-F, fold-Step}
use Rattle.typed_code.specs.declared.step.Branch.{Branch, Branch-F, fold-Branch}
use Rattle.object_emit.specs.declared.instruction.Instruction.{Instruction}
use Rattle.object_emit.specs.declared.instruction.Instruction.TheVariants as op
use Rattle.object_emit.specs.Layouts.{words, struct_words, total, slot_in, offset_of, offset_along, member_symbol}
use Rattle.object_emit.specs.Pieces.{Piece, plain, one, in_row, and_piece, or_piece, while_piece, if_piece}

-- Where code is emitted: what keys mean, and the slots at which parameters and locals begin.
pub record Site : Type 0 where
  pub answers : Key → Meaning
  pub slots : List ℕ

abbrev pub site : (Key → Meaning) → List ℕ → Site
site answers slots = record { answers = answers; slots = slots }

abbrev pub without_leading_zeros : List ℕ → List ℕ
without_leading_zeros [] = []
without_leading_zeros (c ∷ cs) = if c == 48 then without_leading_zeros cs else c ∷ cs

abbrev pub or_zero_digit : List ℕ → List ℕ
or_zero_digit [] = codes "0"
or_zero_digit (c ∷ cs) = c ∷ cs

-- An integer as it is printed: its digits without `_` and without leading zeros, or 0.
abbrev pub integer_text : List ℕ → List ℕ
integer_text literal = or_zero_digit (without_leading_zeros (filter (λ c. not (c == 95)) literal))

-- A property that is stored is a field of its struct, and one that is computed is called with the struct.
abbrev pub property : ℕ → List ℕ → List ℕ → ℕ → Option ℕ → Instruction
property of context name gives (Some offset) = op.Field offset gives of
property of context name gives None = op.Call (member_symbol context name) of gives

-- Takes a value from the stack, if it has words.
abbrev pub dropped : ℕ → List Instruction
dropped w = if w == 0 then [] else op.Drop w ∷ []

-- What each step is, where the steps inside it are known.
abbrev pub step_layer : Site → Step-F Piece (Piece × Piece) → Piece
step_layer s (Step-F.Integer text) = one (op.Int (integer_text text))
step_layer s (Step-F.StringText text) = one (op.Str text)
step_layer s (Step-F.Truth b) = one (op.Bool b)
step_layer s (Step-F.Local number of) = one (op.Get (slot_in s.slots number) (words s.answers of))
step_layer s (Step-F.SelfValue of) = one (op.Get 0 (words s.answers of))
step_layer s (Step-F.Global symbol of) = one (op.Load symbol 0 (words s.answers of))
step_layer s (Step-F.Property context name of) = one (property (struct_words s.answers context) context name (words s.answers of) (offset_of s.answers context name))
step_layer s (Step-F.Call symbol takes gives) = one (op.Call symbol (total s.answers takes) (words s.answers gives))
step_layer s (Step-F.Print of) = one (op.Print of)
step_layer s (Step-F.Operate operator of) = one (op.Operate operator of)
step_layer s Step-F.Negate = one op.Neg
step_layer s Step-F.Not = one op.Not
step_layer s (Step-F.And right) = and_piece (in_row right)
step_layer s (Step-F.Or right) = or_piece (in_row right)
step_layer s (Step-F.SetLocal number members of) = one (op.Set (slot_in s.slots number + offset_along s.answers members) (words s.answers of))
step_layer s (Step-F.SetGlobal symbol members of) = one (op.Store symbol (offset_along s.answers members) (words s.answers of))
step_layer s (Step-F.Return of) = one (op.Return (words s.answers of))
step_layer s (Step-F.Drop of) = plain (dropped (words s.answers of))
step_layer s (Step-F.While condition block) = while_piece (in_row condition) (in_row block)
step_layer s (Step-F.If branches last) = if_piece branches (in_row last)

-- the condition of a branch, and its block
abbrev pub branch_layer : Branch-F Piece (Piece × Piece) → Piece × Piece
branch_layer b = (in_row b.condition, in_row b.block)

-- The code of a step.
unfoldable pub step_piece : Site → Step → Piece
step_piece s = fold-Step Piece (Piece × Piece) (step_layer s) branch_layer

unfoldable pub branch_parts : Site → Branch → Piece × Piece
branch_parts s = fold-Branch Piece (Piece × Piece) (step_layer s) branch_layer

unfoldable pub branches_parts : Site → List Branch → List (Piece × Piece)
branches_parts s branches = map (branch_parts s) branches

-- The code of steps in a row.
unfoldable pub steps_piece : Site → List Step → Piece
steps_piece s steps = in_row (map (step_piece s) steps)

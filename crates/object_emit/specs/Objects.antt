-- The text of an object.
use Rattle.std.specs.Prelude.{ℕ, ◌+◌, List, [], ◌∷◌, ◌++◌, take, flat_map, codes}
use Rattle.std.specs.List.{sum_by}
use Rattle.dep_key.specs.declared.key.Key.{Key}
use Rattle.type_rules.specs.declared.ty.Ty.{Ty}
use Rattle.type_rules.specs.declared.meaning.Meaning.{Meaning}
use Rattle.typed_code.specs.declared.step.Step.{Step}
use Rattle.typed_code.specs.declared.units.Function.{Function}
use Rattle.typed_code.specs.declared.units.Initial.{Initial}
use Rattle.typed_code.specs.declared.units.Initial.TheVariants as initially
use Rattle.typed_code.specs.declared.units.Unit.{Unit as CodeUnit}
use Rattle.typed_code.specs.declared.units.Unit.TheVariants as unit
use Rattle.object_emit.specs.declared.instruction.Instruction.{Instruction}
use Rattle.object_emit.specs.declared.instruction.Instruction.TheVariants as op
use Rattle.object_emit.specs.Layouts.{words, struct_words, total, receiver_words, slots_from}
use Rattle.object_emit.specs.Pieces.{Piece, plain, one, joined}
use Rattle.object_emit.specs.Emission.{site, steps_piece}
use Rattle.object_emit.specs.Printing.{number, function_text}

-- The code of a piece, its labels counted from 0.
abbrev pub code_of : Piece → List Instruction
code_of piece = (piece 0).code

-- where no parameter and no local is
abbrev pub bare_piece : (Key → Meaning) → List Step → Piece
bare_piece answers steps = steps_piece (site answers []) steps

-- the symbol of the initializer of a global, or of the struct of a context
abbrev pub init_symbol : List ℕ → List ℕ
init_symbol symbol = symbol ++ codes ":init"

-- The steps of a body. `self` has the first slots, and behind it come the parameters and the locals.
abbrev pub body_piece : (Key → Meaning) → Function → Piece
body_piece answers f = steps_piece (site answers (slots_from answers (receiver_words answers f.receiver) f.types)) f.code

abbrev pub body_text : (Key → Meaning) → List ℕ → Function → List ℕ
body_text answers symbol f =
    let self = receiver_words answers f.receiver in
    function_text symbol (self + total answers (take f.params f.types)) (self + total answers f.types) (words answers f.result) (code_of (body_piece answers f))

-- A global's initializer stores the initial value, which has so many words.
abbrev pub stored_piece : (Key → Meaning) → List ℕ → ℕ → List Step → Piece
stored_piece answers symbol w steps = joined (bare_piece answers steps) (plain (op.Store symbol 0 w ∷ op.Return 0 ∷ []))

abbrev pub global_line : List ℕ → ℕ → List ℕ
global_line symbol w = codes "global " ++ symbol ++ number w ++ codes "\n"

abbrev pub global_text : (Key → Meaning) → List ℕ → Ty → List Step → List ℕ
global_text answers symbol of steps =
    global_line symbol (words answers of) ++ function_text (init_symbol symbol) 0 0 0 (code_of (stored_piece answers symbol (words answers of) steps))

-- the words of what is handed in for a stored property
abbrev pub given_words : (Key → Meaning) → Initial → ℕ
given_words answers (initially.Given of) = words answers of
given_words answers (initially.Own steps) = 0

-- a stored property's value, which is handed in at a slot where the declaration has none
abbrev pub initial_piece : (Key → Meaning) → ℕ → Initial → Piece
initial_piece answers slot (initially.Given of) = one (op.Get slot (words answers of))
initial_piece answers slot (initially.Own steps) = bare_piece answers steps

-- the stored properties in order, those that are handed in from a slot on
abbrev pub initials_piece : (Key → Meaning) → ℕ → List Initial → Piece
initials_piece answers slot [] = plain []
initials_piece answers slot (i ∷ initials) = joined (initial_piece answers slot i) (initials_piece answers (slot + given_words answers i) initials)

-- A struct's initializer gives all stored properties, which have so many words.
abbrev pub initializer_piece : (Key → Meaning) → ℕ → List Initial → Piece
initializer_piece answers size initials = joined (initials_piece answers 0 initials) (one (op.Return size))

abbrev pub initializer_text : (Key → Meaning) → List ℕ → List Initial → List ℕ
initializer_text answers context initials =
    let given = sum_by (given_words answers) initials in
    let size = struct_words answers context in
    function_text (init_symbol context) given given size (code_of (initializer_piece answers size initials))

-- The code in the function of a unit.
abbrev pub unit_code : (Key → Meaning) → CodeUnit → List Instruction
unit_code answers (unit.Global symbol of steps) = code_of (stored_piece answers symbol (words answers of) steps)
unit_code answers (unit.Function symbol f) = code_of (body_piece answers f)
unit_code answers (unit.Initializer context initials) = code_of (initializer_piece answers (struct_words answers context) initials)

abbrev pub unit_text : (Key → Meaning) → CodeUnit → List ℕ
unit_text answers (unit.Global symbol of steps) = global_text answers symbol of steps
unit_text answers (unit.Function symbol f) = body_text answers symbol f
unit_text answers (unit.Initializer context initials) = initializer_text answers context initials

-- The object text of a file with these units.
unfoldable pub object_text : (Key → Meaning) → List ℕ → List CodeUnit → List ℕ
object_text answers path units = codes "object " ++ path ++ codes "\n" ++ flat_map (unit_text answers) units

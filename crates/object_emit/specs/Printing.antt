-- How instructions and functions are printed.
use Rattle.std.specs.Prelude.{ℕ, Bool, true, false, List, ◌++◌, flat_map, codes, decimal}
use Rattle.type_rules.specs.declared.ty.Ty.{Ty}
use Rattle.type_rules.specs.declared.ty.Ty.TheVariants as ty
use Rattle.type_rules.specs.Shown.{shown_type}
use Rattle.typed_code.specs.declared.step.Operator.{Operator}
use Rattle.typed_code.specs.declared.step.Operator.TheVariants as operator
use Rattle.object_emit.specs.declared.instruction.Instruction.{Instruction}
use Rattle.object_emit.specs.declared.instruction.Instruction.TheVariants as op

-- a number behind a blank
abbrev pub number : ℕ → List ℕ
number n = codes " " ++ decimal n

-- strings are added one behind the other
abbrev pub sum_word : Ty → List ℕ
sum_word ty.String = codes "cat"
sum_word ty.Int = codes "add"
sum_word ty.Bool = codes "add"
sum_word ty.Void = codes "add"
sum_word (ty.Struct context) = codes "add"

-- An operator, with the type of its operands where it compares.
abbrev pub operator_text : Operator → Ty → List ℕ
operator_text operator.Add of = sum_word of
operator_text operator.Subtract of = codes "sub"
operator_text operator.Multiply of = codes "mul"
operator_text operator.Divide of = codes "div"
operator_text operator.Remainder of = codes "rem"
operator_text operator.Less of = codes "lt." ++ shown_type of
operator_text operator.LessOrEqual of = codes "le." ++ shown_type of
operator_text operator.Greater of = codes "gt." ++ shown_type of
operator_text operator.GreaterOrEqual of = codes "ge." ++ shown_type of
operator_text operator.Equal of = codes "eq." ++ shown_type of
operator_text operator.NotEqual of = codes "ne." ++ shown_type of

abbrev pub truth_text : Bool → List ℕ
truth_text true = codes "bool true"
truth_text false = codes "bool false"

-- An instruction as it is printed.
abbrev pub text : Instruction → List ℕ
text (op.Int digits) = codes "int " ++ digits
text (op.Bool value) = truth_text value
text (op.Str literal) = codes "str " ++ literal
text (op.Get slot w) = codes "get" ++ number slot ++ number w
text (op.Load symbol offset w) = codes "load " ++ symbol ++ number offset ++ number w
text (op.Field offset w of) = codes "field" ++ number offset ++ number w ++ number of
text (op.Call symbol takes gives) = codes "call " ++ symbol ++ number takes ++ number gives
text (op.Print of) = codes "print." ++ shown_type of
text (op.Operate operator of) = operator_text operator of
text op.Neg = codes "neg"
text op.Not = codes "not"
text (op.Unless n) = codes "unless" ++ number n
text (op.Jump n) = codes "jump" ++ number n
text (op.Label n) = codes "label" ++ number n
text (op.Set slot w) = codes "set" ++ number slot ++ number w
text (op.Store symbol offset w) = codes "store " ++ symbol ++ number offset ++ number w
text (op.Return w) = codes "return" ++ number w
text (op.Drop w) = codes "drop" ++ number w

-- A line of code begins with one blank.
abbrev pub code_line : Instruction → List ℕ
code_line instruction = codes " " ++ text instruction ++ codes "\n"

-- The first line of a function: its symbol, and the words of its parameters, of all its slots and of its result.
abbrev pub function_head : List ℕ → ℕ → ℕ → ℕ → List ℕ
function_head symbol takes slots gives = codes "func " ++ symbol ++ number takes ++ number slots ++ number gives ++ codes "\n"

-- A function and its code.
abbrev pub function_text : List ℕ → ℕ → ℕ → ℕ → List Instruction → List ℕ
function_text symbol takes slots gives code = function_head symbol takes slots gives ++ flat_map code_line code ++ codes "end\n"

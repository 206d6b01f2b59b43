-- What a function of the parser says.
use Rattle.std.specs.Prelude.{◌≡◌, Bool, true, false, ◌&&◌, ◌||◌, ◌<◌, ◌≤◌, List, [], ◌∷◌, length, Option, Some, None, Result, Ok, Err}
use Rattle.grammar.specs.Forms.{Form, begins_by, begins_label, nothing}
use Rattle.grammar.specs.Faults.{Stops, Parsed, FailsAt}
use Rattle.swift_ast.specs.declared.terminals.Terminal.{Terminal}
use Rattle.swift_ast.specs.declared.terminals.Terminal.TheVariants as T
use Rattle.swift_ast.specs.Leaves.{Leaf}
use Rattle.swift_ast.specs.Terminals.{terminal}
use Rattle.swift_ast.specs.Tests as tests
use Rattle.token_cursor.specs.declared.stop.Stop.{Stop}
use Rattle.token_cursor.specs.declared.stop.Stop.TheVariants as stop
use Rattle.token_cursor.specs.declared.token_class.TokenClass.{TokenClass}
use Rattle.token_cursor.specs.declared.token_class.TokenClass.TheVariants as test

abbrev pub test_of : TokenClass → tests.Test
test_of (test.Is terminal) = tests.is terminal
test_of test.PrefixOperator = tests.is_prefix_operator
test_of test.InfixOperator = tests.is_infix_operator
test_of test.BeginsPart = tests.begins_part
test_of test.OpensArgs = tests.opens_args
test_of test.BeginsStmt = tests.begins_stmt
test_of test.BeginsNextStmt = tests.begins_next_stmt
test_of test.BeginsValue = tests.begins_value
test_of test.Label = tests.is_label
test_of test.BeginsNextDecl = tests.begins_next_decl
test_of test.BeginsStructMember = tests.begins_struct_member
test_of test.BeginsNextStructMember = tests.on_new_line tests.begins_struct_member
test_of test.BeginsExtensionMember = tests.begins_extension_member
test_of test.BeginsNextExtensionMember = tests.on_new_line tests.begins_extension_member

-- fewer tokens are left where something was found, and no more in any case
abbrev pub Shortens : {X : Type 0} → Option X → List Leaf → List Leaf → Type 0
Shortens (Some x) old new = length new < length old
Shortens None old new = length new ≤ length old

-- a token of the test was taken, or none was there
abbrev pub Eaten : (Leaf → Bool) → Option Leaf → List Leaf → List Leaf → Type 0
Eaten test (Some x) old new = (old ≡ x ∷ new) × (test x ≡ true)
Eaten test None old new = (new ≡ old) × Stops test old

-- a tree that begins with a token of the test and continues with nothing was taken, or no such token was there
abbrev pub TakesIf : {X : Type 0} → (Leaf → Bool) → Form Leaf X → Option X → List Leaf → List Leaf → Type 0
TakesIf test f (Some x) old new = Parsed f x nothing old new
TakesIf test f None old new = (new ≡ old) × Stops test old

-- a tree was taken, or the first fault is at hand, unless memory ran out
abbrev pub Parses : {X : Type 0} → Form Leaf X → Result X Stop → List Leaf → List Leaf → Type 0
Parses f (Ok x) old new = Parsed f x (f.continues x) old new
Parses f (Err stop.Unexpected) old new = FailsAt f old new
Parses f (Err stop.NoMemory) old new = Unit {0}

-- where a tree in front was taken up to here, whatever stood before it, a tree that begins with it was taken, or the first fault is at hand
abbrev pub ParsesBehind : {X Y : Type 0} → Form Leaf X → X → Form Leaf Y → Result Y Stop → List Leaf → List Leaf → Type 0
ParsesBehind f x g result mid new = (old : List Leaf) → Parsed f x (f.continues x) old mid → Parses g result old new

-- a tree that begins with a token of the test was taken, or there is none such
abbrev pub ParsesIf : {X : Type 0} → (Leaf → Bool) → Form Leaf X → Result (Option X) Stop → List Leaf → List Leaf → Type 0
ParsesIf test f (Ok None) old new = (new ≡ old) × Stops test old
ParsesIf test f (Ok (Some x)) old new = Parsed f x (f.continues x) old new
ParsesIf test f (Err stop.Unexpected) old new = (begins_by test old ≡ true) × FailsAt f old new
ParsesIf test f (Err stop.NoMemory) old new = Unit {0}

-- a label and its colon were taken, or the tokens don't begin so
abbrev pub LabelEaten : Option (Leaf × Leaf) → List Leaf → List Leaf → Type 0
LabelEaten (Some x) old new = (old ≡ x.0 ∷ (x.1 ∷ new)) × (tests.on (tests.is T.Identifier) x.0 ≡ true) × (tests.on (tests.is T.Colon) x.1 ≡ true)
LabelEaten None old new = (new ≡ old) × (begins_label (tests.on (tests.is T.Identifier)) (tests.on (tests.is T.Colon)) old ≡ false)

-- names with full stops between them, and `=` behind the last
abbrev pub continues_to_assign : List Leaf → Bool
continues_to_assign [] = false
continues_to_assign (t ∷ []) = tests.on (tests.is T.Assign) t
continues_to_assign (t ∷ (u ∷ ts)) = tests.on (tests.is T.Assign) t || (tests.on (tests.is T.Dot) t && (tests.on (tests.is T.Identifier) u && continues_to_assign ts))

abbrev pub begins_assign : List Leaf → Bool
begins_assign [] = false
begins_assign (t ∷ ts) = tests.on (tests.is T.Identifier) t && continues_to_assign ts

-- what the next token is to the grammar
abbrev pub next_of : List Leaf → Terminal
next_of [] = T.Unused
next_of (t ∷ ts) = terminal t

-- Tests of tokens: by their terminal, and by whether they are first on their line.
use Rattle.std.specs.Prelude.{Bool, false, ◌&&◌, ◌||◌, not, List, [], ◌∷◌, ◌==◌}
use Rattle.swift_ast.specs.declared.terminals.Terminal.{Terminal}
use Rattle.swift_ast.specs.declared.terminals.Terminal.TheVariants as T
use Rattle.swift_ast.specs.Leaves.{Leaf}
use Rattle.swift_ast.specs.Terminals.{terminal, number}

-- a test of a terminal that stands first on its line, or not
abbrev pub Test : Type 0
Test = Terminal → Bool → Bool

-- the tokens of a test
abbrev pub on : Test → Leaf → Bool
on test t = test (terminal t) t.first_on_line

abbrev pub is : Terminal → Test
is wanted terminal first = number terminal == number wanted

abbrev pub one_of : List Terminal → Terminal → Bool
one_of [] terminal = false
one_of (wanted ∷ more) terminal = number terminal == number wanted || one_of more terminal

abbrev pub among : List Terminal → Test
among wanted terminal first = one_of wanted terminal

abbrev pub or : Test → Test → Test
or one two terminal first = one terminal first || two terminal first

-- first on its line
abbrev pub on_new_line : Test → Test
on_new_line test terminal first = test terminal first && first

-- not first on its line
abbrev pub on_same_line : Test → Test
on_same_line test terminal first = test terminal first && not first

-- the operators of each level, and what continues with an operand of it
abbrev pub is_prefix_operator : Test
is_prefix_operator = among (T.Minus ∷ T.Not ∷ [])

abbrev pub is_product_operator : Test
is_product_operator = among (T.Times ∷ T.Divide ∷ T.Remainder ∷ [])

abbrev pub is_sum_operator : Test
is_sum_operator = among (T.Plus ∷ T.Minus ∷ [])

abbrev pub is_cmp_operator : Test
is_cmp_operator = among (T.Equal ∷ T.NotEqual ∷ T.Less ∷ T.LessOrEqual ∷ T.Greater ∷ T.GreaterOrEqual ∷ [])

-- the operators between two operands
abbrev pub infix_operators : List Terminal
infix_operators =
    T.Equal ∷ T.NotEqual ∷ T.Less ∷ T.LessOrEqual ∷ T.Greater ∷ T.GreaterOrEqual ∷ T.Plus ∷ T.Minus ∷ T.Times ∷ T.Divide ∷ T.Remainder ∷ T.And ∷ T.Or ∷ []

abbrev pub is_infix_operator : Test
is_infix_operator = among infix_operators

-- the bracket of arguments stands on the line of what is called
abbrev pub opens_args : Test
opens_args = on_same_line (is T.LeftParenthesis)

abbrev pub begins_part : Test
begins_part = or (is T.Dot) opens_args

abbrev pub is_simple_atom : Test
is_simple_atom = among (T.Integer ∷ T.StringText ∷ T.True ∷ T.False ∷ T.Identifier ∷ T.SelfValue ∷ [])

abbrev pub begins_atom : Test
begins_atom = or is_simple_atom (is T.LeftParenthesis)

abbrev pub begins_expr : Test
begins_expr = or begins_atom is_prefix_operator

-- a statement
abbrev pub is_specifier : Test
is_specifier = among (T.Let ∷ T.Var ∷ [])

abbrev pub stmt_beginnings : List Terminal
stmt_beginnings =
    T.Let ∷ T.Var ∷ T.Return ∷ T.If ∷ T.While ∷ T.Integer ∷ T.StringText ∷ T.True ∷ T.False ∷ T.Identifier ∷ T.SelfValue ∷ T.LeftParenthesis ∷ []

abbrev pub begins_stmt : Test
begins_stmt = among stmt_beginnings

abbrev pub begins_next_stmt : Test
begins_next_stmt = on_new_line begins_stmt

-- what stands behind `return` as the beginning of its value
abbrev pub begins_value : Test
begins_value terminal first = not (is T.RightBrace terminal first) && not first

-- a declaration
abbrev pub is_access : Test
is_access = among (T.Private ∷ T.Fileprivate ∷ T.Internal ∷ T.Public ∷ [])

abbrev pub begins_named : Test
begins_named = among (T.Let ∷ T.Var ∷ T.Func ∷ T.Struct ∷ T.Typealias ∷ [])

abbrev pub decl_beginnings : List Terminal
decl_beginnings =
    T.Private ∷ T.Fileprivate ∷ T.Internal ∷ T.Public ∷ T.Let ∷ T.Var ∷ T.Func ∷ T.Struct ∷ T.Typealias ∷ T.Extension ∷ []

abbrev pub begins_decl : Test
begins_decl = among decl_beginnings

abbrev pub begins_next_decl : Test
begins_next_decl = on_new_line begins_decl

abbrev pub is_label : Test
is_label = among (T.Identifier ∷ T.Wildcard ∷ [])

abbrev pub struct_member_beginnings : List Terminal
struct_member_beginnings = T.Private ∷ T.Fileprivate ∷ T.Internal ∷ T.Public ∷ T.Let ∷ T.Var ∷ T.Func ∷ []

abbrev pub begins_struct_member : Test
begins_struct_member = among struct_member_beginnings

abbrev pub extension_member_beginnings : List Terminal
extension_member_beginnings = T.Private ∷ T.Fileprivate ∷ T.Internal ∷ T.Public ∷ T.Var ∷ T.Func ∷ []

abbrev pub begins_extension_member : Test
begins_extension_member = among extension_member_beginnings

-- brackets that open and close a level
abbrev pub level_openings : List Terminal
level_openings = T.LeftParenthesis ∷ T.LeftBrace ∷ []

abbrev pub opens_level : Test
opens_level = among level_openings

abbrev pub level_closings : List Terminal
level_closings = T.RightParenthesis ∷ T.RightBrace ∷ []

abbrev pub closes_level : Test
closes_level = among level_closings

-- The rules of statements, and the forms of their trees.
use Rattle.std.specs.Prelude.{Bool, true, false, List, [], ◌∷◌, Option}
use Rattle.grammar.specs.Forms.{Form, both, perhaps, many, trail, lines, beginning, narrow}
use Rattle.grammar.specs.Shows.{reading, given, seen, through}
use Rattle.swift_ast.specs.declared.terminals.Terminal.TheVariants as T
use Rattle.swift_ast.specs.declared.expressions.Expr.{Expr}
use Rattle.swift_ast.specs.declared.expressions.Postfix.{Postfix, out-Postfix}
use Rattle.swift_ast.specs.declared.expressions.PostfixPart.{PostfixPart, PostfixPart-F, out-PostfixPart}
use Rattle.swift_ast.specs.declared.statements.BindingSpecifier.{BindingSpecifier}
use Rattle.swift_ast.specs.declared.statements.BindingSpecifier.TheVariants.{Let, Var}
use Rattle.swift_ast.specs.declared.statements.TypeName.{TypeName}
use Rattle.swift_ast.specs.declared.statements.Target.{Target}
use Rattle.swift_ast.specs.declared.statements.Call.{Call}
use Rattle.swift_ast.specs.declared.statements.Block.{Block, Block-F, fold-Block}
use Rattle.swift_ast.specs.declared.statements.Stmt.{Stmt, Stmt-F, fold-Stmt}
use Rattle.swift_ast.specs.declared.statements.If.{If, If-F, fold-If}
use Rattle.swift_ast.specs.declared.statements.ElseIf.{ElseIf, ElseIf-F, fold-ElseIf}
use Rattle.swift_ast.specs.Leaves.{Leaf}
use Rattle.swift_ast.specs.Tests.{on, is, begins_stmt, begins_next_stmt, begins_value}
use Rattle.swift_ast.specs.Expressions.{word, R, expr_form, postfix_form}

-- `let` or `var`
abbrev pub specifier_reading : BindingSpecifier → R
specifier_reading (Let t) = reading (word T.Let) t
specifier_reading (Var t) = reading (word T.Var) t

abbrev pub specifier_form : Form Leaf BindingSpecifier
specifier_form = seen specifier_reading

-- A type is a name.
abbrev pub type_form : Form Leaf TypeName
type_form = through (λ t. t.name) (word T.Identifier)

-- A colon and a type, or nothing.
abbrev pub annotation_rule : Form Leaf (Option (Leaf × TypeName))
annotation_rule = perhaps (on (is T.Colon)) (both (word T.Colon) type_form)

-- A name with an initial value, and a written type or none.
abbrev pub binding_rule : Form Leaf (BindingSpecifier × (Leaf × (Option (Leaf × TypeName) × (Leaf × Expr))))
binding_rule = both specifier_form (both (word T.Identifier) (both annotation_rule (both (word T.Assign) expr_form)))

-- A name, and members of it.
abbrev pub target_rule : Form Leaf (Leaf × List (Leaf × Leaf))
target_rule = trail (on (is T.Dot)) (word T.Identifier) (both (word T.Dot) (word T.Identifier))

abbrev pub target_form : Form Leaf Target
target_form = through (λ t. (t.root, t.members)) target_rule

abbrev pub assign_rule : Form Leaf (Target × (Leaf × Expr))
assign_rule = both target_form (both (word T.Assign) expr_form)

-- `return` has a value exactly where the next token is neither `}` nor first on its line. Behind one without a value stands
-- `}` or a statement on a line of its own, so that what is asked of a value is asked of its first token alone.
abbrev pub return_rule : Form Leaf (Leaf × Option Expr)
return_rule = both (word T.Return) (perhaps (on begins_value) (beginning (on begins_value) expr_form))

-- The last part is the arguments of a call.
abbrev pub is_args_layer : {A B C D E F G H I J K : Type 0} → PostfixPart-F A B C D E F G H I J K → Bool
is_args_layer (PostfixPart-F.Member dot name) = false
is_args_layer (PostfixPart-F.Call args) = true

abbrev pub is_args : PostfixPart → Bool
is_args part = is_args_layer (out-PostfixPart part)

abbrev pub ends_by : {X : Type 0} → (X → Bool) → List X → Bool
ends_by test [] = false
ends_by test (x ∷ []) = test x
ends_by test (x ∷ (y ∷ xs)) = ends_by test (y ∷ xs)

abbrev pub is_call : Postfix → Bool
is_call postfix = ends_by is_args (out-Postfix postfix).parts

abbrev pub call_form : Form Leaf Call
call_form = through (λ c. c.postfix) (narrow is_call postfix_form)

-- Statements in braces: the first anywhere, and each later one on a line of its own.
abbrev pub block_rule : {X : Type 0} → Form Leaf X → Form Leaf (Leaf × (List X × Leaf))
block_rule stmt = both (word T.LeftBrace) (both (lines (on begins_stmt) (on begins_next_stmt) stmt) (word T.RightBrace))

abbrev pub while_rule : {X : Type 0} → Form Leaf X → Form Leaf (Leaf × (Expr × X))
while_rule block = both (word T.While) (both expr_form block)

abbrev pub else_if_rule : {X : Type 0} → Form Leaf X → Form Leaf (Leaf × (Leaf × (Expr × X)))
else_if_rule block = both (word T.Else) (both (word T.If) (both expr_form block))

abbrev pub last_else_rule : {X : Type 0} → Form Leaf X → Form Leaf (Option (Leaf × X))
last_else_rule block = perhaps (on (is T.Else)) (both (word T.Else) block)

-- any number of `else if`, and at most one `else`
abbrev pub else_parts_rule : {X Y : Type 0} → Form Leaf X → Form Leaf Y → Form Leaf (List Y × Option (Leaf × X))
else_parts_rule block else_if = both (many (on (is T.Else)) else_if) (last_else_rule block)

-- `if`, its condition and its block, and what stands behind it
abbrev pub if_rule : {X Y : Type 0} → Form Leaf X → Form Leaf Y → Form Leaf (Leaf × (Expr × (X × (List Y × Option (Leaf × X)))))
if_rule block else_if = both (word T.If) (both expr_form (both block (else_parts_rule block else_if)))

-- What each tree gives by what its parts gave.
abbrev pub one_block : Block-F R R R R → R
one_block x = reading (block_rule given) (x.opening, (x.stmts, x.closing))

abbrev pub one_else_if : ElseIf-F R R R R → R
one_else_if x = reading (else_if_rule given) (x.else_keyword, (x.if_keyword, (x.condition, x.block)))

abbrev pub one_if : If-F R R R R → R
one_if x = reading (if_rule given given) (x.keyword, (x.condition, (x.block, (x.else_ifs, x.last))))

abbrev pub one_stmt : Stmt-F R R R R → R
one_stmt (Stmt-F.Local specifier name annotation assign value) = reading binding_rule (specifier, (name, (annotation, (assign, value))))
one_stmt (Stmt-F.Assign target assign value) = reading assign_rule (target, (assign, value))
one_stmt (Stmt-F.Return keyword value) = reading return_rule (keyword, value)
one_stmt (Stmt-F.If x) = x
one_stmt (Stmt-F.While keyword condition block) = reading (while_rule given) (keyword, (condition, block))
one_stmt (Stmt-F.Call call) = reading call_form call

abbrev pub stmt_reading : Stmt → R
stmt_reading = fold-Stmt R R R R one_stmt one_block one_else_if one_if

abbrev pub block_reading : Block → R
block_reading = fold-Block R R R R one_stmt one_block one_else_if one_if

abbrev pub else_if_reading : ElseIf → R
else_if_reading = fold-ElseIf R R R R one_stmt one_block one_else_if one_if

abbrev pub if_reading : If → R
if_reading = fold-If R R R R one_stmt one_block one_else_if one_if

-- The forms of the trees.
abbrev pub stmt_form : Form Leaf Stmt
stmt_form = seen stmt_reading

abbrev pub block_form : Form Leaf Block
block_form = seen block_reading

abbrev pub else_if_form : Form Leaf ElseIf
else_if_form = seen else_if_reading

abbrev pub if_form : Form Leaf If
if_form = seen if_reading

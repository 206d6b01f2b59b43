-- How statements are checked: what they declare, and their code.
use Rattle.std.specs.Prelude.{ℕ, Bool, true, false, ◌||◌, List, [], ◌∷◌, ◌++◌, length, Option, Some, None}
use Rattle.std.specs.List.{list_any, list_all}
use Rattle.std.specs.Option.{option_map}
use Rattle.dep_key.specs.declared.key.Key.{Key}
use Rattle.type_rules.specs.declared.ty.Ty.{Ty}
use Rattle.type_rules.specs.declared.ty.Ty.TheVariants as ty
use Rattle.type_rules.specs.declared.meaning.Meaning.TheVariants as means
use Rattle.swift_ast.specs.declared.statements.BindingSpecifier.{BindingSpecifier}
use Rattle.swift_ast.specs.declared.statements.BindingSpecifier.TheVariants.{Let, Var}
use Rattle.swift_ast.specs.declared.statements.TypeName.{TypeName}
use Rattle.swift_ast.specs.declared.statements.Target.{Target}
use Rattle.swift_ast.specs.declared.statements.Block.{Block, Block-F, fold-Block}
use Rattle.swift_ast.specs.declared.statements.Stmt.{Stmt, Stmt-F, fold-Stmt}
use Rattle.swift_ast.specs.declared.statements.If.{If, If-F, fold-If}
use Rattle.swift_ast.specs.declared.statements.ElseIf.{ElseIf, ElseIf-F, fold-ElseIf}
use Rattle.swift_ast.specs.Leaves.{Leaf}
use Rattle.typed_code.specs.declared.step.Step.{Step}
use Rattle.typed_code.specs.declared.step.Step.TheVariants as step
use Rattle.typed_code.specs.declared.step.Branch.{Branch}
use Rattle.checks.specs.Checks.{sure, unsaid, ◌>>=◌, both, noting, tried}
use Rattle.expr_check.specs.Message as is
use Rattle.expr_check.specs.declared.place.Place.{Place}
use Rattle.expr_check.specs.declared.typed.Typed.{Typed}
use Rattle.expr_check.specs.declared.named.Named.{Named}
use Rattle.expr_check.specs.declared.named.Named.TheVariants as named
use Rattle.expr_check.specs.declared.scope.Local.{Local}
use Rattle.expr_check.specs.declared.scope.Scope.{Scope}
use Rattle.expr_check.specs.Messages.{place_of}
use Rattle.expr_check.specs.Scopes.{named_in, innermost, declaring, entering, leaving}
use Rattle.expr_check.specs.Types.{CheckOf, wrong, wrong_name, Found, valued, type_written}
use Rattle.expr_check.specs.Expressions.{typed, self_value, converted, name_of, name_value, member_named}
use Rattle.expr_check.specs.Phrases.{Phrase, expr_phrase, postfix_phrase}

-- What reading a statement gives: the scope behind it, and its code, unless it has an error.
abbrev pub Read : Type 0
Read = CheckOf (Scope × Option (List Step))

-- A statement: whether what stands behind it can be reached, and how it is read in a scope.
pub record Statement : Type 0 where
  pub falls_through : Bool
  pub read : Scope → Read

-- statements fall through unless one of them doesn't
abbrev pub falls_through : List Statement → Bool
falls_through statements = list_all (λ x. x.falls_through) statements

-- what is made of two things, if both are there
abbrev pub of_both : {X Y Z : Type 0} → (X → Y → Z) → Option X → Option Y → Option Z
of_both f (Some x) (Some y) = Some (f x y)
of_both f _ _ = None

-- Statements in a row behind some code, each in the scope behind the one before.
abbrev pub row_behind : Option (List Step) → List Statement → Scope → Read
row_behind code [] s = sure (s, code)
row_behind code (x ∷ xs) s = x.read s >>= (λ (after, more). row_behind (of_both (λ a b. a ++ b) code more) xs after)

-- Statements in braces.
abbrev pub in_block : List Statement → Scope → Read
in_block xs s = row_behind (Some []) xs (entering s) >>= (λ (inner, code). sure (leaving s inner, code))

-- a statement that declares nothing
abbrev pub plain : (Scope → CheckOf (List Step)) → Scope → Read
plain check s = tried (check s) >>= (λ code. sure (s, code))

-- ---- declarations of locals

-- a written type, or that none is written
abbrev pub annotated : Scope → Option (Leaf × TypeName) → CheckOf (Option Ty)
annotated s None = sure None
annotated s (Some (colon, t)) = type_written s t.name >>= (λ of. sure (Some of))

-- The type of a local: the written one, and else that of its value. There is none where that has an error.
abbrev pub binding_type : Option (Option Ty) → Option Typed → Option Ty
binding_type None value = None
binding_type (Some (Some of)) value = Some of
binding_type (Some None) None = None
binding_type (Some None) (Some v) = Some v.ty

abbrev pub fitting : Place → Option (Option Ty) → Option Typed → CheckOf Typed
fitting first (Some (Some of)) (Some v) = converted first of v
fitting first (Some None) (Some v) = sure v
fitting first _ _ = unsaid

abbrev pub redeclared : Option Local → Leaf → CheckOf (List Step)
redeclared None name = sure []
redeclared (Some other) name = wrong_name name (λ name. is.Redeclared name)

-- the name must not stand in the innermost block before it
abbrev pub not_declared : Scope → Leaf → CheckOf (List Step)
not_declared s name = redeclared (named_in (innermost s.blocks) name.text) name

abbrev pub is_var : BindingSpecifier → Bool
is_var (Let t) = false
is_var (Var t) = true

-- the code of a local, in whose expression a value was found or not
abbrev pub set_local : Scope → Leaf → Place → Option (Option Ty) → Option Typed → CheckOf (List Step)
set_local s name first wanted found = noting (not_declared s name) (fitting first wanted found >>= (λ v. sure (v.code ++ step.SetLocal (length s.types) [] v.ty ∷ [])))

-- A local. Its name is declared with its type, or with none, whatever else is wrong.
abbrev pub local_read : Bool → Leaf → Option (Leaf × TypeName) → Phrase → Scope → Read
local_read mutable name annotation value s = do
  wanted ← tried (annotated s annotation)
  found ← tried (value.check s)
  code ← tried (set_local s name value.first wanted found)
  sure (declaring s name.text (binding_type wanted found) mutable, code)

-- ---- assignments

-- What is assigned to: its type, and where it begins with the members that it goes through.
pub record Destination : Type 0 where
  pub of : Ty
  pub store : List (List ℕ × List ℕ) → Ty → Step
  pub members : List (List ℕ × List ℕ)

abbrev pub can_assign : Bool → Leaf → CheckOf (List Step)
can_assign true t = sure []
can_assign false t = wrong_name t (λ name. is.NotAssignable name)

abbrev pub is_assignable : Named → Bool
is_assignable (named.Local l) = l.mutable
is_assignable (named.Global key mutable of) = mutable
is_assignable (named.OfSelf key mutable of) = false

abbrev pub storing : Named → List (List ℕ × List ℕ) → Ty → Step
storing (named.Local l) = step.SetLocal l.number
storing (named.Global key mutable of) = step.SetGlobal key.name
storing (named.OfSelf key mutable of) = step.SetGlobal key.name

-- The type of a root. Of a member, `self` and the member itself have to be laid out, whatever is wrong with the other.
abbrev pub root_value : Scope → Leaf → Named → CheckOf Typed
root_value s t (named.OfSelf key mutable of) = both (self_value s t) (valued s (place_of t) of) >>= (λ (base, of). sure (typed of []))
root_value s t name = name_value s t name

abbrev pub named_destination : Scope → Leaf → Named → CheckOf Destination
named_destination s t name = both (root_value s t name) (can_assign (is_assignable name) t) >>= (λ q. sure (record { of = q.0.ty; store = storing name; members = [] }))

-- A root is read as a name first. Where it can't be assigned to, it has no type.
abbrev pub root_destination : Scope → Leaf → CheckOf Destination
root_destination s t = do
  name ← name_of s t
  named_destination s t name

-- one member further
abbrev pub through : Destination → Key → Ty → Destination
through destination key of = record { of = of; store = destination.store; members = destination.members ++ (key.context, key.name) ∷ [] }

-- A member that is assigned to is a stored `var`. One that isn't has no type.
abbrev pub member_meant : Scope → Leaf → Leaf → Destination → Found → CheckOf Destination
member_meant s root m destination (key, means.Value mutable of) = both (valued s (place_of root) of) (can_assign mutable m) >>= (λ q. sure (through destination key of))
member_meant s root m destination _ = wrong_name m (λ name. is.NotAValue name)

abbrev pub member_destination : Scope → Leaf → Leaf → Destination → CheckOf Destination
member_destination s root m destination = do
  found ← member_named s destination.of m
  member_meant s root m destination found

abbrev pub members_destination : Scope → Leaf → CheckOf Destination → List (Leaf × Leaf) → CheckOf Destination
members_destination s root destination [] = destination
members_destination s root destination ((dot, m) ∷ more) = members_destination s root (destination >>= member_destination s root m) more

abbrev pub target_destination : Scope → Target → CheckOf Destination
target_destination s t = members_destination s t.root (root_destination s t.root) t.members

-- a value, in an expression that begins at a place, where it is assigned
abbrev pub assigned : Place → Destination × Typed → CheckOf (List Step)
assigned first (destination, v) = converted first destination.of v >>= (λ v. sure (v.code ++ destination.store destination.members destination.of ∷ []))

abbrev pub assign_check : Target → Phrase → Scope → CheckOf (List Step)
assign_check target value s = both (target_destination s target) (value.check s) >>= assigned value.first

-- ---- control

abbrev pub return_none : Leaf → Option Ty → CheckOf (List Step)
return_none t None = unsaid
return_none t (Some ty.Void) = sure (step.Return ty.Void ∷ [])
return_none t (Some of) = wrong (place_of t) (is.ReturnNeedsValue of)

abbrev pub converted_to : Place → Option Ty → Typed → CheckOf Typed
converted_to first None v = unsaid
converted_to first (Some of) v = converted first of v

abbrev pub return_value : Phrase → Scope → CheckOf (List Step)
return_value value s = do
  v ← value.check s
  v ← converted_to value.first s.result v
  sure (v.code ++ step.Return v.ty ∷ [])

abbrev pub return_check : Leaf → Option Phrase → Scope → CheckOf (List Step)
return_check t None s = return_none t s.result
return_check t (Some value) s = return_value value s

abbrev pub condition : Phrase → Scope → CheckOf (List Step)
condition value s = do
  v ← value.check s
  v ← converted value.first ty.Bool v
  sure v.code

abbrev pub while_read : Phrase → List Statement → Scope → Read
while_read value block s = do
  first ← tried (condition value s)
  inside ← in_block block s
  sure (inside.0, of_both (λ c b. step.While c b ∷ []) first inside.1)

-- A condition and its block, an `if` or an `else if`.
pub record Clause : Type 0 where
  pub condition : Phrase
  pub block : List Statement

abbrev pub clause : Phrase → List Statement → Clause
clause condition block = record { condition = condition; block = block }

abbrev pub branch : List Step → List Step → Branch
branch condition block = record { condition = condition; block = block }

-- Clauses in a row behind some branches.
abbrev pub clauses_behind : Option (List Branch) → List Clause → Scope → CheckOf (Scope × Option (List Branch))
clauses_behind branches [] s = sure (s, branches)
clauses_behind branches (x ∷ xs) s = do
  first ← tried (condition x.condition s)
  inside ← in_block x.block s
  clauses_behind (of_both (λ bs b. bs ++ b ∷ []) branches (of_both branch first inside.1)) xs inside.0

abbrev pub if_read : List Clause → List Statement → Scope → Read
if_read clauses last s = do
  front ← clauses_behind (Some []) clauses s
  inside ← in_block last front.0
  sure (inside.0, of_both (λ branches code. step.If branches code ∷ []) front.1 inside.1)

-- an `if` falls through unless it has a last `else`, and none of its blocks does
abbrev pub if_falls_through : List Clause → Option (List Statement) → Bool
if_falls_through clauses None = true
if_falls_through clauses (Some last) = list_any (λ c. falls_through c.block) clauses || falls_through last

abbrev pub block_or_none : Option (List Statement) → List Statement
block_or_none None = []
block_or_none (Some last) = last

abbrev pub if_statement : List Clause → Option (List Statement) → Statement
if_statement clauses last = record { falls_through = if_falls_through clauses last; read = if_read clauses (block_or_none last) }

abbrev pub call_check : Phrase → Scope → CheckOf (List Step)
call_check value s = do
  v ← value.check s
  sure (v.code ++ step.Drop v.ty ∷ [])

-- ---- what each tree is, by what its parts are

abbrev pub goes_on : (Scope → Read) → Statement
goes_on read = record { falls_through = true; read = read }

abbrev pub one_stmt : Stmt-F Statement (List Statement) Clause Statement → Statement
one_stmt (Stmt-F.Local specifier name annotation assign value) = goes_on (local_read (is_var specifier) name annotation (expr_phrase value))
one_stmt (Stmt-F.Assign target assign value) = goes_on (plain (assign_check target (expr_phrase value)))
one_stmt (Stmt-F.Return keyword value) = record { falls_through = false; read = plain (return_check keyword (option_map expr_phrase value)) }
one_stmt (Stmt-F.If x) = x
one_stmt (Stmt-F.While keyword condition block) = goes_on (while_read (expr_phrase condition) block)
one_stmt (Stmt-F.Call call) = goes_on (plain (call_check (postfix_phrase call.postfix)))

abbrev pub one_block : Block-F Statement (List Statement) Clause Statement → List Statement
one_block x = x.stmts

abbrev pub one_else_if : ElseIf-F Statement (List Statement) Clause Statement → Clause
one_else_if x = clause (expr_phrase x.condition) x.block

abbrev pub one_if : If-F Statement (List Statement) Clause Statement → Statement
one_if x = if_statement (clause (expr_phrase x.condition) x.block ∷ x.else_ifs) (option_map (λ p. p.1) x.last)

unfoldable pub block_statements : Block → List Statement
block_statements = fold-Block Statement (List Statement) Clause Statement one_stmt one_block one_else_if one_if

unfoldable pub stmt_meant : Stmt → Statement
stmt_meant = fold-Stmt Statement (List Statement) Clause Statement one_stmt one_block one_else_if one_if

unfoldable pub else_if_meant : ElseIf → Clause
else_if_meant = fold-ElseIf Statement (List Statement) Clause Statement one_stmt one_block one_else_if one_if

unfoldable pub if_meant : If → Statement
if_meant = fold-If Statement (List Statement) Clause Statement one_stmt one_block one_else_if one_if

-- the statements of a last `else`, if there is one
abbrev pub last_statements : Option (Leaf × Block) → List Statement
last_statements None = []
last_statements (Some (keyword, block)) = block_statements block

-- Reading statements asks what look-ups ask, and leaves a plain scope.
use Rattle.std.proofs.Common.{ℕ, Bool, true, false, List, [], ◌∷◌, ◌++◌, map, Option, Some, None, sym, subst}
use Rattle.std.specs.List.{AllByRecursion}
use Rattle.std.specs.Option.{option_map}
use Rattle.type_rules.specs.declared.ty.Ty.{Ty}
use Rattle.type_rules.specs.declared.ty.Ty.TheVariants as ty
use Rattle.type_rules.specs.declared.meaning.Meaning.TheVariants as means
use Rattle.swift_ast.specs.Leaves.{Leaf}
use Rattle.swift_ast.specs.declared.expressions.Expr.{Expr}
use Rattle.swift_ast.specs.declared.statements.TypeName.{TypeName}
use Rattle.swift_ast.specs.declared.statements.Target.{Target}
use Rattle.swift_ast.specs.declared.statements.Block.{Block, Block-F, fold-roll-Block, map-Block, roll-Block, ind-Block}
use Rattle.swift_ast.specs.declared.statements.Stmt.{Stmt, Stmt-F, fold-Stmt, fold-roll-Stmt, map-Stmt, roll-Stmt}
use Rattle.swift_ast.specs.declared.statements.If.{If, If-F, fold-If, fold-roll-If, map-If, roll-If}
use Rattle.swift_ast.specs.declared.statements.ElseIf.{ElseIf, ElseIf-F, fold-ElseIf, fold-roll-ElseIf, map-ElseIf, roll-ElseIf}
use Rattle.typed_code.specs.declared.step.Step.{Step}
use Rattle.typed_code.specs.declared.step.Branch.{Branch}
use Rattle.checks.specs.Checks.{both, tried, go_on}
use Rattle.expr_check.specs.declared.place.Place.{Place}
use Rattle.expr_check.specs.declared.typed.Typed.{Typed}
use Rattle.expr_check.specs.declared.named.Named.{Named}
use Rattle.expr_check.specs.declared.named.Named.TheVariants as named
use Rattle.expr_check.specs.declared.scope.Local.{Local}
use Rattle.expr_check.specs.declared.scope.Scope.{Scope}
use Rattle.expr_check.specs.Messages.{place_of}
use Rattle.expr_check.specs.Scopes.{in_innermost, declaring, entering, leaving, named_in, innermost}
use Rattle.expr_check.specs.Types.{CheckOf, Found, type_named, valued, type_written}
use Rattle.expr_check.specs.Expressions.{self_value, converted, name_of, member_named}
use Rattle.expr_check.specs.Phrases.{Phrase, expr_phrase, postfix_phrase}
use Rattle.body_check.specs.Statements.{Statement, of_both, row_behind, in_block, plain, annotated, binding_type, fitting, redeclared, not_declared, is_var, local_read, Destination, can_assign, is_assignable, root_value, root_destination, member_meant, member_destination, members_destination, target_destination, assign_check, return_none, converted_to, return_check, condition, while_read, Clause, branch, clauses_behind, if_read, call_check, one_stmt, one_block, one_else_if, one_if, block_statements}
use Rattle.type_infer.specs.Plain.{IsPlainType}
use Rattle.type_infer.specs.Sound.{Anything, IfThere, SoundCheck, PlainTyped, IsPlainScope}
use Rattle.type_infer.proofs.Combining.{sound-bind, sound-both, sound-noting, sound-tried, one-more, BothAre}
use Rattle.type_infer.proofs.Sounding.{PlainFound, PlainNamed, PlainLocal, type-sound, valued-sound, self-sound, name-of-sound, name-value-sound, member-named-sound, converted-sound}
use Rattle.type_infer.proofs.Trees.{expressions-ask, postfix-sound}

-- Scopes.

innermost-plain : (bs : List (List Local)) (l : Local) → AllByRecursion (λ b. AllByRecursion PlainLocal b) bs → PlainLocal l → AllByRecursion (λ b. AllByRecursion PlainLocal b) (in_innermost bs l)
innermost-plain [] l h g = ((g, tt), tt)
innermost-plain (b ∷ []) l h g = (one-more PlainLocal b l h.0 g, tt)
innermost-plain (b ∷ c ∷ bs) l h g = (h.0, innermost-plain (c ∷ bs) l h.1 g)

pub declaring-plain : (s : Scope) (name : List ℕ) (of : Option Ty) (mutable : Bool) → IsPlainScope s → IfThere IsPlainType of → IsPlainScope (declaring s name of mutable)
declaring-plain s name of mutable p h = record { self = p.self; locals = innermost-plain s.blocks _ p.locals h }

entering-plain : (s : Scope) → IsPlainScope s → IsPlainScope (entering s)
entering-plain s p = record { self = p.self; locals = one-more (λ b. AllByRecursion PlainLocal b) s.blocks [] p.locals tt }

leaving-plain : (s inner : Scope) → IsPlainScope s → IsPlainScope (leaving s inner)
leaving-plain s inner p = record { self = p.self; locals = p.locals }

-- a plain scope, and something beside it
abbrev pub PlainBeside : {X : Type 0} → Scope × X → Type 0
PlainBeside r = IsPlainScope r.0

abbrev pub SoundPhrase : Phrase → Type 0
SoundPhrase v = (s : Scope) → IsPlainScope s → SoundCheck PlainTyped (v.check s)

abbrev pub SoundStatement : Statement → Type 0
SoundStatement x = (s : Scope) → IsPlainScope s → SoundCheck PlainBeside (x.read s)

abbrev pub SoundStatements : List Statement → Type 0
SoundStatements xs = AllByRecursion SoundStatement xs

row-sound : (code : Option (List Step)) (xs : List Statement) (s : Scope) → SoundStatements xs → IsPlainScope s → SoundCheck PlainBeside (row_behind code xs s)
row-sound code [] s h p = p
row-sound code (x ∷ xs) s h p = sound-bind PlainBeside PlainBeside (x.read s) _ (h.0 s p) (λ r pr. row-sound (of_both (λ a b. a ++ b) code r.1) xs r.0 h.1 pr)

pub block-sound : (xs : List Statement) (s : Scope) → SoundStatements xs → IsPlainScope s → SoundCheck PlainBeside (in_block xs s)
block-sound xs s h p = sound-bind PlainBeside PlainBeside (row_behind (Some []) xs (entering s)) _ (row-sound (Some []) xs (entering s) h (entering-plain s p)) (λ r pr. leaving-plain s r.0 p)

plain-sound : (check : Scope → CheckOf (List Step)) (s : Scope) → IsPlainScope s → SoundCheck Anything (check s) → SoundCheck PlainBeside (plain check s)
plain-sound check s p h = sound-bind (IfThere Anything) PlainBeside (tried (check s)) _ (sound-tried Anything (check s) h) (λ code _. p)

-- Locals.

pub written-sound : (s : Scope) (t : Leaf) → SoundCheck IsPlainType (type_written s t)
written-sound s t = sound-bind IsPlainType IsPlainType (type_named s.path t) _ (type-sound s.path t) (λ of p. sound-noting IsPlainType IsPlainType (valued s (place_of t) of) _ (valued-sound s (place_of t) of p) p)

pub annotated-sound : (s : Scope) (o : Option (Leaf × TypeName)) → SoundCheck (IfThere IsPlainType) (annotated s o)
annotated-sound s None = tt
annotated-sound s (Some (colon, t)) = sound-bind IsPlainType (IfThere IsPlainType) (type_written s t.name) _ (written-sound s t.name) (λ of p. p)

binding-plain : (wanted : Option (Option Ty)) (value : Option Typed) → IfThere (IfThere IsPlainType) wanted → IfThere PlainTyped value → IfThere IsPlainType (binding_type wanted value)
binding-plain None value h g = tt
binding-plain (Some (Some of)) value h g = h
binding-plain (Some None) None h g = tt
binding-plain (Some None) (Some v) h g = g

pub fitting-sound : (first : Place) (wanted : Option (Option Ty)) (value : Option Typed) → SoundCheck Anything (fitting first wanted value)
fitting-sound first (Some (Some of)) (Some v) = converted-sound first of v
fitting-sound first (Some None) (Some v) = tt
fitting-sound first (Some (Some of)) None = tt
fitting-sound first (Some None) None = tt
fitting-sound first None value = tt

redeclared-sound : (o : Option Local) (name : Leaf) → SoundCheck Anything (redeclared o name)
redeclared-sound None name = tt
redeclared-sound (Some l) name = tt

pub not-declared-sound : (s : Scope) (name : Leaf) → SoundCheck Anything (not_declared s name)
not-declared-sound s name = redeclared-sound (named_in (innermost s.blocks) name.text) name

local-sound : (mutable : Bool) (name : Leaf) (annotation : Option (Leaf × TypeName)) (value : Phrase) (s : Scope) → SoundPhrase value → IsPlainScope s → SoundCheck PlainBeside (local_read mutable name annotation value s)
local-sound mutable name annotation value s h p =
    sound-bind (IfThere (IfThere IsPlainType)) PlainBeside (tried (annotated s annotation)) _ (sound-tried (IfThere IsPlainType) (annotated s annotation) (annotated-sound s annotation)) (λ wanted pw.
    sound-bind (IfThere PlainTyped) PlainBeside (tried (value.check s)) _ (sound-tried PlainTyped (value.check s) (h s p)) (λ found pf.
    sound-bind (IfThere Anything) PlainBeside _ _ (sound-tried Anything _ (sound-noting Anything Anything (not_declared s name) _ (not-declared-sound s name) (sound-bind Anything Anything (fitting value.first wanted found) _ (fitting-sound value.first wanted found) (λ v _. tt)))) (λ code _.
    declaring-plain s name.text (binding_type wanted found) mutable p (binding-plain wanted found pw pf))))

-- Assignments.

abbrev PlainDestination : Destination → Type 0
PlainDestination d = IsPlainType d.of

can-assign-sound : (b : Bool) (t : Leaf) → SoundCheck Anything (can_assign b t)
can-assign-sound true t = tt
can-assign-sound false t = tt

root-value-sound : (s : Scope) (t : Leaf) (n : Named) → IsPlainScope s → PlainNamed n → SoundCheck PlainTyped (root_value s t n)
root-value-sound s t (named.Local l) p h = name-value-sound s t (named.Local l) p h
root-value-sound s t (named.Global key mutable of) p h = name-value-sound s t (named.Global key mutable of) p h
root-value-sound s t (named.OfSelf key mutable of) p h =
    sound-bind (BothAre PlainTyped IsPlainType) PlainTyped (both (self_value s t) (valued s (place_of t) of)) _ (sound-both PlainTyped IsPlainType (self_value s t) (valued s (place_of t) of) (self-sound s t p) (valued-sound s (place_of t) of h)) (λ q pq. pq.1)

root-sound : (s : Scope) (t : Leaf) → IsPlainScope s → SoundCheck PlainDestination (root_destination s t)
root-sound s t p =
    sound-bind PlainNamed PlainDestination (name_of s t) _ (name-of-sound s t p) (λ n pn. sound-bind (BothAre PlainTyped Anything) PlainDestination (both (root_value s t n) (can_assign (is_assignable n) t)) _
    (sound-both PlainTyped Anything (root_value s t n) (can_assign (is_assignable n) t) (root-value-sound s t n p pn) (can-assign-sound (is_assignable n) t)) (λ q pq. pq.0))

member-meant-sound : (s : Scope) (root m : Leaf) (d : Destination) (f : Found) → PlainFound f → SoundCheck PlainDestination (member_meant s root m d f)
member-meant-sound s root m d (key, means.Value mutable of) h =
    sound-bind (BothAre IsPlainType Anything) PlainDestination (both (valued s (place_of root) of) (can_assign mutable m)) _ (sound-both IsPlainType Anything (valued s (place_of root) of) (can_assign mutable m) (valued-sound s (place_of root) of h) (can-assign-sound mutable m)) (λ q pq. h)
member-meant-sound s root m d (key, means.NoProvider) h = tt
member-meant-sound s root m d (key, means.Ambiguous) h = tt
member-meant-sound s root m d (key, means.Broken) h = tt
member-meant-sound s root m d (key, means.Circular) h = tt
member-meant-sound s root m d (key, means.Function ps r) h = tt
member-meant-sound s root m d (key, means.Struct c) h = tt
member-meant-sound s root m d (key, means.Alias of) h = tt
member-meant-sound s root m d (key, means.Fields fs w) h = tt

member-sound : (s : Scope) (root m : Leaf) (d : Destination) → SoundCheck PlainDestination (member_destination s root m d)
member-sound s root m d = sound-bind PlainFound PlainDestination (member_named s d.of m) _ (member-named-sound s d.of m) (λ f pf. member-meant-sound s root m d f pf)

members-sound : (s : Scope) (root : Leaf) (c : CheckOf Destination) (ms : List (Leaf × Leaf)) → SoundCheck PlainDestination c → SoundCheck PlainDestination (members_destination s root c ms)
members-sound s root c [] h = h
members-sound s root c ((dot, m) ∷ ms) h = members-sound s root (go_on c (member_destination s root m)) ms (sound-bind PlainDestination PlainDestination c (member_destination s root m) h (λ d _. member-sound s root m d))

target-sound : (s : Scope) (t : Target) → IsPlainScope s → SoundCheck PlainDestination (target_destination s t)
target-sound s t p = members-sound s t.root (root_destination s t.root) t.members (root-sound s t.root p)

assign-sound : (target : Target) (value : Phrase) (s : Scope) → SoundPhrase value → IsPlainScope s → SoundCheck Anything (assign_check target value s)
assign-sound target value s h p =
    sound-bind (BothAre PlainDestination PlainTyped) Anything (both (target_destination s target) (value.check s)) _ (sound-both PlainDestination PlainTyped (target_destination s target) (value.check s) (target-sound s target p) (h s p)) (λ q _.
    sound-bind Anything Anything (converted value.first q.0.of q.1) _ (converted-sound value.first q.0.of q.1) (λ v _. tt))

-- Control.

return-none-sound : (t : Leaf) (o : Option Ty) → SoundCheck Anything (return_none t o)
return-none-sound t None = tt
return-none-sound t (Some ty.Void) = tt
return-none-sound t (Some ty.Int) = tt
return-none-sound t (Some ty.String) = tt
return-none-sound t (Some ty.Bool) = tt
return-none-sound t (Some (ty.Struct c)) = tt

converted-to-sound : (first : Place) (o : Option Ty) (v : Typed) → SoundCheck Anything (converted_to first o v)
converted-to-sound first None v = tt
converted-to-sound first (Some of) v = converted-sound first of v

return-sound : (t : Leaf) (o : Option Expr) (s : Scope) → IsPlainScope s → SoundCheck Anything (return_check t (option_map expr_phrase o) s)
return-sound t None s p = return-none-sound t s.result
return-sound t (Some e) s p =
    sound-bind PlainTyped Anything ((expr_phrase e).check s) _ (expressions-ask e s p) (λ v _. sound-bind Anything Anything (converted_to (expr_phrase e).first s.result v) _ (converted-to-sound (expr_phrase e).first s.result v) (λ w _. tt))

condition-sound : (value : Phrase) (s : Scope) → SoundPhrase value → IsPlainScope s → SoundCheck Anything (condition value s)
condition-sound value s h p = sound-bind PlainTyped Anything (value.check s) _ (h s p) (λ v _. sound-bind Anything Anything (converted value.first ty.Bool v) _ (converted-sound value.first ty.Bool v) (λ w _. tt))

while-sound : (value : Phrase) (xs : List Statement) (s : Scope) → SoundPhrase value → SoundStatements xs → IsPlainScope s → SoundCheck PlainBeside (while_read value xs s)
while-sound value xs s h g p =
    sound-bind (IfThere Anything) PlainBeside (tried (condition value s)) _ (sound-tried Anything (condition value s) (condition-sound value s h p)) (λ first _. sound-bind PlainBeside PlainBeside (in_block xs s) _ (block-sound xs s g p) (λ r pr. pr))

abbrev SoundClause : Clause → Type 0
SoundClause c = SoundPhrase c.condition × SoundStatements c.block

clauses-sound : (branches : Option (List Branch)) (cs : List Clause) (s : Scope) → AllByRecursion SoundClause cs → IsPlainScope s → SoundCheck PlainBeside (clauses_behind branches cs s)
clauses-sound branches [] s h p = p
clauses-sound branches (c ∷ cs) s h p =
    sound-bind (IfThere Anything) PlainBeside (tried (condition c.condition s)) _ (sound-tried Anything (condition c.condition s) (condition-sound c.condition s h.0.0 p)) (λ first _. sound-bind PlainBeside PlainBeside (in_block c.block s) _ (block-sound c.block s h.0.1 p) (λ r pr.
    clauses-sound (of_both (λ bs b. bs ++ b ∷ []) branches (of_both branch first r.1)) cs r.0 h.1 pr))

if-sound : (cs : List Clause) (last : List Statement) (s : Scope) → AllByRecursion SoundClause cs → SoundStatements last → IsPlainScope s → SoundCheck PlainBeside (if_read cs last s)
if-sound cs last s h g p = sound-bind PlainBeside PlainBeside (clauses_behind (Some []) cs s) _ (clauses-sound (Some []) cs s h p) (λ front pf. sound-bind PlainBeside PlainBeside (in_block last front.0) _ (block-sound last front.0 g pf) (λ r pr. pr))

called-sound : (value : Phrase) (s : Scope) → SoundPhrase value → IsPlainScope s → SoundCheck Anything (call_check value s)
called-sound value s h p = sound-bind PlainTyped Anything (value.check s) _ (h s p) (λ v _. tt)

pub expr-sound : (e : Expr) → SoundPhrase (expr_phrase e)
expr-sound e = λ s p. expressions-ask e s p

-- Each tree as it is read, and beside that it is sound.

stmt-read : Stmt → Statement
stmt-read = fold-Stmt Statement (List Statement) Clause Statement one_stmt one_block one_else_if one_if

else-if-read : ElseIf → Clause
else-if-read = fold-ElseIf Statement (List Statement) Clause Statement one_stmt one_block one_else_if one_if

if-statement : If → Statement
if-statement = fold-If Statement (List Statement) Clause Statement one_stmt one_block one_else_if one_if

abbrev WithStmt : Type 0
WithStmt = (x : Stmt) × SoundStatement (stmt-read x)

abbrev WithBlock : Type 0
WithBlock = (x : Block) × SoundStatements (block_statements x)

abbrev WithElseIf : Type 0
WithElseIf = (x : ElseIf) × SoundClause (else-if-read x)

abbrev WithIf : Type 0
WithIf = (x : If) × SoundStatement (if-statement x)

all-statements : (xs : List WithStmt) → SoundStatements (map stmt-read (map (λ (e : WithStmt). e.0) xs))
all-statements [] = tt
all-statements (x ∷ xs) = (x.1, all-statements xs)

all-clauses : (xs : List WithElseIf) → AllByRecursion SoundClause (map else-if-read (map (λ (e : WithElseIf). e.0) xs))
all-clauses [] = tt
all-clauses (x ∷ xs) = (x.1, all-clauses xs)

stmt-step : (y : Stmt-F WithStmt WithBlock WithElseIf WithIf) → SoundStatement (one_stmt (map-Stmt Stmt Block ElseIf If Statement (List Statement) Clause Statement stmt-read block_statements else-if-read if-statement (map-Stmt WithStmt WithBlock WithElseIf WithIf Stmt Block ElseIf If (λ e. e.0) (λ e. e.0) (λ e. e.0) (λ e. e.0) y)))
stmt-step (Stmt-F.Local specifier name annotation assign value) = λ s p. local-sound (is_var specifier) name annotation (expr_phrase value) s (expr-sound value) p
stmt-step (Stmt-F.Assign target assign value) = λ s p. plain-sound (assign_check target (expr_phrase value)) s p (assign-sound target (expr_phrase value) s (expr-sound value) p)
stmt-step (Stmt-F.Return keyword value) = λ s p. plain-sound (return_check keyword (option_map expr_phrase value)) s p (return-sound keyword value s p)
stmt-step (Stmt-F.If x) = x.1
stmt-step (Stmt-F.While keyword value block) = λ s p. while-sound (expr_phrase value) (block_statements block.0) s (expr-sound value) block.1 p
stmt-step (Stmt-F.Call call) = λ s p. plain-sound (call_check (postfix_phrase call.postfix)) s p (called-sound (postfix_phrase call.postfix) s (λ s p. postfix-sound s p call.postfix) p)

block-step : (y : Block-F WithStmt WithBlock WithElseIf WithIf) → SoundStatements (one_block (map-Block Stmt Block ElseIf If Statement (List Statement) Clause Statement stmt-read block_statements else-if-read if-statement (map-Block WithStmt WithBlock WithElseIf WithIf Stmt Block ElseIf If (λ e. e.0) (λ e. e.0) (λ e. e.0) (λ e. e.0) y)))
block-step y = all-statements y.stmts

else-if-step : (y : ElseIf-F WithStmt WithBlock WithElseIf WithIf) → SoundClause (one_else_if (map-ElseIf Stmt Block ElseIf If Statement (List Statement) Clause Statement stmt-read block_statements else-if-read if-statement (map-ElseIf WithStmt WithBlock WithElseIf WithIf Stmt Block ElseIf If (λ e. e.0) (λ e. e.0) (λ e. e.0) (λ e. e.0) y)))
else-if-step y = (expr-sound y.condition, y.block.1)

if-step : (y : If-F WithStmt WithBlock WithElseIf WithIf) → SoundStatement (one_if (map-If Stmt Block ElseIf If Statement (List Statement) Clause Statement stmt-read block_statements else-if-read if-statement (map-If WithStmt WithBlock WithElseIf WithIf Stmt Block ElseIf If (λ e. e.0) (λ e. e.0) (λ e. e.0) (λ e. e.0) y)))
if-step y = elim y.last as (λ o. SoundStatement (one_if (map-If Stmt Block ElseIf If Statement (List Statement) Clause Statement stmt-read block_statements else-if-read if-statement (map-If WithStmt WithBlock WithElseIf WithIf Stmt Block ElseIf If (λ e. e.0) (λ e. e.0) (λ e. e.0) (λ e. e.0) (record { keyword = y.keyword; condition = y.condition; block = y.block; else_ifs = y.else_ifs; last = o }))))) [ None ↦ λ s p. if-sound (record { condition = expr_phrase y.condition; block = block_statements y.block.0 } ∷ map else-if-read (map (λ (e : WithElseIf). e.0) y.else_ifs)) [] s ((expr-sound y.condition, y.block.1), all-clauses y.else_ifs) tt p | Some l ↦ λ s p. if-sound (record { condition = expr_phrase y.condition; block = block_statements y.block.0 } ∷ map else-if-read (map (λ (e : WithElseIf). e.0) y.else_ifs)) (block_statements l.1.0) s ((expr-sound y.condition, y.block.1), all-clauses y.else_ifs) l.1.1 p ]

-- Reading the statements of a block asks what look-ups ask.
pub statements-sound : (b : Block) → SoundStatements (block_statements b)
unfolding block_statements stmt-read else-if-read if-statement
statements-sound = ind-Block (λ x. SoundStatement (stmt-read x)) (λ x. SoundStatements (block_statements x)) (λ x. SoundClause (else-if-read x)) (λ x. SoundStatement (if-statement x))
    (λ x y is. subst (λ z. SoundStatement (stmt-read (roll-Stmt z))) is (subst SoundStatement (sym (fold-roll-Stmt Statement (List Statement) Clause Statement one_stmt one_block one_else_if one_if (map-Stmt WithStmt WithBlock WithElseIf WithIf Stmt Block ElseIf If (λ e. e.0) (λ e. e.0) (λ e. e.0) (λ e. e.0) y))) (stmt-step y)))
    (λ x y is. subst (λ z. SoundStatements (block_statements (roll-Block z))) is (subst SoundStatements (sym (fold-roll-Block Statement (List Statement) Clause Statement one_stmt one_block one_else_if one_if (map-Block WithStmt WithBlock WithElseIf WithIf Stmt Block ElseIf If (λ e. e.0) (λ e. e.0) (λ e. e.0) (λ e. e.0) y))) (block-step y)))
    (λ x y is. subst (λ z. SoundClause (else-if-read (roll-ElseIf z))) is (subst SoundClause (sym (fold-roll-ElseIf Statement (List Statement) Clause Statement one_stmt one_block one_else_if one_if (map-ElseIf WithStmt WithBlock WithElseIf WithIf Stmt Block ElseIf If (λ e. e.0) (λ e. e.0) (λ e. e.0) (λ e. e.0) y))) (else-if-step y)))
    (λ x y is. subst (λ z. SoundStatement (if-statement (roll-If z))) is (subst SoundStatement (sym (fold-roll-If Statement (List Statement) Clause Statement one_stmt one_block one_else_if one_if (map-If WithStmt WithBlock WithElseIf WithIf Stmt Block ElseIf If (λ e. e.0) (λ e. e.0) (λ e. e.0) (λ e. e.0) y))) (if-step y)))

-- The trees of statements as trees of their rules.
use Rattle.std.proofs.Common.{◌≡◌, Bool, true, false, ◌&&◌, ◌||◌, not, List, [], ◌∷◌, ◌++◌, map, Option, Some, None, refl, sym, ◌∙◌, ap, ◌⊎◌, inl, inr}
use Rattle.std.proofs.lemmas.Bool.{and_parts, and_from, false≢true}
use Rattle.std.proofs.lemmas.List.{append_assoc, append-nil}
use Rattle.grammar.specs.Forms.{Form, token, both, both_on, perhaps_tokens, perhaps_well_formed, trail, lines, either, until, until_well_formed, still_going, in_row, all_well_formed, nothing}
use Rattle.grammar.specs.Shows.{Shows, reading, given}
use Rattle.grammar.proofs.Rows.{last_same}
use Rattle.grammar.proofs.Shown.{shows_read, shows_through, many_map, lines_map, trail_map, made_reading}
use Rattle.swift_ast.specs.declared.terminals.Terminal.{Terminal}
use Rattle.swift_ast.specs.declared.terminals.Terminal.TheVariants as T
use Rattle.swift_ast.specs.declared.expressions.Expr.{Expr}
use Rattle.swift_ast.specs.declared.expressions.And.{And}
use Rattle.swift_ast.specs.declared.expressions.Cmp.{Cmp}
use Rattle.swift_ast.specs.declared.expressions.Sum.{Sum}
use Rattle.swift_ast.specs.declared.expressions.Product.{Product}
use Rattle.swift_ast.specs.declared.expressions.Prefix.{Prefix}
use Rattle.swift_ast.specs.declared.expressions.Args.{Args, out-Args}
use Rattle.swift_ast.specs.declared.expressions.Arg.{Arg}
use Rattle.swift_ast.specs.declared.expressions.Atom.{Atom, Atom-F, out-Atom, roll-Atom, out-roll-Atom, roll-out-Atom}
use Rattle.swift_ast.specs.declared.expressions.Postfix.{Postfix, roll-out-Postfix}
use Rattle.swift_ast.specs.declared.expressions.PostfixPart.{PostfixPart, PostfixPart-F, out-PostfixPart, roll-PostfixPart, out-roll-PostfixPart, roll-out-PostfixPart}
use Rattle.swift_ast.specs.declared.statements.BindingSpecifier.{BindingSpecifier}
use Rattle.swift_ast.specs.declared.statements.BindingSpecifier.TheVariants as specifier
use Rattle.swift_ast.specs.declared.statements.TypeName.{TypeName}
use Rattle.swift_ast.specs.declared.statements.Target.{Target}
use Rattle.swift_ast.specs.declared.statements.Call.{Call}
use Rattle.swift_ast.specs.declared.statements.Stmt.{Stmt, Stmt-F, out-Stmt, roll-Stmt, fold_out-Stmt, map-Stmt, out-roll-Stmt, roll-out-Stmt}
use Rattle.swift_ast.specs.declared.statements.Block.{Block, out-Block, roll-Block, fold_out-Block, out-roll-Block, roll-out-Block}
use Rattle.swift_ast.specs.declared.statements.ElseIf.{ElseIf, out-ElseIf, roll-ElseIf, fold_out-ElseIf, out-roll-ElseIf, roll-out-ElseIf}
use Rattle.swift_ast.specs.declared.statements.If.{If, out-If, roll-If, fold_out-If, map-If, out-roll-If, roll-out-If}
use Rattle.swift_ast.specs.declared.statements.Stmt.TheVariants as stmt
use Rattle.swift_ast.specs.Leaves.{Leaf}
use Rattle.swift_ast.specs.Terminals.{terminal}
use Rattle.swift_ast.specs.Tests.{on, is, is_specifier, begins_part, begins_stmt, begins_next_stmt}
use Rattle.swift_ast.specs.Expressions.{word, R, member_rule, expr_form, postfix_form, atom_form, part_form, postfix_reading}
use Rattle.swift_ast.specs.Statements.{specifier_form, type_form, binding_rule, target_rule, target_form, assign_rule, return_rule, is_args_layer, is_args, is_call, call_form, block_rule, while_rule, else_if_rule, else_parts_rule, if_rule, one_block, one_else_if, one_if, one_stmt, stmt_reading, block_reading, else_if_reading, if_reading, stmt_form, block_form, else_if_form, if_form}
use Rattle.swift_ast.proofs.ExpressionShows.{Sorts, sorts_show, part_rule, part_made, part_open, part_there, atom_parts, atom_out, atom_open, atom_given, postfix_out, postfix_made, postfix_open, postfix_there, postfix_shows}

abbrev pub specifier_out : BindingSpecifier → Leaf
specifier_out (specifier.Let t) = t
specifier_out (specifier.Var t) = t

abbrev pub specifier_sort : BindingSpecifier → Terminal
specifier_sort (specifier.Let t) = T.Let
specifier_sort (specifier.Var t) = T.Var

abbrev pub specifier_at : Terminal → Leaf → BindingSpecifier
specifier_at T.Let t = specifier.Let t
specifier_at T.Var t = specifier.Var t
specifier_at _ t = specifier.Let t

abbrev pub specifier_made : Leaf → BindingSpecifier
specifier_made t = specifier_at (terminal t) t

specifier_tokens : (x : BindingSpecifier) → specifier_form.tokens x ≡ specifier_out x ∷ []
specifier_tokens (specifier.Let t) = refl
specifier_tokens (specifier.Var t) = refl

specifier_continues : (x : BindingSpecifier) → specifier_form.continues x ≡ nothing
specifier_continues (specifier.Let t) = refl
specifier_continues (specifier.Var t) = refl

specifier_right : (x : BindingSpecifier) → specifier_form.is_well_formed x ≡ on (is (specifier_sort x)) (specifier_out x)
specifier_right (specifier.Let t) = refl
specifier_right (specifier.Var t) = refl

specifier_back : (x : BindingSpecifier) → specifier_at (specifier_sort x) (specifier_out x) ≡ x
specifier_back (specifier.Let t) = refl
specifier_back (specifier.Var t) = refl

specifier_inside : (x : BindingSpecifier) (first : Bool) → is_specifier (specifier_sort x) first ≡ true
specifier_inside (specifier.Let t) first = refl
specifier_inside (specifier.Var t) first = refl

specifier_there : (k : Terminal) (t : Leaf) → specifier_out (specifier_at k t) ≡ t
specifier_there T.Let t = refl
specifier_there T.Var t = refl
specifier_there _ t = refl

specifier_kept : (k : Terminal) (first : Bool) (t : Leaf) → is_specifier k first ≡ true → specifier_sort (specifier_at k t) ≡ k
specifier_kept T.Let first t m = refl
specifier_kept T.Var first t m = refl
specifier_kept _ first t m = absurd (false≢true m)

pub specifier_shows : Shows specifier_form (token (on is_specifier)) specifier_out specifier_made
specifier_shows = sorts_show is_specifier specifier_form specifier_out specifier_sort specifier_at (record { tokens = specifier_tokens; continues = specifier_continues; right = specifier_right; inside = specifier_inside; there = specifier_there; back = specifier_back; kept = specifier_kept })

abbrev pub type_out : TypeName → Leaf
type_out t = t.name

abbrev pub type_made : Leaf → TypeName
type_made t = record { name = t }

pub type_shows : Shows type_form (word T.Identifier) type_out type_made
type_shows = shows_through (word T.Identifier) type_out type_made (λ y. refl) (λ x. refl)

abbrev pub target_out : Target → Leaf × List (Leaf × Leaf)
target_out t = (t.root, t.members)

abbrev pub target_made : Leaf × List (Leaf × Leaf) → Target
target_made p = record { root = p.0; members = p.1 }

pub target_shows : Shows target_form target_rule target_out target_made
target_shows = shows_through target_rule target_out target_made (λ y. refl) (λ x. refl)

-- ---- blocks

abbrev pub stmts_form : Form Leaf (List Stmt)
stmts_form = lines (on begins_stmt) (on begins_next_stmt) stmt_form

abbrev pub block_out : Block → Leaf × (List Stmt × Leaf)
block_out x = ((out-Block x).opening, ((out-Block x).stmts, (out-Block x).closing))

abbrev pub block_made : Leaf × (List Stmt × Leaf) → Block
block_made p = roll-Block (record { opening = p.0; stmts = p.1.0; closing = p.1.1 })

block_open : (x : Block) → block_reading x ≡ reading (block_rule stmt_form) (block_out x)
block_open x = fold_out-Block R R R R one_stmt one_block one_else_if one_if x ∙
    ap (λ r. made_reading ((out-Block x).opening ∷ (r.tokens ++ ((out-Block x).closing ∷ []))) (on (is T.LeftBrace) (out-Block x).opening && (r.is_well_formed && on (is T.RightBrace) (out-Block x).closing)) nothing)
    (lines_map (on begins_stmt) (on begins_next_stmt) stmt_form given stmt_reading (λ z. refl) (out-Block x).stmts)

pub block_shows : Shows block_form (block_rule stmt_form) block_out block_made
block_shows = shows_read block_reading (block_rule stmt_form) block_out block_made block_open (λ p. ap (λ z. (z.opening, (z.stmts, z.closing))) (out-roll-Block (record { opening = p.0; stmts = p.1.0; closing = p.1.1 }))) (λ x. roll-out-Block x)

abbrev pub ElseIfParts : Type 0
ElseIfParts = Leaf × (Leaf × (Expr × Block))

abbrev pub else_if_out : ElseIf → ElseIfParts
else_if_out x = ((out-ElseIf x).else_keyword, ((out-ElseIf x).if_keyword, ((out-ElseIf x).condition, (out-ElseIf x).block)))

abbrev pub else_if_made : ElseIfParts → ElseIf
else_if_made p = roll-ElseIf (record { else_keyword = p.0; if_keyword = p.1.0; condition = p.1.1.0; block = p.1.1.1 })

else_if_open : (x : ElseIf) → else_if_reading x ≡ reading (else_if_rule block_form) (else_if_out x)
else_if_open x = fold_out-ElseIf R R R R one_stmt one_block one_else_if one_if x

else_if_there : (p : ElseIfParts) → else_if_out (else_if_made p) ≡ p
else_if_there p = ap (λ z. (z.else_keyword, (z.if_keyword, (z.condition, z.block)))) (out-roll-ElseIf (record { else_keyword = p.0; if_keyword = p.1.0; condition = p.1.1.0; block = p.1.1.1 }))

pub else_if_shows : Shows else_if_form (else_if_rule block_form) else_if_out else_if_made
else_if_shows = shows_read else_if_reading (else_if_rule block_form) else_if_out else_if_made else_if_open else_if_there (λ x. roll-out-ElseIf x)

-- ---- what stands behind the block of an `if`

abbrev pub ElseParts : Type 0
ElseParts = List ElseIf × Option (Leaf × Block)

abbrev pub else_parts_form : Form Leaf ElseParts
else_parts_form = else_parts_rule block_form else_if_form

abbrev pub IfParts : Type 0
IfParts = Leaf × (Expr × (Block × ElseParts))

abbrev pub if_out : If → IfParts
if_out x = ((out-If x).keyword, ((out-If x).condition, ((out-If x).block, ((out-If x).else_ifs, (out-If x).last))))

abbrev pub if_made : IfParts → If
if_made p = roll-If (record { keyword = p.0; condition = p.1.0; block = p.1.1.0; else_ifs = p.1.1.1.0; last = p.1.1.1.1 })

if_given : (k : Leaf) (c : Expr) (b : Block) (es : List ElseIf) (o : Option (Leaf × Block)) → one_if (map-If Stmt Block ElseIf If R R R R stmt_reading block_reading else_if_reading if_reading (record { keyword = k; condition = c; block = b; else_ifs = es; last = o })) ≡ reading (if_rule block_form else_if_form) (k, (c, (b, (es, o))))
if_given k c b es None = ap (λ r. made_reading (k ∷ (expr_form.tokens c ++ (block_form.tokens b ++ (r.tokens ++ [])))) (on (is T.If) k && (expr_form.is_well_formed c && (block_form.is_well_formed b && (r.is_well_formed && true)))) (λ t. on (is T.Else) t))
    (many_map (on (is T.Else)) else_if_form given else_if_reading (λ z. refl) es)
if_given k c b es (Some p) = ap (λ r. made_reading (k ∷ (expr_form.tokens c ++ (block_form.tokens b ++ (r.tokens ++ (p.0 ∷ block_form.tokens p.1))))) (on (is T.If) k && (expr_form.is_well_formed c && (block_form.is_well_formed b && (r.is_well_formed && (on (is T.Else) p.0 && block_form.is_well_formed p.1))))) (block_form.continues p.1))
    (many_map (on (is T.Else)) else_if_form given else_if_reading (λ z. refl) es)

if_open : (x : If) → if_reading x ≡ reading (if_rule block_form else_if_form) (if_out x)
if_open x = fold_out-If R R R R one_stmt one_block one_else_if one_if x ∙ if_given (out-If x).keyword (out-If x).condition (out-If x).block (out-If x).else_ifs (out-If x).last

pub if_shows : Shows if_form (if_rule block_form else_if_form) if_out if_made
if_shows = shows_read if_reading (if_rule block_form else_if_form) if_out if_made if_open (λ p. ap (λ z. (z.keyword, (z.condition, (z.block, (z.else_ifs, z.last))))) (out-roll-If (record { keyword = p.0; condition = p.1.0; block = p.1.1.0; else_ifs = p.1.1.1.0; last = p.1.1.1.1 }))) (λ x. roll-out-If x)

-- one row of `else` with either another `if` or a block, and none behind a block
abbrev pub ElseRow : Type 0
ElseRow = Leaf × ((Leaf × (Expr × Block)) ⊎ Block)

abbrev pub behind_else_form : Form Leaf ((Leaf × (Expr × Block)) ⊎ Block)
behind_else_form = either (both (word T.If) (both expr_form block_form)) block_form

abbrev pub else_row_form : Form Leaf ElseRow
else_row_form = both (word T.Else) behind_else_form

abbrev pub is_block : (Leaf × (Expr × Block)) ⊎ Block → Bool
is_block (inl p) = false
is_block (inr b) = true

abbrev pub is_last : ElseRow → Bool
is_last r = is_block r.1

abbrev pub else_rows_form : Form Leaf (List ElseRow)
else_rows_form = until (on (is T.Else)) is_last else_row_form

abbrev pub rows_at : List ElseIf → Option (Leaf × Block) → List ElseRow
rows_at [] None = []
rows_at [] (Some p) = (p.0, inr p.1) ∷ []
rows_at (e ∷ es) o = ((else_if_out e).0, inl (else_if_out e).1) ∷ rows_at es o

abbrev pub rows_out : ElseParts → List ElseRow
rows_out p = rows_at p.0 p.1

abbrev pub row_added : Leaf → (Leaf × (Expr × Block)) ⊎ Block → ElseParts → ElseParts
row_added e (inl q) rest = (else_if_made (e, q) ∷ rest.0, rest.1)
row_added e (inr b) rest = ([], Some (e, b))

abbrev pub rows_made : List ElseRow → ElseParts
rows_made [] = ([], None)
rows_made (r ∷ rs) = row_added r.0 r.1 (rows_made rs)

block_nothing : (b : Block) → block_form.continues b ≡ nothing
block_nothing b = block_shows.continues b

behind_nothing : (p : (Leaf × (Expr × Block)) ⊎ Block) → behind_else_form.continues p ≡ nothing
behind_nothing (inl q) = block_nothing q.1.1
behind_nothing (inr b) = block_nothing b

row_nothing : (r : ElseRow) → else_row_form.continues r ≡ nothing
row_nothing r = behind_nothing r.1

rows_tokens : (es : List ElseIf) (o : Option (Leaf × Block)) → else_parts_form.tokens (es, o) ≡ in_row else_row_form (rows_at es o)
rows_tokens [] None = refl
rows_tokens [] (Some p) = ap (λ ts. p.0 ∷ ts) (sym (append-nil (block_form.tokens p.1)))
rows_tokens (e ∷ es) o = append_assoc (else_if_form.tokens e) (in_row else_if_form es) (perhaps_tokens (both (word T.Else) block_form) o) ∙ ap (λ ts. ts ++ else_parts_form.tokens (es, o)) (else_if_shows.tokens e) ∙ ap (λ ts. (else_if_rule block_form).tokens (else_if_out e) ++ ts) (rows_tokens es o)

going_at : (es : List ElseIf) → still_going is_last true (rows_at es None) ≡ true
going_at [] = refl
going_at (e ∷ es) = going_at es

gone_at : (es : List ElseIf) (p : Leaf × Block) → still_going is_last true (rows_at es (Some p)) ≡ false
gone_at [] p = refl
gone_at (e ∷ es) p = gone_at es p

rows_goes : (es : List ElseIf) (o : Option (Leaf × Block)) → else_parts_form.continues (es, o) ≡ else_rows_form.continues (rows_at es o)
rows_goes es None = sym (ap (λ on_ t. on_ t || (still_going is_last true (rows_at es None) && on (is T.Else) t)) (last_same else_row_form nothing (rows_at es None) row_nothing) ∙ ap (λ b t. b && on (is T.Else) t) (going_at es))
rows_goes es (Some p) = block_nothing p.1 ∙ sym (ap (λ on_ t. on_ t || (still_going is_last true (rows_at es (Some p)) && on (is T.Else) t)) (last_same else_row_form nothing (rows_at es (Some p)) row_nothing) ∙ ap (λ b t. b && on (is T.Else) t) (gone_at es p))

rows_right_none : (es : List ElseIf) → all_well_formed else_if_form es ≡ true → until_well_formed is_last else_row_form true (rows_at es None) ≡ true
rows_right_none [] r = refl
rows_right_none (e ∷ es) r = let r2 = and_parts (else_if_form.is_well_formed e) (all_well_formed else_if_form es) r in and_from (else_row_form.is_well_formed ((else_if_out e).0, inl (else_if_out e).1)) _ (else_if_shows.right e r2.0) (rows_right_none es r2.1)

rows_right_some : (es : List ElseIf) (p : Leaf × Block) → all_well_formed else_if_form es ≡ true → (both (word T.Else) block_form).is_well_formed p ≡ true → until_well_formed is_last else_row_form true (rows_at es (Some p)) ≡ true
rows_right_some [] p r h = and_from ((both (word T.Else) block_form).is_well_formed p) true h refl
rows_right_some (e ∷ es) p r h = let r2 = and_parts (else_if_form.is_well_formed e) (all_well_formed else_if_form es) r in and_from (else_row_form.is_well_formed ((else_if_out e).0, inl (else_if_out e).1)) _ (else_if_shows.right e r2.0) (rows_right_some es p r2.1 h)

rows_right : (es : List ElseIf) (o : Option (Leaf × Block)) → else_parts_form.is_well_formed (es, o) ≡ true → else_rows_form.is_well_formed (rows_at es o) ≡ true
rows_right es None r = rows_right_none es ((and_parts (all_well_formed else_if_form es) true r).0)
rows_right es (Some p) r = let r2 = and_parts (all_well_formed else_if_form es) ((both (word T.Else) block_form).is_well_formed p) r in rows_right_some es p r2.0 r2.1

added_right : (e : Leaf) (q : (Leaf × (Expr × Block)) ⊎ Block) (rest : ElseParts) → else_row_form.is_well_formed (e, q) ≡ true → else_parts_form.is_well_formed rest ≡ true → else_parts_form.is_well_formed (row_added e q rest) ≡ true
added_right e (inl q) rest r h =
    let h2 = and_parts (all_well_formed else_if_form rest.0) (perhaps_well_formed (both (word T.Else) block_form) rest.1) h in
    and_from (else_if_form.is_well_formed (else_if_made (e, q)) && all_well_formed else_if_form rest.0) _ (and_from (else_if_form.is_well_formed (else_if_made (e, q))) _ (else_if_shows.made_right (e, q) r) h2.0) h2.1
added_right e (inr b) rest r h = r

-- a row behind one that ended is empty
ended_right : (rs : List ElseRow) → until_well_formed is_last else_row_form false rs ≡ true → rs ≡ []
ended_right [] r = refl
ended_right (x ∷ rs) r = absurd (false≢true r)

made_rows_right : (rs : List ElseRow) → until_well_formed is_last else_row_form true rs ≡ true → else_parts_form.is_well_formed (rows_made rs) ≡ true
made_rows_right [] r = refl
made_rows_right ((e, inl q) ∷ rs) r = let r2 = and_parts (else_row_form.is_well_formed (e, inl q)) (until_well_formed is_last else_row_form true rs) r in added_right e (inl q) (rows_made rs) r2.0 (made_rows_right rs r2.1)
made_rows_right ((e, inr b) ∷ rs) r = (and_parts (else_row_form.is_well_formed (e, inr b)) (until_well_formed is_last else_row_form false rs) r).0

rows_there : (rs : List ElseRow) → until_well_formed is_last else_row_form true rs ≡ true → rows_out (rows_made rs) ≡ rs
rows_there [] r = refl
rows_there ((e, inl q) ∷ rs) r =
    let r2 = and_parts (else_row_form.is_well_formed (e, inl q)) (until_well_formed is_last else_row_form true rs) r in
    ap (λ p. (p.0, inl p.1) ∷ rows_out (rows_made rs)) (else_if_there (e, q)) ∙ ap (λ z. (e, inl q) ∷ z) (rows_there rs r2.1)
rows_there ((e, inr b) ∷ rs) r = ap (λ z. (e, inr b) ∷ z) (sym (ended_right rs ((and_parts (else_row_form.is_well_formed (e, inr b)) (until_well_formed is_last else_row_form false rs) r).1)))

pub rows_back : (es : List ElseIf) (o : Option (Leaf × Block)) → rows_made (rows_at es o) ≡ (es, o)
rows_back [] None = refl
rows_back [] (Some p) = refl
rows_back (e ∷ es) o = ap (λ z. (else_if_made (else_if_out e) ∷ z.0, z.1)) (rows_back es o) ∙ ap (λ z. (z ∷ es, o)) (roll-out-ElseIf e)

pub rows_show : Shows else_parts_form else_rows_form rows_out rows_made
rows_show = record {
  tokens = λ p. rows_tokens p.0 p.1;
  continues = λ p. rows_goes p.0 p.1;
  right = λ p r. rows_right p.0 p.1 r;
  made_right = λ rs r. made_rows_right rs r;
  there = λ rs r. rows_there rs r;
  back = λ p r. rows_back p.0 p.1;
}

-- ---- statements

abbrev pub BindingParts : Type 0
BindingParts = BindingSpecifier × (Leaf × (Option (Leaf × TypeName) × (Leaf × Expr)))

abbrev pub AssignParts : Type 0
AssignParts = Target × (Leaf × Expr)

abbrev pub StmtParts : Type 0
StmtParts = BindingParts ⊎ ((Leaf × Option Expr) ⊎ (If ⊎ ((Leaf × (Expr × Block)) ⊎ (AssignParts ⊎ Call))))

abbrev pub plain_form : Form Leaf (AssignParts ⊎ Call)
plain_form = either assign_rule call_form

abbrev pub stmt_rule : Form Leaf StmtParts
stmt_rule = either binding_rule (either return_rule (either if_form (either (while_rule block_form) plain_form)))

abbrev pub stmt_parts : Stmt-F Stmt Block ElseIf If → StmtParts
stmt_parts (Stmt-F.Local specifier name annotation assign value) = inl (specifier, (name, (annotation, (assign, value))))
stmt_parts (Stmt-F.Return keyword value) = inr (inl (keyword, value))
stmt_parts (Stmt-F.If x) = inr (inr (inl x))
stmt_parts (Stmt-F.While keyword condition block) = inr (inr (inr (inl (keyword, (condition, block)))))
stmt_parts (Stmt-F.Assign target assign value) = inr (inr (inr (inr (inl (target, (assign, value))))))
stmt_parts (Stmt-F.Call call) = inr (inr (inr (inr (inr call))))

abbrev pub stmt_layer : StmtParts → Stmt-F Stmt Block ElseIf If
stmt_layer (inl p) = Stmt-F.Local p.0 p.1.0 p.1.1.0 p.1.1.1.0 p.1.1.1.1
stmt_layer (inr (inl p)) = Stmt-F.Return p.0 p.1
stmt_layer (inr (inr (inl x))) = Stmt-F.If x
stmt_layer (inr (inr (inr (inl p)))) = Stmt-F.While p.0 p.1.0 p.1.1
stmt_layer (inr (inr (inr (inr (inl p))))) = Stmt-F.Assign p.0 p.1.0 p.1.1
stmt_layer (inr (inr (inr (inr (inr call))))) = Stmt-F.Call call

abbrev pub stmt_out : Stmt → StmtParts
stmt_out x = stmt_parts (out-Stmt x)

abbrev pub stmt_made : StmtParts → Stmt
stmt_made p = roll-Stmt (stmt_layer p)

stmt_given : (y : Stmt-F Stmt Block ElseIf If) → one_stmt (map-Stmt Stmt Block ElseIf If R R R R stmt_reading block_reading else_if_reading if_reading y) ≡ reading stmt_rule (stmt_parts y)
stmt_given (Stmt-F.Local specifier name annotation assign value) = refl
stmt_given (Stmt-F.Return keyword value) = refl
stmt_given (Stmt-F.If x) = refl
stmt_given (Stmt-F.While keyword condition block) = refl
stmt_given (Stmt-F.Assign target assign value) = refl
stmt_given (Stmt-F.Call call) = refl

stmt_open : (x : Stmt) → stmt_reading x ≡ reading stmt_rule (stmt_out x)
stmt_open x = fold_out-Stmt R R R R one_stmt one_block one_else_if one_if x ∙ stmt_given (out-Stmt x)

stmt_there : (p : StmtParts) → stmt_parts (stmt_layer p) ≡ p
stmt_there (inl p) = refl
stmt_there (inr (inl p)) = refl
stmt_there (inr (inr (inl x))) = refl
stmt_there (inr (inr (inr (inl p)))) = refl
stmt_there (inr (inr (inr (inr (inl p))))) = refl
stmt_there (inr (inr (inr (inr (inr call))))) = refl

stmt_back : (y : Stmt-F Stmt Block ElseIf If) → stmt_layer (stmt_parts y) ≡ y
stmt_back (Stmt-F.Local specifier name annotation assign value) = refl
stmt_back (Stmt-F.Return keyword value) = refl
stmt_back (Stmt-F.If x) = refl
stmt_back (Stmt-F.While keyword condition block) = refl
stmt_back (Stmt-F.Assign target assign value) = refl
stmt_back (Stmt-F.Call call) = refl

pub stmt_shows : Shows stmt_form stmt_rule stmt_out stmt_made
stmt_shows = shows_read stmt_reading stmt_rule stmt_out stmt_made stmt_open (λ p. ap stmt_parts (out-roll-Stmt (stmt_layer p)) ∙ stmt_there p) (λ x. ap (λ y. roll-Stmt y) (stmt_back (out-Stmt x)) ∙ roll-out-Stmt x)

-- the variants of the program
pub local_is : (p : BindingParts) → stmt_made (inl p) ≡ stmt.Local p.0 p.1.0 p.1.1.0 p.1.1.1.0 p.1.1.1.1
local_is p = stmt.rolls-Local p.0 p.1.0 p.1.1.0 p.1.1.1.0 p.1.1.1.1

pub return_is : (p : Leaf × Option Expr) → stmt_made (inr (inl p)) ≡ stmt.Return p.0 p.1
return_is p = stmt.rolls-Return p.0 p.1

pub if_is : (x : If) → stmt_made (inr (inr (inl x))) ≡ stmt.If x
if_is x = stmt.rolls-If x

pub while_is : (p : Leaf × (Expr × Block)) → stmt_made (inr (inr (inr (inl p)))) ≡ stmt.While p.0 p.1.0 p.1.1
while_is p = stmt.rolls-While p.0 p.1.0 p.1.1

pub assign_is : (p : AssignParts) → stmt_made (inr (inr (inr (inr (inl p))))) ≡ stmt.Assign p.0 p.1.0 p.1.1
assign_is p = stmt.rolls-Assign p.0 p.1.0 p.1.1

pub call_stmt_is : (c : Call) → stmt_made (inr (inr (inr (inr (inr c))))) ≡ stmt.Call c
call_stmt_is c = stmt.rolls-Call c

-- ---- an assignment or a call: a postfix, and what its kind lets stand behind it

abbrev pub AtomLayer : Type 0
AtomLayer = Atom-F Atom PostfixPart And Arg Args Cmp Expr Postfix Prefix Product Sum

abbrev pub PartLayer : Type 0
PartLayer = PostfixPart-F Atom PostfixPart And Arg Args Cmp Expr Postfix Prefix Product Sum

abbrev pub is_name_layer : AtomLayer → Bool
is_name_layer (Atom-F.Integer t) = false
is_name_layer (Atom-F.StringText t) = false
is_name_layer (Atom-F.True t) = false
is_name_layer (Atom-F.False t) = false
is_name_layer (Atom-F.Name t) = true
is_name_layer (Atom-F.SelfValue t) = false
is_name_layer (Atom-F.Parentheses parts) = false

abbrev pub all_members : List PostfixPart → Bool
all_members [] = true
all_members (x ∷ xs) = not (is_args x) && all_members xs

-- a name and members of it
abbrev pub is_target : Postfix → Bool
is_target p = is_name_layer (out-Atom (postfix_out p).0) && all_members (postfix_out p).1

abbrev pub named_atom : Leaf → Atom
named_atom t = roll-Atom (Atom-F.Name t)

abbrev pub member_part : Leaf × Leaf → PostfixPart
member_part p = part_made (inl p)

abbrev pub postfix_of : Target → Postfix
postfix_of t = postfix_made (named_atom t.root, map member_part t.members)

abbrev pub parts_leaf : Leaf ⊎ (Leaf × (Expr × Leaf)) → Leaf
parts_leaf (inl t) = t
parts_leaf (inr p) = p.0

abbrev pub parts_pair : (Leaf × Leaf) ⊎ Args → Leaf × Leaf
parts_pair (inl p) = p
parts_pair (inr a) = ((out-Args a).opening, (out-Args a).closing)

abbrev pub pair_of : PostfixPart → Leaf × Leaf
pair_of x = parts_pair (Rattle.swift_ast.proofs.ExpressionShows.part_out x)

abbrev pub target_of : Postfix → Target
target_of p = record { root = parts_leaf (atom_out (postfix_out p).0); members = map pair_of (postfix_out p).1 }

named_reading : (t : Leaf) → reading atom_form (named_atom t) ≡ reading (word T.Identifier) t
named_reading t = atom_open (named_atom t) ∙ ap (λ y. atom_given y) (out-roll-Atom (Atom-F.Name t))

member_reading : (p : Leaf × Leaf) → reading part_form (member_part p) ≡ reading member_rule p
member_reading p = part_open (member_part p) ∙ ap (λ z. reading part_rule z) (ap Rattle.swift_ast.proofs.ExpressionShows.part_parts (out-roll-PostfixPart (PostfixPart-F.Member p.0 p.1)))

target_reading : (t : Target) → postfix_reading (postfix_of t) ≡ reading (trail (on begins_part) (word T.Identifier) member_rule) (t.root, t.members)
target_reading t = postfix_open (postfix_of t) ∙ ap (λ z. reading (trail (on begins_part) atom_form part_form) z) (postfix_there (named_atom t.root, map member_part t.members))
    ∙ trail_map (on begins_part) (word T.Identifier) member_rule atom_form part_form member_part member_reading (named_atom t.root) t.root t.members (named_reading t.root)

members_so : (ms : List (Leaf × Leaf)) → all_members (map member_part ms) ≡ true
members_so [] = refl
members_so (m ∷ ms) = ap (λ y. not (is_args_layer y) && all_members (map member_part ms)) (out-roll-PostfixPart (PostfixPart-F.Member m.0 m.1)) ∙ members_so ms

target_so : (t : Target) → is_target (postfix_of t) ≡ true
target_so t = ap (λ p. is_name_layer (out-Atom p.0) && all_members p.1) (postfix_there (named_atom t.root, map member_part t.members)) ∙ ap (λ y. is_name_layer y && all_members (map member_part t.members)) (out-roll-Atom (Atom-F.Name t.root)) ∙ members_so t.members

pairs_back : (ms : List (Leaf × Leaf)) → map pair_of (map member_part ms) ≡ ms
pairs_back [] = refl
pairs_back (m ∷ ms) = ap (λ y. parts_pair (Rattle.swift_ast.proofs.ExpressionShows.part_parts y) ∷ map pair_of (map member_part ms)) (out-roll-PostfixPart (PostfixPart-F.Member m.0 m.1)) ∙ ap (λ z. m ∷ z) (pairs_back ms)

abbrev pub target_from : Leaf → List (Leaf × Leaf) → Target
target_from t ms = record { root = t; members = ms }

pub target_back : (t : Target) → target_of (postfix_of t) ≡ t
target_back t = ap (λ p. target_from (parts_leaf (atom_out p.0)) (map pair_of p.1)) (postfix_there (named_atom t.root, map member_part t.members)) ∙ ap (λ y. target_from (parts_leaf (atom_parts y)) (map pair_of (map member_part t.members))) (out-roll-Atom (Atom-F.Name t.root)) ∙ ap (λ ms. target_from t.root ms) (pairs_back t.members)

name_layer_back : (y : AtomLayer) → is_name_layer y ≡ true → Atom-F.Name (parts_leaf (atom_parts y)) ≡ y
name_layer_back (Atom-F.Integer t) r = absurd (false≢true r)
name_layer_back (Atom-F.StringText t) r = absurd (false≢true r)
name_layer_back (Atom-F.True t) r = absurd (false≢true r)
name_layer_back (Atom-F.False t) r = absurd (false≢true r)
name_layer_back (Atom-F.Name t) r = refl
name_layer_back (Atom-F.SelfValue t) r = absurd (false≢true r)
name_layer_back (Atom-F.Parentheses parts) r = absurd (false≢true r)

member_layer_back : (y : PartLayer) → not (is_args_layer y) ≡ true → PostfixPart-F.Member (parts_pair (Rattle.swift_ast.proofs.ExpressionShows.part_parts y)).0 (parts_pair (Rattle.swift_ast.proofs.ExpressionShows.part_parts y)).1 ≡ y
member_layer_back (PostfixPart-F.Member dot name) r = refl
member_layer_back (PostfixPart-F.Call args) r = absurd (false≢true r)

named_atom_back : (a : Atom) → is_name_layer (out-Atom a) ≡ true → named_atom (parts_leaf (atom_out a)) ≡ a
named_atom_back a r = ap (λ y. roll-Atom y) (name_layer_back (out-Atom a) r) ∙ roll-out-Atom a

member_back : (x : PostfixPart) → not (is_args x) ≡ true → member_part (pair_of x) ≡ x
member_back x r = ap (λ y. roll-PostfixPart y) (member_layer_back (out-PostfixPart x) r) ∙ roll-out-PostfixPart x

members_back : (xs : List PostfixPart) → all_members xs ≡ true → map member_part (map pair_of xs) ≡ xs
members_back [] r = refl
members_back (x ∷ xs) r =
    let r2 = and_parts (not (is_args x)) (all_members xs) r in
    ap (λ z. z ∷ map member_part (map pair_of xs)) (member_back x r2.0) ∙ ap (λ z. x ∷ z) (members_back xs r2.1)

pub named_back : (p : Postfix) → is_target p ≡ true → postfix_of (target_of p) ≡ p
named_back p r =
    let r2 = and_parts (is_name_layer (out-Atom (postfix_out p).0)) (all_members (postfix_out p).1) r in
    ap (λ a. postfix_made (a, map member_part (map pair_of (postfix_out p).1))) (named_atom_back (postfix_out p).0 r2.0) ∙ ap (λ xs. postfix_made ((postfix_out p).0, xs)) (members_back (postfix_out p).1 r2.1) ∙ roll-out-Postfix p

abbrev pub valued_form : Form Leaf (Leaf × Expr)
valued_form = both (word T.Assign) expr_form

abbrev pub rest_right : Postfix → Option (Leaf × Expr) → Bool
rest_right p None = is_call p
rest_right p (Some v) = is_target p && valued_form.is_well_formed v

abbrev pub rest_on : Postfix → Option (Leaf × Expr) → Leaf → Bool
rest_on p None = postfix_form.continues p
rest_on p (Some v) = valued_form.continues v

-- behind a target an assigned value, and behind a call nothing
abbrev pub rest_form : Postfix → Form Leaf (Option (Leaf × Expr))
rest_form p = record { tokens = perhaps_tokens valued_form; is_well_formed = rest_right p; continues = rest_on p }

abbrev pub PlainParts : Type 0
PlainParts = Postfix × Option (Leaf × Expr)

abbrev pub plain_rule : Form Leaf PlainParts
plain_rule = both_on postfix_form rest_form

abbrev pub plain_out : AssignParts ⊎ Call → PlainParts
plain_out (inl p) = (postfix_of p.0, Some p.1)
plain_out (inr c) = (c.postfix, None)

abbrev pub plain_at : Postfix → Option (Leaf × Expr) → AssignParts ⊎ Call
plain_at p None = inr (record { postfix = p })
plain_at p (Some v) = inl (target_of p, v)

abbrev pub plain_made : PlainParts → AssignParts ⊎ Call
plain_made p = plain_at p.0 p.1

plain_tokens : (x : AssignParts ⊎ Call) → plain_form.tokens x ≡ plain_rule.tokens (plain_out x)
plain_tokens (inl p) = ap (λ r. r.tokens ++ valued_form.tokens p.1) (sym (target_reading p.0))
plain_tokens (inr c) = sym (append-nil (postfix_form.tokens c.postfix))

plain_goes : (x : AssignParts ⊎ Call) → plain_form.continues x ≡ plain_rule.continues (plain_out x)
plain_goes (inl p) = refl
plain_goes (inr c) = refl

plain_right : (x : AssignParts ⊎ Call) → plain_form.is_well_formed x ≡ true → plain_rule.is_well_formed (plain_out x) ≡ true
plain_right (inl p) r =
    let r2 = and_parts (target_form.is_well_formed p.0) (valued_form.is_well_formed p.1) r in
    and_from (postfix_form.is_well_formed (postfix_of p.0)) _ (ap (λ z. z.is_well_formed) (target_reading p.0) ∙ r2.0) (and_from (is_target (postfix_of p.0)) (valued_form.is_well_formed p.1) (target_so p.0) r2.1)
plain_right (inr c) r = r

made_right_at : (p : Postfix) (o : Option (Leaf × Expr)) → plain_rule.is_well_formed (p, o) ≡ true → plain_form.is_well_formed (plain_at p o) ≡ true
made_right_at p None r = r
made_right_at p (Some v) r =
    let r2 = and_parts (postfix_form.is_well_formed p) (is_target p && valued_form.is_well_formed v) r in
    let r3 = and_parts (is_target p) (valued_form.is_well_formed v) r2.1 in
    and_from (target_form.is_well_formed (target_of p)) (valued_form.is_well_formed v) (sym (ap (λ z. z.is_well_formed) (target_reading (target_of p))) ∙ ap (λ z. postfix_form.is_well_formed z) (named_back p r3.0) ∙ r2.0) r3.1

there_at : (p : Postfix) (o : Option (Leaf × Expr)) → plain_rule.is_well_formed (p, o) ≡ true → plain_out (plain_at p o) ≡ (p, o)
there_at p None r = refl
there_at p (Some v) r =
    let r2 = and_parts (postfix_form.is_well_formed p) (is_target p && valued_form.is_well_formed v) r in
    ap (λ z. (z, Some v)) (named_back p ((and_parts (is_target p) (valued_form.is_well_formed v) r2.1).0))

plain_back : (x : AssignParts ⊎ Call) → plain_made (plain_out x) ≡ x
plain_back (inl p) = ap (λ t. inl (t, p.1)) (target_back p.0)
plain_back (inr c) = refl

pub plain_shows : Shows plain_form plain_rule plain_out plain_made
plain_shows = record {
  tokens = plain_tokens;
  continues = plain_goes;
  right = plain_right;
  made_right = λ p r. made_right_at p.0 p.1 r;
  there = λ p r. there_at p.0 p.1 r;
  back = λ x r. plain_back x;
}

-- a target that was taken is a postfix that was taken
pub target_tokens : (t : Target) → postfix_form.tokens (postfix_of t) ≡ target_form.tokens t
target_tokens t = ap (λ r. r.tokens) (target_reading t)

pub target_right : (t : Target) → target_form.is_well_formed t ≡ true → postfix_form.is_well_formed (postfix_of t) ≡ true
target_right t r = ap (λ z. z.is_well_formed) (target_reading t) ∙ r

pub target_is : (t : Target) → is_target (postfix_of t) ≡ true
target_is t = target_so t

pub target_right_back : (t : Target) → postfix_form.is_well_formed (postfix_of t) ≡ true → target_form.is_well_formed t ≡ true
target_right_back t r = sym (ap (λ z. z.is_well_formed) (target_reading t)) ∙ r

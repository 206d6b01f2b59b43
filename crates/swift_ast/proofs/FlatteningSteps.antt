-- Statements, and turns of a walk, as the walk gives them.
use Rattle.std.proofs.Common.{◌≡◌, ◌<◌, ◌+◌, ◌*◌, List, [], ◌∷◌, ◌++◌, length, sym, ◌∙◌, ap, subst, arith}
use Rattle.std.proofs.lemmas.List.{append_assoc, length-append}
use Rattle.grammar.specs.Forms.{in_row}
use Rattle.swift_ast.specs.declared.statements.Block.{Block, out-Block}
use Rattle.swift_ast.specs.declared.statements.Stmt.{Stmt}
use Rattle.swift_ast.specs.declared.statements.If.{If, out-If}
use Rattle.swift_ast.specs.declared.statements.ElseIf.{ElseIf}
use Rattle.swift_ast.specs.Leaves.{Leaf}
use Rattle.swift_ast.specs.Expressions.{expr_form}
use Rattle.swift_ast.specs.Statements.{block_form, stmt_form, else_if_form, if_form, last_else_rule}
use Rattle.swift_ast.specs.Flattening.{State, Spells, Lightens}
use Rattle.swift_ast.proofs.StatementShows as statement_shows
use Rattle.swift_ast.proofs.FlatteningLemmas.{before, behind}

-- A part that follows, at the end of a step.
pub put_last : (ts : List Leaf) (old new : State) → new.done ≡ old.done → new.waiting ≡ ts ++ old.waiting → Spells ts old new
put_last ts old new d w = ap (λ z. z ++ new.waiting) d ∙ ap (λ z. old.done ++ z) w

-- Two parts that follow, the later one first.
pub put_two : (p q : List Leaf) (old mid new : State) → mid.waiting ≡ q ++ old.waiting → new.waiting ≡ p ++ mid.waiting → new.waiting ≡ (p ++ q) ++ old.waiting
put_two p q old mid new v w = w ∙ ap (λ z. p ++ z) v ∙ sym (append_assoc p q old.waiting)

pub block_spells : (x : Block) (more : List Stmt) (old one two new : State) → more ≡ (out-Block x).stmts → one.done ≡ old.done ++ ((out-Block x).opening ∷ []) → one.waiting ≡ old.waiting
    → two.done ≡ one.done → two.waiting ≡ ((out-Block x).closing ∷ []) ++ one.waiting → new.done ≡ two.done → new.waiting ≡ in_row stmt_form more ++ two.waiting → Spells (block_form.tokens x) old new
block_spells x more old one two new e d v f w g u = subst (λ ts. Spells ts old new) (sym (statement_shows.block_shows.tokens x))
    (before (out-Block x).opening (in_row stmt_form (out-Block x).stmts ++ ((out-Block x).closing ∷ [])) old one new d v
    (behind (in_row stmt_form (out-Block x).stmts) ((out-Block x).closing ∷ []) one two new f w
    (put_last (in_row stmt_form (out-Block x).stmts) two new g (u ∙ ap (λ z. in_row stmt_form z ++ two.waiting) e))))

pub if_spells : (x : If) (others : List ElseIf) (old one two three four new : State) → others ≡ (out-If x).else_ifs → one.done ≡ old.done ++ ((out-If x).keyword ∷ []) → one.waiting ≡ old.waiting
    → two.done ≡ one.done → two.waiting ≡ (last_else_rule block_form).tokens (out-If x).last ++ one.waiting → three.done ≡ two.done → three.waiting ≡ in_row else_if_form others ++ two.waiting
    → four.done ≡ three.done → four.waiting ≡ block_form.tokens (out-If x).block ++ three.waiting → new.done ≡ four.done → new.waiting ≡ expr_form.tokens (out-If x).condition ++ four.waiting → Spells (if_form.tokens x) old new
if_spells x others old one two three four new e d v d2 w2 d3 w3 d4 w4 d5 w5 =
    let last : List Leaf = (last_else_rule block_form).tokens (out-If x).last in
    let rows : List Leaf = in_row else_if_form (out-If x).else_ifs in
    let body : List Leaf = block_form.tokens (out-If x).block in
    let condition : List Leaf = expr_form.tokens (out-If x).condition in
    subst (λ ts. Spells ts old new) (sym (statement_shows.if_shows.tokens x))
    (before (out-If x).keyword (condition ++ (body ++ (rows ++ last))) old one new d v
    (put_last (condition ++ (body ++ (rows ++ last))) one new (d5 ∙ d4 ∙ d3 ∙ d2)
    (put_two condition (body ++ (rows ++ last)) one four new
    (put_two body (rows ++ last) one three four
    (put_two rows last one two three w2 (w3 ∙ ap (λ z. in_row else_if_form z ++ two.waiting) e)) w4) w5)))

-- A turn makes less of what follows.
pub falls : (ts : List Leaf) (old mid new : State) → old.waiting ≡ ts ++ mid.waiting → old.load ≡ mid.load + 1 → Spells ts mid new → Lightens 0 mid new → 16 * length new.waiting + new.load < 16 * length old.waiting + old.load
falls ts old mid new w l s b =
    let e : length new.done + length new.waiting ≡ length mid.done + (length ts + length mid.waiting) = sym (length-append new.done new.waiting) ∙ ap length s ∙ length-append mid.done (ts ++ mid.waiting) ∙ ap (λ z. length mid.done + z) (length-append ts mid.waiting) in
    let f : length old.waiting ≡ length ts + length mid.waiting = ap length w ∙ length-append ts mid.waiting in
    omega arith

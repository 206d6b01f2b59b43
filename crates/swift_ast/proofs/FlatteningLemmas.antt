-- What follows after a part is put, and trees by their parts.
use Rattle.std.proofs.Common.{◌≡◌, List, [], ◌∷◌, ◌++◌, sym, ◌∙◌, ap, subst}
use Rattle.std.proofs.lemmas.List.{append_assoc, append-nil}
use Rattle.grammar.specs.Forms.{both, in_row, perhaps_tokens}
use Rattle.swift_ast.specs.declared.terminals.Terminal.TheVariants as T
use Rattle.swift_ast.specs.declared.flattening.part.Part.{Part}
use Rattle.swift_ast.specs.declared.expressions.Expr.{Expr, out-Expr}
use Rattle.swift_ast.specs.declared.expressions.And.{And, out-And}
use Rattle.swift_ast.specs.declared.expressions.Sum.{Sum, out-Sum}
use Rattle.swift_ast.specs.declared.expressions.Product.{Product, out-Product}
use Rattle.swift_ast.specs.declared.expressions.Postfix.{Postfix, out-Postfix}
use Rattle.swift_ast.specs.declared.expressions.PostfixPart.{PostfixPart}
use Rattle.swift_ast.specs.declared.expressions.Cmp.{Cmp}
use Rattle.swift_ast.specs.declared.expressions.Prefix.{Prefix}
use Rattle.swift_ast.specs.declared.expressions.SumOperator.{SumOperator}
use Rattle.swift_ast.specs.declared.expressions.ProductOperator.{ProductOperator}
use Rattle.swift_ast.specs.declared.expressions.Args.{Args, out-Args}
use Rattle.swift_ast.specs.Leaves.{Leaf}
use Rattle.swift_ast.specs.Expressions.{word, args_form, arg_list_rule, expr_form, and_form, cmp_form, sum_form, product_form, prefix_form, postfix_form, part_form, atom_form, arg_form, sum_operator_form, product_operator_form}
use Rattle.swift_ast.specs.Flattening.{State, part_tokens, to_follow, Spells}
use Rattle.swift_ast.proofs.ExpressionShows as shows

pub put_follows : (ps : List Part) (p : Part) → to_follow (ps ++ (p ∷ [])) ≡ part_tokens p ++ to_follow ps
put_follows [] p = sym (append-nil (part_tokens p))
put_follows (q ∷ ps) p = ap (λ ts. ts ++ part_tokens q) (put_follows ps p) ∙ append_assoc (part_tokens p) (to_follow ps) (part_tokens q)

-- A part that follows behind the tokens of a step.
pub behind : (ts ps : List Leaf) (old mid new : State) → mid.done ≡ old.done → mid.waiting ≡ ps ++ old.waiting → Spells ts mid new → Spells (ts ++ ps) old new
behind ts ps old mid new d w s = s ∙ ap (λ z. z ++ (ts ++ mid.waiting)) d ∙ ap (λ z. old.done ++ (ts ++ z)) w ∙ ap (λ z. old.done ++ z) (sym (append_assoc ts ps old.waiting))

-- A token given before a step.
pub before : (t : Leaf) (ts : List Leaf) (old mid new : State) → mid.done ≡ old.done ++ (t ∷ []) → mid.waiting ≡ old.waiting → Spells ts mid new → Spells (t ∷ ts) old new
before t ts old mid new d w s = s ∙ ap (λ z. z ++ (ts ++ mid.waiting)) d ∙ append_assoc old.done (t ∷ []) (ts ++ mid.waiting) ∙ ap (λ z. old.done ++ (t ∷ (ts ++ z))) w

-- A tree with operators between its parts, as a walk gives it.
pub expr_spells : (x : Expr) (more : List (Leaf × And)) (old mid new : State) → more ≡ (out-Expr x).more → mid.done ≡ old.done → mid.waiting ≡ in_row (both (word T.Or) and_form) more ++ old.waiting → Spells (and_form.tokens (out-Expr x).first) mid new → Spells (expr_form.tokens x) old new
expr_spells x more old mid new e d w s = subst (λ ts. Spells ts old new) (sym (shows.expr_shows.tokens x)) (behind (and_form.tokens (out-Expr x).first) (in_row (both (word T.Or) and_form) (out-Expr x).more) old mid new d (w ∙ ap (λ z. in_row (both (word T.Or) and_form) z ++ old.waiting) e) s)

pub and_spells : (x : And) (more : List (Leaf × Cmp)) (old mid new : State) → more ≡ (out-And x).more → mid.done ≡ old.done → mid.waiting ≡ in_row (both (word T.And) cmp_form) more ++ old.waiting → Spells (cmp_form.tokens (out-And x).first) mid new → Spells (and_form.tokens x) old new
and_spells x more old mid new e d w s = subst (λ ts. Spells ts old new) (sym (shows.and_shows.tokens x)) (behind (cmp_form.tokens (out-And x).first) (in_row (both (word T.And) cmp_form) (out-And x).more) old mid new d (w ∙ ap (λ z. in_row (both (word T.And) cmp_form) z ++ old.waiting) e) s)

pub sum_spells : (x : Sum) (more : List (SumOperator × Product)) (old mid new : State) → more ≡ (out-Sum x).more → mid.done ≡ old.done → mid.waiting ≡ in_row (both sum_operator_form product_form) more ++ old.waiting → Spells (product_form.tokens (out-Sum x).first) mid new → Spells (sum_form.tokens x) old new
sum_spells x more old mid new e d w s = subst (λ ts. Spells ts old new) (sym (shows.sum_shows.tokens x)) (behind (product_form.tokens (out-Sum x).first) (in_row (both sum_operator_form product_form) (out-Sum x).more) old mid new d (w ∙ ap (λ z. in_row (both sum_operator_form product_form) z ++ old.waiting) e) s)

pub product_spells : (x : Product) (more : List (ProductOperator × Prefix)) (old mid new : State) → more ≡ (out-Product x).more → mid.done ≡ old.done → mid.waiting ≡ in_row (both product_operator_form prefix_form) more ++ old.waiting → Spells (prefix_form.tokens (out-Product x).first) mid new → Spells (product_form.tokens x) old new
product_spells x more old mid new e d w s = subst (λ ts. Spells ts old new) (sym (shows.product_shows.tokens x)) (behind (prefix_form.tokens (out-Product x).first) (in_row (both product_operator_form prefix_form) (out-Product x).more) old mid new d (w ∙ ap (λ z. in_row (both product_operator_form prefix_form) z ++ old.waiting) e) s)

pub postfix_spells : (x : Postfix) (more : List PostfixPart) (old mid new : State) → more ≡ (out-Postfix x).parts → mid.done ≡ old.done → mid.waiting ≡ in_row part_form more ++ old.waiting → Spells (atom_form.tokens (out-Postfix x).atom) mid new → Spells (postfix_form.tokens x) old new
postfix_spells x more old mid new e d w s = subst (λ ts. Spells ts old new) (sym (shows.postfix_shows.tokens x)) (behind (atom_form.tokens (out-Postfix x).atom) (in_row part_form (out-Postfix x).parts) old mid new d (w ∙ ap (λ z. in_row part_form z ++ old.waiting) e) s)

-- Arguments in their brackets, as a walk gives them.
pub args_spells : (x : Args) (old one two new : State) → one.done ≡ old.done ++ ((out-Args x).opening ∷ []) → one.waiting ≡ old.waiting → two.done ≡ one.done → two.waiting ≡ ((out-Args x).closing ∷ []) ++ one.waiting
    → Spells (perhaps_tokens (arg_list_rule arg_form) (out-Args x).list) two new → Spells (args_form.tokens x) old new
args_spells x old one two new d w f v s = subst (λ ts. Spells ts old new) (sym (shows.args_shows.tokens x))
    (before (out-Args x).opening (perhaps_tokens (arg_list_rule arg_form) (out-Args x).list ++ ((out-Args x).closing ∷ [])) old one new d w (behind (perhaps_tokens (arg_list_rule arg_form) (out-Args x).list) ((out-Args x).closing ∷ []) one two new f v s))

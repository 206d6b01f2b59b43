-- Parts that may be left out.
use Rattle.std.proofs.Common.{List, ◌∷◌, sym, subst, Option, Some, None}
use Rattle.grammar.specs.Faults.{Parsed, FailsAt}
use Rattle.grammar.proofs.Basics.{refused_from}
use Rattle.swift_ast.specs.declared.expressions.Expr.{Expr}
use Rattle.swift_ast.specs.Leaves.{Leaf}
use Rattle.swift_ast.specs.Tests.{on, is_prefix_operator}
use Rattle.swift_ast.specs.Expressions.{expr_form, arg_form}
use Rattle.swift_ast.proofs.ExpressionShows.{arg_made}
use Rattle.swift_ast.proofs.ExpressionExits.{arg_behind_label, arg_no_label, arg_labelled, arg_plain, operator_rule, operator_in, operator_out}
use Rattle.token_cursor.specs.Reading.{LabelEaten, Eaten}

pub arg_stopped : (label : Option (Leaf × Leaf)) (old mid new : List Leaf) → LabelEaten label old mid → FailsAt expr_form mid new → FailsAt arg_form old new
arg_stopped (Some p) old mid new e r = refused_from arg_form (p.0 ∷ (p.1 ∷ mid)) old new (arg_behind_label p.0 p.1 e.1 e.2 r) e.0
arg_stopped None old mid new e r = arg_no_label e.1 (subst (λ ts. FailsAt expr_form ts new) e.0 r)

pub arg_read : (label : Option (Leaf × Leaf)) (x : Expr) (old mid new : List Leaf) → LabelEaten label old mid → Parsed expr_form x (expr_form.continues x) mid new → Parsed arg_form (arg_made (label, x)) (arg_form.continues (arg_made (label, x))) old new
arg_read (Some p) x old mid new e t = subst (λ ts. Parsed arg_form (arg_made (Some p, x)) (arg_form.continues (arg_made (Some p, x))) ts new) (sym e.0) (arg_labelled p.0 p.1 e.1 e.2 t)
arg_read None x old mid new e t = arg_plain e.1 (subst (λ ts. Parsed expr_form x (expr_form.continues x) ts new) e.0 t)

pub operator_read : (o : Option Leaf) (old mid : List Leaf) → Eaten (on is_prefix_operator) o old mid → Parsed operator_rule o (operator_rule.continues o) old mid
operator_read (Some t) old mid e = subst (λ ts. Parsed operator_rule (Some t) (operator_rule.continues (Some t)) ts mid) (sym e.0) (operator_in t mid e.1)
operator_read None old mid e = subst (λ ts. Parsed operator_rule None (operator_rule.continues None) old ts) (sym e.0) (operator_out old e.1)

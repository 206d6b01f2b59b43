-- What holds of all expressions, by what holds of the parts that they are made of.
use Rattle.std.proofs.Common.{◌≡◌, ℕ, Bool, true, false, List, [], ◌∷◌, map, Option, Some, None, sym, subst}
use Rattle.std.specs.List.{AllByRecursion}
use Rattle.swift_ast.specs.Leaves.{Leaf}
use Rattle.swift_ast.specs.declared.expressions.Atom.{Atom, Atom-F, fold-roll-Atom, map-Atom, roll-Atom}
use Rattle.swift_ast.specs.declared.expressions.PostfixPart.{PostfixPart, PostfixPart-F, fold-roll-PostfixPart, map-PostfixPart, roll-PostfixPart}
use Rattle.swift_ast.specs.declared.expressions.And.{And, And-F, fold-roll-And, map-And, roll-And}
use Rattle.swift_ast.specs.declared.expressions.Arg.{Arg, Arg-F, fold-roll-Arg, map-Arg, roll-Arg}
use Rattle.swift_ast.specs.declared.expressions.Args.{Args, Args-F, fold-roll-Args, map-Args, roll-Args}
use Rattle.swift_ast.specs.declared.expressions.Cmp.{Cmp, Cmp-F, fold-roll-Cmp, map-Cmp, roll-Cmp}
use Rattle.swift_ast.specs.declared.expressions.Expr.{Expr, Expr-F, fold-roll-Expr, map-Expr, roll-Expr, ind-Expr}
use Rattle.swift_ast.specs.declared.expressions.Postfix.{Postfix, Postfix-F, fold-roll-Postfix, map-Postfix, roll-Postfix, ind-Postfix}
use Rattle.swift_ast.specs.declared.expressions.Prefix.{Prefix, Prefix-F, fold-roll-Prefix, map-Prefix, roll-Prefix}
use Rattle.swift_ast.specs.declared.expressions.Product.{Product, Product-F, fold-roll-Product, map-Product, roll-Product}
use Rattle.swift_ast.specs.declared.expressions.Sum.{Sum, Sum-F, fold-roll-Sum, map-Sum, roll-Sum}
use Rattle.type_rules.specs.declared.ty.Ty.TheVariants as ty
use Rattle.typed_code.specs.declared.step.Step.TheVariants as step
use Rattle.expr_check.specs.Expressions.{typed, self_value}
use Rattle.expr_check.specs.Phrases.{Phrase, Name, Opening, Argument, Part, Member, Call, opening_with, literal, chain, postfix, prefixed, label_of, cmp_operator_token, sum_operator_token, product_operator_token, one_atom, one_part, one_and, one_arg, one_args, one_cmp, one_expr, one_postfix, one_prefix, one_product, one_sum, atom_opening, part_meant, and_phrase, arg_meant, args_meant, cmp_phrase, expr_phrase, postfix_phrase, prefix_phrase, product_phrase, sum_phrase}

-- What holds of phrases, of what stands before the parts of a postfix, of these parts and of arguments, where it holds of what each is
-- made of.
pub record IsKept (P : Phrase → Type 0) (O : Opening → Type 0) (Q : Part → Type 0) (A : Argument → Type 0) : Type 0 where
  pub integers : (t : Leaf) → O (literal t (typed ty.Int (step.Integer t.text ∷ [])))
  pub texts : (t : Leaf) → O (literal t (typed ty.String (step.StringText t.text ∷ [])))
  pub truths : (t : Leaf) (value : Bool) → O (literal t (typed ty.Bool (step.Truth value ∷ [])))
  pub names : (t : Leaf) → O (record { first = t; front = λ s. Name t })
  pub selves : (t : Leaf) → O (opening_with t (λ s. self_value s t))
  pub groups : (t : Leaf) (inner : Phrase) → P inner → O (opening_with t inner.check)
  pub members : (t : Leaf) → Q (Member t)
  pub calls : (given : List Argument) → AllByRecursion A given → Q (Call given)
  pub arguments : (label : List ℕ) (value : Phrase) → P value → A (record { label = label; value = value })
  pub chains : (first : Phrase) (more : List (Leaf × Phrase)) → P first → AllByRecursion (λ p. P p.1) more → P (chain first more)
  pub postfixes : (atom : Opening) (parts : List Part) → O atom → AllByRecursion Q parts → P (postfix atom parts)
  pub prefixes : (operator : Option Leaf) (operand : Phrase) → P operand → P (prefixed operator operand)

-- a tree, beside what holds of it
abbrev With : {X Y : Type 0} → (Y → Type 0) → (X → Y) → Type 0
With {X} P meant = (x : X) × P (meant x)

more-operands : {X O : Type 0} (P : Phrase → Type 0) (l : O → Leaf) (f : X → Phrase) (ps : List (O × With P f)) → AllByRecursion (λ (p : Leaf × Phrase). P p.1) (map (λ (p : O × Phrase). (l p.0, p.1)) (map (λ (p : O × X). (p.0, f p.1)) (map (λ (p : O × With P f). (p.0, p.1.0)) ps)))
more-operands P l f [] = tt
more-operands P l f (p ∷ ps) = (p.1.1, more-operands P l f ps)

plain-operands : {X : Type 0} (P : Phrase → Type 0) (f : X → Phrase) (ps : List (Leaf × With P f)) → AllByRecursion (λ (p : Leaf × Phrase). P p.1) (map (λ (p : Leaf × X). (p.0, f p.1)) (map (λ (p : Leaf × With P f). (p.0, p.1.0)) ps))
plain-operands P f [] = tt
plain-operands P f (p ∷ ps) = (p.1.1, plain-operands P f ps)

all-parts : {X : Type 0} (Q : Part → Type 0) (f : X → Part) (ps : List (With Q f)) → AllByRecursion Q (map f (map (λ (e : With Q f). e.0) ps))
all-parts Q f [] = tt
all-parts Q f (p ∷ ps) = (p.1, all-parts Q f ps)

all-arguments : {X : Type 0} (A : Argument → Type 0) (f : X → Argument) (ps : List (Leaf × With A f)) → AllByRecursion A (map (λ (p : Leaf × Argument). p.1) (map (λ (p : Leaf × X). (p.0, f p.1)) (map (λ (p : Leaf × With A f). (p.0, p.1.0)) ps)))
all-arguments A f [] = tt
all-arguments A f (p ∷ ps) = (p.1.1, all-arguments A f ps)

-- Each layer of trees without what holds of them, and what it is made of.

abbrev bare-Atom : (P : Phrase → Type 0) (O : Opening → Type 0) (Q : Part → Type 0) (A : Argument → Type 0) → Atom-F (With O atom_opening) (With Q part_meant) (With P and_phrase) (With A arg_meant) (With (AllByRecursion A) args_meant) (With P cmp_phrase) (With P expr_phrase) (With P postfix_phrase) (With P prefix_phrase) (With P product_phrase) (With P sum_phrase) → Atom-F Atom PostfixPart And Arg Args Cmp Expr Postfix Prefix Product Sum
bare-Atom P O Q A y = map-Atom (With O atom_opening) (With Q part_meant) (With P and_phrase) (With A arg_meant) (With (AllByRecursion A) args_meant) (With P cmp_phrase) (With P expr_phrase) (With P postfix_phrase) (With P prefix_phrase) (With P product_phrase) (With P sum_phrase) Atom PostfixPart And Arg Args Cmp Expr Postfix Prefix Product Sum (λ e. e.0) (λ e. e.0) (λ e. e.0) (λ e. e.0) (λ e. e.0) (λ e. e.0) (λ e. e.0) (λ e. e.0) (λ e. e.0) (λ e. e.0) (λ e. e.0) y

abbrev made-Atom : Atom-F Atom PostfixPart And Arg Args Cmp Expr Postfix Prefix Product Sum → Opening
made-Atom x = one_atom (map-Atom Atom PostfixPart And Arg Args Cmp Expr Postfix Prefix Product Sum Opening Part Phrase Argument (List Argument) Phrase Phrase Phrase Phrase Phrase Phrase atom_opening part_meant and_phrase arg_meant args_meant cmp_phrase expr_phrase postfix_phrase prefix_phrase product_phrase sum_phrase x)

abbrev bare-PostfixPart : (P : Phrase → Type 0) (O : Opening → Type 0) (Q : Part → Type 0) (A : Argument → Type 0) → PostfixPart-F (With O atom_opening) (With Q part_meant) (With P and_phrase) (With A arg_meant) (With (AllByRecursion A) args_meant) (With P cmp_phrase) (With P expr_phrase) (With P postfix_phrase) (With P prefix_phrase) (With P product_phrase) (With P sum_phrase) → PostfixPart-F Atom PostfixPart And Arg Args Cmp Expr Postfix Prefix Product Sum
bare-PostfixPart P O Q A y = map-PostfixPart (With O atom_opening) (With Q part_meant) (With P and_phrase) (With A arg_meant) (With (AllByRecursion A) args_meant) (With P cmp_phrase) (With P expr_phrase) (With P postfix_phrase) (With P prefix_phrase) (With P product_phrase) (With P sum_phrase) Atom PostfixPart And Arg Args Cmp Expr Postfix Prefix Product Sum (λ e. e.0) (λ e. e.0) (λ e. e.0) (λ e. e.0) (λ e. e.0) (λ e. e.0) (λ e. e.0) (λ e. e.0) (λ e. e.0) (λ e. e.0) (λ e. e.0) y

abbrev made-PostfixPart : PostfixPart-F Atom PostfixPart And Arg Args Cmp Expr Postfix Prefix Product Sum → Part
made-PostfixPart x = one_part (map-PostfixPart Atom PostfixPart And Arg Args Cmp Expr Postfix Prefix Product Sum Opening Part Phrase Argument (List Argument) Phrase Phrase Phrase Phrase Phrase Phrase atom_opening part_meant and_phrase arg_meant args_meant cmp_phrase expr_phrase postfix_phrase prefix_phrase product_phrase sum_phrase x)

abbrev bare-And : (P : Phrase → Type 0) (O : Opening → Type 0) (Q : Part → Type 0) (A : Argument → Type 0) → And-F (With O atom_opening) (With Q part_meant) (With P and_phrase) (With A arg_meant) (With (AllByRecursion A) args_meant) (With P cmp_phrase) (With P expr_phrase) (With P postfix_phrase) (With P prefix_phrase) (With P product_phrase) (With P sum_phrase) → And-F Atom PostfixPart And Arg Args Cmp Expr Postfix Prefix Product Sum
bare-And P O Q A y = map-And (With O atom_opening) (With Q part_meant) (With P and_phrase) (With A arg_meant) (With (AllByRecursion A) args_meant) (With P cmp_phrase) (With P expr_phrase) (With P postfix_phrase) (With P prefix_phrase) (With P product_phrase) (With P sum_phrase) Atom PostfixPart And Arg Args Cmp Expr Postfix Prefix Product Sum (λ e. e.0) (λ e. e.0) (λ e. e.0) (λ e. e.0) (λ e. e.0) (λ e. e.0) (λ e. e.0) (λ e. e.0) (λ e. e.0) (λ e. e.0) (λ e. e.0) y

abbrev made-And : And-F Atom PostfixPart And Arg Args Cmp Expr Postfix Prefix Product Sum → Phrase
made-And x = one_and (map-And Atom PostfixPart And Arg Args Cmp Expr Postfix Prefix Product Sum Opening Part Phrase Argument (List Argument) Phrase Phrase Phrase Phrase Phrase Phrase atom_opening part_meant and_phrase arg_meant args_meant cmp_phrase expr_phrase postfix_phrase prefix_phrase product_phrase sum_phrase x)

abbrev bare-Arg : (P : Phrase → Type 0) (O : Opening → Type 0) (Q : Part → Type 0) (A : Argument → Type 0) → Arg-F (With O atom_opening) (With Q part_meant) (With P and_phrase) (With A arg_meant) (With (AllByRecursion A) args_meant) (With P cmp_phrase) (With P expr_phrase) (With P postfix_phrase) (With P prefix_phrase) (With P product_phrase) (With P sum_phrase) → Arg-F Atom PostfixPart And Arg Args Cmp Expr Postfix Prefix Product Sum
bare-Arg P O Q A y = map-Arg (With O atom_opening) (With Q part_meant) (With P and_phrase) (With A arg_meant) (With (AllByRecursion A) args_meant) (With P cmp_phrase) (With P expr_phrase) (With P postfix_phrase) (With P prefix_phrase) (With P product_phrase) (With P sum_phrase) Atom PostfixPart And Arg Args Cmp Expr Postfix Prefix Product Sum (λ e. e.0) (λ e. e.0) (λ e. e.0) (λ e. e.0) (λ e. e.0) (λ e. e.0) (λ e. e.0) (λ e. e.0) (λ e. e.0) (λ e. e.0) (λ e. e.0) y

abbrev made-Arg : Arg-F Atom PostfixPart And Arg Args Cmp Expr Postfix Prefix Product Sum → Argument
made-Arg x = one_arg (map-Arg Atom PostfixPart And Arg Args Cmp Expr Postfix Prefix Product Sum Opening Part Phrase Argument (List Argument) Phrase Phrase Phrase Phrase Phrase Phrase atom_opening part_meant and_phrase arg_meant args_meant cmp_phrase expr_phrase postfix_phrase prefix_phrase product_phrase sum_phrase x)

abbrev bare-Args : (P : Phrase → Type 0) (O : Opening → Type 0) (Q : Part → Type 0) (A : Argument → Type 0) → Args-F (With O atom_opening) (With Q part_meant) (With P and_phrase) (With A arg_meant) (With (AllByRecursion A) args_meant) (With P cmp_phrase) (With P expr_phrase) (With P postfix_phrase) (With P prefix_phrase) (With P product_phrase) (With P sum_phrase) → Args-F Atom PostfixPart And Arg Args Cmp Expr Postfix Prefix Product Sum
bare-Args P O Q A y = map-Args (With O atom_opening) (With Q part_meant) (With P and_phrase) (With A arg_meant) (With (AllByRecursion A) args_meant) (With P cmp_phrase) (With P expr_phrase) (With P postfix_phrase) (With P prefix_phrase) (With P product_phrase) (With P sum_phrase) Atom PostfixPart And Arg Args Cmp Expr Postfix Prefix Product Sum (λ e. e.0) (λ e. e.0) (λ e. e.0) (λ e. e.0) (λ e. e.0) (λ e. e.0) (λ e. e.0) (λ e. e.0) (λ e. e.0) (λ e. e.0) (λ e. e.0) y

abbrev made-Args : Args-F Atom PostfixPart And Arg Args Cmp Expr Postfix Prefix Product Sum → (List Argument)
made-Args x = one_args (map-Args Atom PostfixPart And Arg Args Cmp Expr Postfix Prefix Product Sum Opening Part Phrase Argument (List Argument) Phrase Phrase Phrase Phrase Phrase Phrase atom_opening part_meant and_phrase arg_meant args_meant cmp_phrase expr_phrase postfix_phrase prefix_phrase product_phrase sum_phrase x)

abbrev bare-Cmp : (P : Phrase → Type 0) (O : Opening → Type 0) (Q : Part → Type 0) (A : Argument → Type 0) → Cmp-F (With O atom_opening) (With Q part_meant) (With P and_phrase) (With A arg_meant) (With (AllByRecursion A) args_meant) (With P cmp_phrase) (With P expr_phrase) (With P postfix_phrase) (With P prefix_phrase) (With P product_phrase) (With P sum_phrase) → Cmp-F Atom PostfixPart And Arg Args Cmp Expr Postfix Prefix Product Sum
bare-Cmp P O Q A y = map-Cmp (With O atom_opening) (With Q part_meant) (With P and_phrase) (With A arg_meant) (With (AllByRecursion A) args_meant) (With P cmp_phrase) (With P expr_phrase) (With P postfix_phrase) (With P prefix_phrase) (With P product_phrase) (With P sum_phrase) Atom PostfixPart And Arg Args Cmp Expr Postfix Prefix Product Sum (λ e. e.0) (λ e. e.0) (λ e. e.0) (λ e. e.0) (λ e. e.0) (λ e. e.0) (λ e. e.0) (λ e. e.0) (λ e. e.0) (λ e. e.0) (λ e. e.0) y

abbrev made-Cmp : Cmp-F Atom PostfixPart And Arg Args Cmp Expr Postfix Prefix Product Sum → Phrase
made-Cmp x = one_cmp (map-Cmp Atom PostfixPart And Arg Args Cmp Expr Postfix Prefix Product Sum Opening Part Phrase Argument (List Argument) Phrase Phrase Phrase Phrase Phrase Phrase atom_opening part_meant and_phrase arg_meant args_meant cmp_phrase expr_phrase postfix_phrase prefix_phrase product_phrase sum_phrase x)

abbrev bare-Expr : (P : Phrase → Type 0) (O : Opening → Type 0) (Q : Part → Type 0) (A : Argument → Type 0) → Expr-F (With O atom_opening) (With Q part_meant) (With P and_phrase) (With A arg_meant) (With (AllByRecursion A) args_meant) (With P cmp_phrase) (With P expr_phrase) (With P postfix_phrase) (With P prefix_phrase) (With P product_phrase) (With P sum_phrase) → Expr-F Atom PostfixPart And Arg Args Cmp Expr Postfix Prefix Product Sum
bare-Expr P O Q A y = map-Expr (With O atom_opening) (With Q part_meant) (With P and_phrase) (With A arg_meant) (With (AllByRecursion A) args_meant) (With P cmp_phrase) (With P expr_phrase) (With P postfix_phrase) (With P prefix_phrase) (With P product_phrase) (With P sum_phrase) Atom PostfixPart And Arg Args Cmp Expr Postfix Prefix Product Sum (λ e. e.0) (λ e. e.0) (λ e. e.0) (λ e. e.0) (λ e. e.0) (λ e. e.0) (λ e. e.0) (λ e. e.0) (λ e. e.0) (λ e. e.0) (λ e. e.0) y

abbrev made-Expr : Expr-F Atom PostfixPart And Arg Args Cmp Expr Postfix Prefix Product Sum → Phrase
made-Expr x = one_expr (map-Expr Atom PostfixPart And Arg Args Cmp Expr Postfix Prefix Product Sum Opening Part Phrase Argument (List Argument) Phrase Phrase Phrase Phrase Phrase Phrase atom_opening part_meant and_phrase arg_meant args_meant cmp_phrase expr_phrase postfix_phrase prefix_phrase product_phrase sum_phrase x)

abbrev bare-Postfix : (P : Phrase → Type 0) (O : Opening → Type 0) (Q : Part → Type 0) (A : Argument → Type 0) → Postfix-F (With O atom_opening) (With Q part_meant) (With P and_phrase) (With A arg_meant) (With (AllByRecursion A) args_meant) (With P cmp_phrase) (With P expr_phrase) (With P postfix_phrase) (With P prefix_phrase) (With P product_phrase) (With P sum_phrase) → Postfix-F Atom PostfixPart And Arg Args Cmp Expr Postfix Prefix Product Sum
bare-Postfix P O Q A y = map-Postfix (With O atom_opening) (With Q part_meant) (With P and_phrase) (With A arg_meant) (With (AllByRecursion A) args_meant) (With P cmp_phrase) (With P expr_phrase) (With P postfix_phrase) (With P prefix_phrase) (With P product_phrase) (With P sum_phrase) Atom PostfixPart And Arg Args Cmp Expr Postfix Prefix Product Sum (λ e. e.0) (λ e. e.0) (λ e. e.0) (λ e. e.0) (λ e. e.0) (λ e. e.0) (λ e. e.0) (λ e. e.0) (λ e. e.0) (λ e. e.0) (λ e. e.0) y

abbrev made-Postfix : Postfix-F Atom PostfixPart And Arg Args Cmp Expr Postfix Prefix Product Sum → Phrase
made-Postfix x = one_postfix (map-Postfix Atom PostfixPart And Arg Args Cmp Expr Postfix Prefix Product Sum Opening Part Phrase Argument (List Argument) Phrase Phrase Phrase Phrase Phrase Phrase atom_opening part_meant and_phrase arg_meant args_meant cmp_phrase expr_phrase postfix_phrase prefix_phrase product_phrase sum_phrase x)

abbrev bare-Prefix : (P : Phrase → Type 0) (O : Opening → Type 0) (Q : Part → Type 0) (A : Argument → Type 0) → Prefix-F (With O atom_opening) (With Q part_meant) (With P and_phrase) (With A arg_meant) (With (AllByRecursion A) args_meant) (With P cmp_phrase) (With P expr_phrase) (With P postfix_phrase) (With P prefix_phrase) (With P product_phrase) (With P sum_phrase) → Prefix-F Atom PostfixPart And Arg Args Cmp Expr Postfix Prefix Product Sum
bare-Prefix P O Q A y = map-Prefix (With O atom_opening) (With Q part_meant) (With P and_phrase) (With A arg_meant) (With (AllByRecursion A) args_meant) (With P cmp_phrase) (With P expr_phrase) (With P postfix_phrase) (With P prefix_phrase) (With P product_phrase) (With P sum_phrase) Atom PostfixPart And Arg Args Cmp Expr Postfix Prefix Product Sum (λ e. e.0) (λ e. e.0) (λ e. e.0) (λ e. e.0) (λ e. e.0) (λ e. e.0) (λ e. e.0) (λ e. e.0) (λ e. e.0) (λ e. e.0) (λ e. e.0) y

abbrev made-Prefix : Prefix-F Atom PostfixPart And Arg Args Cmp Expr Postfix Prefix Product Sum → Phrase
made-Prefix x = one_prefix (map-Prefix Atom PostfixPart And Arg Args Cmp Expr Postfix Prefix Product Sum Opening Part Phrase Argument (List Argument) Phrase Phrase Phrase Phrase Phrase Phrase atom_opening part_meant and_phrase arg_meant args_meant cmp_phrase expr_phrase postfix_phrase prefix_phrase product_phrase sum_phrase x)

abbrev bare-Product : (P : Phrase → Type 0) (O : Opening → Type 0) (Q : Part → Type 0) (A : Argument → Type 0) → Product-F (With O atom_opening) (With Q part_meant) (With P and_phrase) (With A arg_meant) (With (AllByRecursion A) args_meant) (With P cmp_phrase) (With P expr_phrase) (With P postfix_phrase) (With P prefix_phrase) (With P product_phrase) (With P sum_phrase) → Product-F Atom PostfixPart And Arg Args Cmp Expr Postfix Prefix Product Sum
bare-Product P O Q A y = map-Product (With O atom_opening) (With Q part_meant) (With P and_phrase) (With A arg_meant) (With (AllByRecursion A) args_meant) (With P cmp_phrase) (With P expr_phrase) (With P postfix_phrase) (With P prefix_phrase) (With P product_phrase) (With P sum_phrase) Atom PostfixPart And Arg Args Cmp Expr Postfix Prefix Product Sum (λ e. e.0) (λ e. e.0) (λ e. e.0) (λ e. e.0) (λ e. e.0) (λ e. e.0) (λ e. e.0) (λ e. e.0) (λ e. e.0) (λ e. e.0) (λ e. e.0) y

abbrev made-Product : Product-F Atom PostfixPart And Arg Args Cmp Expr Postfix Prefix Product Sum → Phrase
made-Product x = one_product (map-Product Atom PostfixPart And Arg Args Cmp Expr Postfix Prefix Product Sum Opening Part Phrase Argument (List Argument) Phrase Phrase Phrase Phrase Phrase Phrase atom_opening part_meant and_phrase arg_meant args_meant cmp_phrase expr_phrase postfix_phrase prefix_phrase product_phrase sum_phrase x)

abbrev bare-Sum : (P : Phrase → Type 0) (O : Opening → Type 0) (Q : Part → Type 0) (A : Argument → Type 0) → Sum-F (With O atom_opening) (With Q part_meant) (With P and_phrase) (With A arg_meant) (With (AllByRecursion A) args_meant) (With P cmp_phrase) (With P expr_phrase) (With P postfix_phrase) (With P prefix_phrase) (With P product_phrase) (With P sum_phrase) → Sum-F Atom PostfixPart And Arg Args Cmp Expr Postfix Prefix Product Sum
bare-Sum P O Q A y = map-Sum (With O atom_opening) (With Q part_meant) (With P and_phrase) (With A arg_meant) (With (AllByRecursion A) args_meant) (With P cmp_phrase) (With P expr_phrase) (With P postfix_phrase) (With P prefix_phrase) (With P product_phrase) (With P sum_phrase) Atom PostfixPart And Arg Args Cmp Expr Postfix Prefix Product Sum (λ e. e.0) (λ e. e.0) (λ e. e.0) (λ e. e.0) (λ e. e.0) (λ e. e.0) (λ e. e.0) (λ e. e.0) (λ e. e.0) (λ e. e.0) (λ e. e.0) y

abbrev made-Sum : Sum-F Atom PostfixPart And Arg Args Cmp Expr Postfix Prefix Product Sum → Phrase
made-Sum x = one_sum (map-Sum Atom PostfixPart And Arg Args Cmp Expr Postfix Prefix Product Sum Opening Part Phrase Argument (List Argument) Phrase Phrase Phrase Phrase Phrase Phrase atom_opening part_meant and_phrase arg_meant args_meant cmp_phrase expr_phrase postfix_phrase prefix_phrase product_phrase sum_phrase x)

-- One layer more.

atom-step : (P : Phrase → Type 0) (O : Opening → Type 0) (Q : Part → Type 0) (A : Argument → Type 0) → IsKept P O Q A → (y : Atom-F (With O atom_opening) (With Q part_meant) (With P and_phrase) (With A arg_meant) (With (AllByRecursion A) args_meant) (With P cmp_phrase) (With P expr_phrase) (With P postfix_phrase) (With P prefix_phrase) (With P product_phrase) (With P sum_phrase)) → O (made-Atom (bare-Atom P O Q A y))
atom-step P O Q A k (Atom-F.Integer t) = k.integers t
atom-step P O Q A k (Atom-F.StringText t) = k.texts t
atom-step P O Q A k (Atom-F.True t) = k.truths t true
atom-step P O Q A k (Atom-F.False t) = k.truths t false
atom-step P O Q A k (Atom-F.Name t) = k.names t
atom-step P O Q A k (Atom-F.SelfValue t) = k.selves t
atom-step P O Q A k (Atom-F.Parentheses (opening, inner, closing)) = k.groups opening (expr_phrase inner.0) inner.1

part-step : (P : Phrase → Type 0) (O : Opening → Type 0) (Q : Part → Type 0) (A : Argument → Type 0) → IsKept P O Q A → (y : PostfixPart-F (With O atom_opening) (With Q part_meant) (With P and_phrase) (With A arg_meant) (With (AllByRecursion A) args_meant) (With P cmp_phrase) (With P expr_phrase) (With P postfix_phrase) (With P prefix_phrase) (With P product_phrase) (With P sum_phrase)) → Q (made-PostfixPart (bare-PostfixPart P O Q A y))
part-step P O Q A k (PostfixPart-F.Member dot name) = k.members name
part-step P O Q A k (PostfixPart-F.Call arguments) = k.calls (args_meant arguments.0) arguments.1

and-step : (P : Phrase → Type 0) (O : Opening → Type 0) (Q : Part → Type 0) (A : Argument → Type 0) → IsKept P O Q A → (y : And-F (With O atom_opening) (With Q part_meant) (With P and_phrase) (With A arg_meant) (With (AllByRecursion A) args_meant) (With P cmp_phrase) (With P expr_phrase) (With P postfix_phrase) (With P prefix_phrase) (With P product_phrase) (With P sum_phrase)) → P (made-And (bare-And P O Q A y))
and-step P O Q A k y = k.chains (cmp_phrase y.first.0) _ y.first.1 (plain-operands P cmp_phrase y.more)

arg-step : (P : Phrase → Type 0) (O : Opening → Type 0) (Q : Part → Type 0) (A : Argument → Type 0) → IsKept P O Q A → (y : Arg-F (With O atom_opening) (With Q part_meant) (With P and_phrase) (With A arg_meant) (With (AllByRecursion A) args_meant) (With P cmp_phrase) (With P expr_phrase) (With P postfix_phrase) (With P prefix_phrase) (With P product_phrase) (With P sum_phrase)) → A (made-Arg (bare-Arg P O Q A y))
arg-step P O Q A k y = k.arguments (label_of y.label) (expr_phrase y.value.0) y.value.1

args-step : (P : Phrase → Type 0) (O : Opening → Type 0) (Q : Part → Type 0) (A : Argument → Type 0) → IsKept P O Q A → (y : Args-F (With O atom_opening) (With Q part_meant) (With P and_phrase) (With A arg_meant) (With (AllByRecursion A) args_meant) (With P cmp_phrase) (With P expr_phrase) (With P postfix_phrase) (With P prefix_phrase) (With P product_phrase) (With P sum_phrase)) → (AllByRecursion A) (made-Args (bare-Args P O Q A y))
args-step P O Q A k y = elim y.list as (λ o. AllByRecursion A (made-Args (bare-Args P O Q A (record { opening = y.opening; list = o; closing = y.closing })))) [ None ↦ tt | Some l ↦ (l.0.1, all-arguments A arg_meant l.1) ]

cmp-step : (P : Phrase → Type 0) (O : Opening → Type 0) (Q : Part → Type 0) (A : Argument → Type 0) → IsKept P O Q A → (y : Cmp-F (With O atom_opening) (With Q part_meant) (With P and_phrase) (With A arg_meant) (With (AllByRecursion A) args_meant) (With P cmp_phrase) (With P expr_phrase) (With P postfix_phrase) (With P prefix_phrase) (With P product_phrase) (With P sum_phrase)) → P (made-Cmp (bare-Cmp P O Q A y))
cmp-step P O Q A k y = elim y.right as (λ o. P (made-Cmp (bare-Cmp P O Q A (record { left = y.left; right = o })))) [ None ↦ k.chains (sum_phrase y.left.0) [] y.left.1 tt | Some r ↦ k.chains (sum_phrase y.left.0) ((cmp_operator_token r.0, sum_phrase r.1.0) ∷ []) y.left.1 (r.1.1, tt) ]

expr-step : (P : Phrase → Type 0) (O : Opening → Type 0) (Q : Part → Type 0) (A : Argument → Type 0) → IsKept P O Q A → (y : Expr-F (With O atom_opening) (With Q part_meant) (With P and_phrase) (With A arg_meant) (With (AllByRecursion A) args_meant) (With P cmp_phrase) (With P expr_phrase) (With P postfix_phrase) (With P prefix_phrase) (With P product_phrase) (With P sum_phrase)) → P (made-Expr (bare-Expr P O Q A y))
expr-step P O Q A k y = k.chains (and_phrase y.first.0) _ y.first.1 (plain-operands P and_phrase y.more)

postfix-step : (P : Phrase → Type 0) (O : Opening → Type 0) (Q : Part → Type 0) (A : Argument → Type 0) → IsKept P O Q A → (y : Postfix-F (With O atom_opening) (With Q part_meant) (With P and_phrase) (With A arg_meant) (With (AllByRecursion A) args_meant) (With P cmp_phrase) (With P expr_phrase) (With P postfix_phrase) (With P prefix_phrase) (With P product_phrase) (With P sum_phrase)) → P (made-Postfix (bare-Postfix P O Q A y))
postfix-step P O Q A k y = k.postfixes (atom_opening y.atom.0) _ y.atom.1 (all-parts Q part_meant y.parts)

prefix-step : (P : Phrase → Type 0) (O : Opening → Type 0) (Q : Part → Type 0) (A : Argument → Type 0) → IsKept P O Q A → (y : Prefix-F (With O atom_opening) (With Q part_meant) (With P and_phrase) (With A arg_meant) (With (AllByRecursion A) args_meant) (With P cmp_phrase) (With P expr_phrase) (With P postfix_phrase) (With P prefix_phrase) (With P product_phrase) (With P sum_phrase)) → P (made-Prefix (bare-Prefix P O Q A y))
prefix-step P O Q A k y = k.prefixes y.operator (postfix_phrase y.postfix.0) y.postfix.1

product-step : (P : Phrase → Type 0) (O : Opening → Type 0) (Q : Part → Type 0) (A : Argument → Type 0) → IsKept P O Q A → (y : Product-F (With O atom_opening) (With Q part_meant) (With P and_phrase) (With A arg_meant) (With (AllByRecursion A) args_meant) (With P cmp_phrase) (With P expr_phrase) (With P postfix_phrase) (With P prefix_phrase) (With P product_phrase) (With P sum_phrase)) → P (made-Product (bare-Product P O Q A y))
product-step P O Q A k y = k.chains (prefix_phrase y.first.0) _ y.first.1 (more-operands P product_operator_token prefix_phrase y.more)

sum-step : (P : Phrase → Type 0) (O : Opening → Type 0) (Q : Part → Type 0) (A : Argument → Type 0) → IsKept P O Q A → (y : Sum-F (With O atom_opening) (With Q part_meant) (With P and_phrase) (With A arg_meant) (With (AllByRecursion A) args_meant) (With P cmp_phrase) (With P expr_phrase) (With P postfix_phrase) (With P prefix_phrase) (With P product_phrase) (With P sum_phrase)) → P (made-Sum (bare-Sum P O Q A y))
sum-step P O Q A k y = k.chains (product_phrase y.first.0) _ y.first.1 (more-operands P sum_operator_token product_phrase y.more)

-- What holds of a layer holds of the tree.

atom-tree : (P : Phrase → Type 0) (O : Opening → Type 0) (Q : Part → Type 0) (A : Argument → Type 0) → IsKept P O Q A → (x : Atom-F Atom PostfixPart And Arg Args Cmp Expr Postfix Prefix Product Sum) (y : Atom-F (With O atom_opening) (With Q part_meant) (With P and_phrase) (With A arg_meant) (With (AllByRecursion A) args_meant) (With P cmp_phrase) (With P expr_phrase) (With P postfix_phrase) (With P prefix_phrase) (With P product_phrase) (With P sum_phrase)) → bare-Atom P O Q A y ≡ x → O (atom_opening (roll-Atom x))
unfolding atom_opening part_meant and_phrase arg_meant args_meant cmp_phrase expr_phrase postfix_phrase prefix_phrase product_phrase sum_phrase
atom-tree P O Q A k x y is = subst (λ z. O (atom_opening (roll-Atom z))) is (subst O (sym (fold-roll-Atom Opening Part Phrase Argument (List Argument) Phrase Phrase Phrase Phrase Phrase Phrase one_atom one_part one_and one_arg one_args one_cmp one_expr one_postfix one_prefix one_product one_sum (bare-Atom P O Q A y))) (atom-step P O Q A k y))

part-tree : (P : Phrase → Type 0) (O : Opening → Type 0) (Q : Part → Type 0) (A : Argument → Type 0) → IsKept P O Q A → (x : PostfixPart-F Atom PostfixPart And Arg Args Cmp Expr Postfix Prefix Product Sum) (y : PostfixPart-F (With O atom_opening) (With Q part_meant) (With P and_phrase) (With A arg_meant) (With (AllByRecursion A) args_meant) (With P cmp_phrase) (With P expr_phrase) (With P postfix_phrase) (With P prefix_phrase) (With P product_phrase) (With P sum_phrase)) → bare-PostfixPart P O Q A y ≡ x → Q (part_meant (roll-PostfixPart x))
unfolding atom_opening part_meant and_phrase arg_meant args_meant cmp_phrase expr_phrase postfix_phrase prefix_phrase product_phrase sum_phrase
part-tree P O Q A k x y is = subst (λ z. Q (part_meant (roll-PostfixPart z))) is (subst Q (sym (fold-roll-PostfixPart Opening Part Phrase Argument (List Argument) Phrase Phrase Phrase Phrase Phrase Phrase one_atom one_part one_and one_arg one_args one_cmp one_expr one_postfix one_prefix one_product one_sum (bare-PostfixPart P O Q A y))) (part-step P O Q A k y))

and-tree : (P : Phrase → Type 0) (O : Opening → Type 0) (Q : Part → Type 0) (A : Argument → Type 0) → IsKept P O Q A → (x : And-F Atom PostfixPart And Arg Args Cmp Expr Postfix Prefix Product Sum) (y : And-F (With O atom_opening) (With Q part_meant) (With P and_phrase) (With A arg_meant) (With (AllByRecursion A) args_meant) (With P cmp_phrase) (With P expr_phrase) (With P postfix_phrase) (With P prefix_phrase) (With P product_phrase) (With P sum_phrase)) → bare-And P O Q A y ≡ x → P (and_phrase (roll-And x))
unfolding atom_opening part_meant and_phrase arg_meant args_meant cmp_phrase expr_phrase postfix_phrase prefix_phrase product_phrase sum_phrase
and-tree P O Q A k x y is = subst (λ z. P (and_phrase (roll-And z))) is (subst P (sym (fold-roll-And Opening Part Phrase Argument (List Argument) Phrase Phrase Phrase Phrase Phrase Phrase one_atom one_part one_and one_arg one_args one_cmp one_expr one_postfix one_prefix one_product one_sum (bare-And P O Q A y))) (and-step P O Q A k y))

arg-tree : (P : Phrase → Type 0) (O : Opening → Type 0) (Q : Part → Type 0) (A : Argument → Type 0) → IsKept P O Q A → (x : Arg-F Atom PostfixPart And Arg Args Cmp Expr Postfix Prefix Product Sum) (y : Arg-F (With O atom_opening) (With Q part_meant) (With P and_phrase) (With A arg_meant) (With (AllByRecursion A) args_meant) (With P cmp_phrase) (With P expr_phrase) (With P postfix_phrase) (With P prefix_phrase) (With P product_phrase) (With P sum_phrase)) → bare-Arg P O Q A y ≡ x → A (arg_meant (roll-Arg x))
unfolding atom_opening part_meant and_phrase arg_meant args_meant cmp_phrase expr_phrase postfix_phrase prefix_phrase product_phrase sum_phrase
arg-tree P O Q A k x y is = subst (λ z. A (arg_meant (roll-Arg z))) is (subst A (sym (fold-roll-Arg Opening Part Phrase Argument (List Argument) Phrase Phrase Phrase Phrase Phrase Phrase one_atom one_part one_and one_arg one_args one_cmp one_expr one_postfix one_prefix one_product one_sum (bare-Arg P O Q A y))) (arg-step P O Q A k y))

args-tree : (P : Phrase → Type 0) (O : Opening → Type 0) (Q : Part → Type 0) (A : Argument → Type 0) → IsKept P O Q A → (x : Args-F Atom PostfixPart And Arg Args Cmp Expr Postfix Prefix Product Sum) (y : Args-F (With O atom_opening) (With Q part_meant) (With P and_phrase) (With A arg_meant) (With (AllByRecursion A) args_meant) (With P cmp_phrase) (With P expr_phrase) (With P postfix_phrase) (With P prefix_phrase) (With P product_phrase) (With P sum_phrase)) → bare-Args P O Q A y ≡ x → (AllByRecursion A) (args_meant (roll-Args x))
unfolding atom_opening part_meant and_phrase arg_meant args_meant cmp_phrase expr_phrase postfix_phrase prefix_phrase product_phrase sum_phrase
args-tree P O Q A k x y is = subst (λ z. (AllByRecursion A) (args_meant (roll-Args z))) is (subst (AllByRecursion A) (sym (fold-roll-Args Opening Part Phrase Argument (List Argument) Phrase Phrase Phrase Phrase Phrase Phrase one_atom one_part one_and one_arg one_args one_cmp one_expr one_postfix one_prefix one_product one_sum (bare-Args P O Q A y))) (args-step P O Q A k y))

cmp-tree : (P : Phrase → Type 0) (O : Opening → Type 0) (Q : Part → Type 0) (A : Argument → Type 0) → IsKept P O Q A → (x : Cmp-F Atom PostfixPart And Arg Args Cmp Expr Postfix Prefix Product Sum) (y : Cmp-F (With O atom_opening) (With Q part_meant) (With P and_phrase) (With A arg_meant) (With (AllByRecursion A) args_meant) (With P cmp_phrase) (With P expr_phrase) (With P postfix_phrase) (With P prefix_phrase) (With P product_phrase) (With P sum_phrase)) → bare-Cmp P O Q A y ≡ x → P (cmp_phrase (roll-Cmp x))
unfolding atom_opening part_meant and_phrase arg_meant args_meant cmp_phrase expr_phrase postfix_phrase prefix_phrase product_phrase sum_phrase
cmp-tree P O Q A k x y is = subst (λ z. P (cmp_phrase (roll-Cmp z))) is (subst P (sym (fold-roll-Cmp Opening Part Phrase Argument (List Argument) Phrase Phrase Phrase Phrase Phrase Phrase one_atom one_part one_and one_arg one_args one_cmp one_expr one_postfix one_prefix one_product one_sum (bare-Cmp P O Q A y))) (cmp-step P O Q A k y))

expr-tree : (P : Phrase → Type 0) (O : Opening → Type 0) (Q : Part → Type 0) (A : Argument → Type 0) → IsKept P O Q A → (x : Expr-F Atom PostfixPart And Arg Args Cmp Expr Postfix Prefix Product Sum) (y : Expr-F (With O atom_opening) (With Q part_meant) (With P and_phrase) (With A arg_meant) (With (AllByRecursion A) args_meant) (With P cmp_phrase) (With P expr_phrase) (With P postfix_phrase) (With P prefix_phrase) (With P product_phrase) (With P sum_phrase)) → bare-Expr P O Q A y ≡ x → P (expr_phrase (roll-Expr x))
unfolding atom_opening part_meant and_phrase arg_meant args_meant cmp_phrase expr_phrase postfix_phrase prefix_phrase product_phrase sum_phrase
expr-tree P O Q A k x y is = subst (λ z. P (expr_phrase (roll-Expr z))) is (subst P (sym (fold-roll-Expr Opening Part Phrase Argument (List Argument) Phrase Phrase Phrase Phrase Phrase Phrase one_atom one_part one_and one_arg one_args one_cmp one_expr one_postfix one_prefix one_product one_sum (bare-Expr P O Q A y))) (expr-step P O Q A k y))

postfix-tree : (P : Phrase → Type 0) (O : Opening → Type 0) (Q : Part → Type 0) (A : Argument → Type 0) → IsKept P O Q A → (x : Postfix-F Atom PostfixPart And Arg Args Cmp Expr Postfix Prefix Product Sum) (y : Postfix-F (With O atom_opening) (With Q part_meant) (With P and_phrase) (With A arg_meant) (With (AllByRecursion A) args_meant) (With P cmp_phrase) (With P expr_phrase) (With P postfix_phrase) (With P prefix_phrase) (With P product_phrase) (With P sum_phrase)) → bare-Postfix P O Q A y ≡ x → P (postfix_phrase (roll-Postfix x))
unfolding atom_opening part_meant and_phrase arg_meant args_meant cmp_phrase expr_phrase postfix_phrase prefix_phrase product_phrase sum_phrase
postfix-tree P O Q A k x y is = subst (λ z. P (postfix_phrase (roll-Postfix z))) is (subst P (sym (fold-roll-Postfix Opening Part Phrase Argument (List Argument) Phrase Phrase Phrase Phrase Phrase Phrase one_atom one_part one_and one_arg one_args one_cmp one_expr one_postfix one_prefix one_product one_sum (bare-Postfix P O Q A y))) (postfix-step P O Q A k y))

prefix-tree : (P : Phrase → Type 0) (O : Opening → Type 0) (Q : Part → Type 0) (A : Argument → Type 0) → IsKept P O Q A → (x : Prefix-F Atom PostfixPart And Arg Args Cmp Expr Postfix Prefix Product Sum) (y : Prefix-F (With O atom_opening) (With Q part_meant) (With P and_phrase) (With A arg_meant) (With (AllByRecursion A) args_meant) (With P cmp_phrase) (With P expr_phrase) (With P postfix_phrase) (With P prefix_phrase) (With P product_phrase) (With P sum_phrase)) → bare-Prefix P O Q A y ≡ x → P (prefix_phrase (roll-Prefix x))
unfolding atom_opening part_meant and_phrase arg_meant args_meant cmp_phrase expr_phrase postfix_phrase prefix_phrase product_phrase sum_phrase
prefix-tree P O Q A k x y is = subst (λ z. P (prefix_phrase (roll-Prefix z))) is (subst P (sym (fold-roll-Prefix Opening Part Phrase Argument (List Argument) Phrase Phrase Phrase Phrase Phrase Phrase one_atom one_part one_and one_arg one_args one_cmp one_expr one_postfix one_prefix one_product one_sum (bare-Prefix P O Q A y))) (prefix-step P O Q A k y))

product-tree : (P : Phrase → Type 0) (O : Opening → Type 0) (Q : Part → Type 0) (A : Argument → Type 0) → IsKept P O Q A → (x : Product-F Atom PostfixPart And Arg Args Cmp Expr Postfix Prefix Product Sum) (y : Product-F (With O atom_opening) (With Q part_meant) (With P and_phrase) (With A arg_meant) (With (AllByRecursion A) args_meant) (With P cmp_phrase) (With P expr_phrase) (With P postfix_phrase) (With P prefix_phrase) (With P product_phrase) (With P sum_phrase)) → bare-Product P O Q A y ≡ x → P (product_phrase (roll-Product x))
unfolding atom_opening part_meant and_phrase arg_meant args_meant cmp_phrase expr_phrase postfix_phrase prefix_phrase product_phrase sum_phrase
product-tree P O Q A k x y is = subst (λ z. P (product_phrase (roll-Product z))) is (subst P (sym (fold-roll-Product Opening Part Phrase Argument (List Argument) Phrase Phrase Phrase Phrase Phrase Phrase one_atom one_part one_and one_arg one_args one_cmp one_expr one_postfix one_prefix one_product one_sum (bare-Product P O Q A y))) (product-step P O Q A k y))

sum-tree : (P : Phrase → Type 0) (O : Opening → Type 0) (Q : Part → Type 0) (A : Argument → Type 0) → IsKept P O Q A → (x : Sum-F Atom PostfixPart And Arg Args Cmp Expr Postfix Prefix Product Sum) (y : Sum-F (With O atom_opening) (With Q part_meant) (With P and_phrase) (With A arg_meant) (With (AllByRecursion A) args_meant) (With P cmp_phrase) (With P expr_phrase) (With P postfix_phrase) (With P prefix_phrase) (With P product_phrase) (With P sum_phrase)) → bare-Sum P O Q A y ≡ x → P (sum_phrase (roll-Sum x))
unfolding atom_opening part_meant and_phrase arg_meant args_meant cmp_phrase expr_phrase postfix_phrase prefix_phrase product_phrase sum_phrase
sum-tree P O Q A k x y is = subst (λ z. P (sum_phrase (roll-Sum z))) is (subst P (sym (fold-roll-Sum Opening Part Phrase Argument (List Argument) Phrase Phrase Phrase Phrase Phrase Phrase one_atom one_part one_and one_arg one_args one_cmp one_expr one_postfix one_prefix one_product one_sum (bare-Sum P O Q A y))) (sum-step P O Q A k y))

-- It holds of each expression,
pub each-expr : (P : Phrase → Type 0) (O : Opening → Type 0) (Q : Part → Type 0) (A : Argument → Type 0) → IsKept P O Q A → (e : Expr) → P (expr_phrase e)
each-expr P O Q A k = ind-Expr (λ x. O (atom_opening x)) (λ x. Q (part_meant x)) (λ x. P (and_phrase x)) (λ x. A (arg_meant x)) (λ x. (AllByRecursion A) (args_meant x)) (λ x. P (cmp_phrase x)) (λ x. P (expr_phrase x)) (λ x. P (postfix_phrase x)) (λ x. P (prefix_phrase x)) (λ x. P (product_phrase x)) (λ x. P (sum_phrase x))
    (atom-tree P O Q A k) (part-tree P O Q A k) (and-tree P O Q A k) (arg-tree P O Q A k) (args-tree P O Q A k) (cmp-tree P O Q A k) (expr-tree P O Q A k) (postfix-tree P O Q A k) (prefix-tree P O Q A k) (product-tree P O Q A k) (sum-tree P O Q A k)

-- and of what may be called.
pub each-postfix : (P : Phrase → Type 0) (O : Opening → Type 0) (Q : Part → Type 0) (A : Argument → Type 0) → IsKept P O Q A → (e : Postfix) → P (postfix_phrase e)
each-postfix P O Q A k = ind-Postfix (λ x. O (atom_opening x)) (λ x. Q (part_meant x)) (λ x. P (and_phrase x)) (λ x. A (arg_meant x)) (λ x. (AllByRecursion A) (args_meant x)) (λ x. P (cmp_phrase x)) (λ x. P (expr_phrase x)) (λ x. P (postfix_phrase x)) (λ x. P (prefix_phrase x)) (λ x. P (product_phrase x)) (λ x. P (sum_phrase x))
    (atom-tree P O Q A k) (part-tree P O Q A k) (and-tree P O Q A k) (arg-tree P O Q A k) (args-tree P O Q A k) (cmp-tree P O Q A k) (expr-tree P O Q A k) (postfix-tree P O Q A k) (prefix-tree P O Q A k) (product-tree P O Q A k) (sum-tree P O Q A k)

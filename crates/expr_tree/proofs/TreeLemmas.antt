-- What each tree is, by what its parts are, and what is made of it, by what was made of them.
use Rattle.std.proofs.Common.{◌≡◌, ℕ, ◌+◌, ◌<◌, ◌≤◌, true, false, List, [], ◌∷◌, map, length, drop, get_or, Option, Some, None, sym, ap, ◌∙◌}
use Rattle.std.proofs.lemmas.List.{drop_more, drop_all}
use Rattle.dep_key.specs.declared.key.Key.{Key}
use Rattle.type_rules.specs.declared.meaning.Meaning.{Meaning}
use Rattle.swift_ast.specs.Leaves.{Leaf}
use Rattle.swift_ast.specs.declared.expressions.CmpOperator.{CmpOperator}
use Rattle.swift_ast.specs.declared.expressions.SumOperator.{SumOperator}
use Rattle.swift_ast.specs.declared.expressions.ProductOperator.{ProductOperator}
use Rattle.type_rules.specs.declared.ty.Ty.TheVariants as ty
use Rattle.typed_code.specs.declared.step.Step.TheVariants as step
use Rattle.swift_ast.specs.declared.expressions.Atom.{Atom, Atom-F, fold-Atom, fold-roll-Atom}
use Rattle.swift_ast.specs.declared.expressions.PostfixPart.{PostfixPart, PostfixPart-F, fold-PostfixPart, fold-roll-PostfixPart}
use Rattle.swift_ast.specs.declared.expressions.And.{And, out-And, fold_out-And}
use Rattle.swift_ast.specs.declared.expressions.Arg.{Arg, out-Arg, fold_out-Arg}
use Rattle.swift_ast.specs.declared.expressions.Args.{Args, out-Args, fold_out-Args, map-Args}
use Rattle.swift_ast.specs.declared.expressions.Cmp.{Cmp, out-Cmp, fold_out-Cmp, map-Cmp}
use Rattle.swift_ast.specs.declared.expressions.Expr.{Expr, out-Expr, fold_out-Expr}
use Rattle.swift_ast.specs.declared.expressions.Postfix.{Postfix, out-Postfix, fold_out-Postfix}
use Rattle.swift_ast.specs.declared.expressions.Prefix.{Prefix, out-Prefix, fold_out-Prefix, map-Prefix}
use Rattle.swift_ast.specs.declared.expressions.Product.{Product, out-Product, fold_out-Product}
use Rattle.swift_ast.specs.declared.expressions.Sum.{Sum, out-Sum, fold_out-Sum}
use Rattle.swift_ast.specs.declared.expressions.Atom.TheVariants as atom
use Rattle.swift_ast.specs.declared.expressions.PostfixPart.TheVariants as behind
use Rattle.checks.specs.Checks.{sure, on_value, paired, found, grouped, all_behind, appended}
use Rattle.checks.specs.Logs.{Orders, Logged, made, made_then}
use Rattle.checks.proofs.Made.{made_bind}
use Rattle.expr_check.specs.declared.line.Line.{Line}
use Rattle.expr_check.specs.declared.typed.Typed.{Typed}
use Rattle.expr_check.specs.declared.scope.Scope.{Scope}
use Rattle.expr_check.specs.Messages.{place_of}
use Rattle.expr_check.specs.Expressions.{Given, typed, self_value, binary, unary}
use Rattle.expr_check.specs.Phrases.{Phrase, Front, Value, Name, MemberOf, as_value, Opening, Argument, Part, Member, Call, chain, given, givens, extended, postfix, label_of, cmp_operator_token, sum_operator_token, product_operator_token, one_atom, one_part, one_and, one_arg, one_args, one_cmp, one_expr, one_postfix, one_prefix, one_product, one_sum, atom_opening, part_meant, and_phrase, arg_meant, args_meant, cmp_phrase, expr_phrase, postfix_phrase, prefix_phrase, product_phrase, sum_phrase}
use Rattle.expr_tree.specs.Fronts.{call_check, or_operands, and_operands, sum_operands, product_operands, checks_in, arguments_behind}
use Rattle.expr_tree.proofs.Chains.{operand_goes_on, chain_made, then_value, value_goes_on, member_goes_on, call_goes_on}
use Rattle.expr_tree.proofs.Lists.{goes_on}

pub expr_is : (x : Expr) → expr_phrase x ≡ chain (and_phrase (out-Expr x).first) (or_operands (out-Expr x).more)
unfolding atom_opening part_meant and_phrase arg_meant args_meant cmp_phrase expr_phrase postfix_phrase prefix_phrase product_phrase sum_phrase
expr_is x = fold_out-Expr Opening Part Phrase Argument (List Argument) Phrase Phrase Phrase Phrase Phrase Phrase one_atom one_part one_and one_arg one_args one_cmp one_expr one_postfix one_prefix one_product one_sum x

pub expr_made : (o : Orders Key Line) (meanings : Key → Meaning) (s : Scope) (x : Expr) (more : List (Leaf × And)) (left got : Option Typed) (old mid new : Logged Key Line) → more ≡ (out-Expr x).more →
    (left, mid) ≡ made o meanings ((and_phrase (out-Expr x).first).check s) old → (got, new) ≡ made o meanings (grouped binary (found left) (checks_in s (or_operands more))) mid →
    (got, new) ≡ made o meanings ((expr_phrase x).check s) old
expr_made o meanings s x more left got old mid new m h g =
    chain_made o meanings s (expr_phrase x) (and_phrase (out-Expr x).first) (or_operands more) left got old mid new (expr_is x ∙ ap (λ l. chain (and_phrase (out-Expr x).first) (or_operands l)) (sym m)) h g

pub and_is : (x : And) → and_phrase x ≡ chain (cmp_phrase (out-And x).first) (and_operands (out-And x).more)
unfolding atom_opening part_meant and_phrase arg_meant args_meant cmp_phrase expr_phrase postfix_phrase prefix_phrase product_phrase sum_phrase
and_is x = fold_out-And Opening Part Phrase Argument (List Argument) Phrase Phrase Phrase Phrase Phrase Phrase one_atom one_part one_and one_arg one_args one_cmp one_expr one_postfix one_prefix one_product one_sum x

pub and_made : (o : Orders Key Line) (meanings : Key → Meaning) (s : Scope) (x : And) (more : List (Leaf × Cmp)) (left got : Option Typed) (old mid new : Logged Key Line) → more ≡ (out-And x).more →
    (left, mid) ≡ made o meanings ((cmp_phrase (out-And x).first).check s) old → (got, new) ≡ made o meanings (grouped binary (found left) (checks_in s (and_operands more))) mid →
    (got, new) ≡ made o meanings ((and_phrase x).check s) old
and_made o meanings s x more left got old mid new m h g =
    chain_made o meanings s (and_phrase x) (cmp_phrase (out-And x).first) (and_operands more) left got old mid new (and_is x ∙ ap (λ l. chain (cmp_phrase (out-And x).first) (and_operands l)) (sym m)) h g

pub sum_is : (x : Sum) → sum_phrase x ≡ chain (product_phrase (out-Sum x).first) (sum_operands (out-Sum x).more)
unfolding atom_opening part_meant and_phrase arg_meant args_meant cmp_phrase expr_phrase postfix_phrase prefix_phrase product_phrase sum_phrase
sum_is x = fold_out-Sum Opening Part Phrase Argument (List Argument) Phrase Phrase Phrase Phrase Phrase Phrase one_atom one_part one_and one_arg one_args one_cmp one_expr one_postfix one_prefix one_product one_sum x

pub sum_made : (o : Orders Key Line) (meanings : Key → Meaning) (s : Scope) (x : Sum) (more : List (SumOperator × Product)) (left got : Option Typed) (old mid new : Logged Key Line) → more ≡ (out-Sum x).more →
    (left, mid) ≡ made o meanings ((product_phrase (out-Sum x).first).check s) old → (got, new) ≡ made o meanings (grouped binary (found left) (checks_in s (sum_operands more))) mid →
    (got, new) ≡ made o meanings ((sum_phrase x).check s) old
sum_made o meanings s x more left got old mid new m h g =
    chain_made o meanings s (sum_phrase x) (product_phrase (out-Sum x).first) (sum_operands more) left got old mid new (sum_is x ∙ ap (λ l. chain (product_phrase (out-Sum x).first) (sum_operands l)) (sym m)) h g

pub product_is : (x : Product) → product_phrase x ≡ chain (prefix_phrase (out-Product x).first) (product_operands (out-Product x).more)
unfolding atom_opening part_meant and_phrase arg_meant args_meant cmp_phrase expr_phrase postfix_phrase prefix_phrase product_phrase sum_phrase
product_is x = fold_out-Product Opening Part Phrase Argument (List Argument) Phrase Phrase Phrase Phrase Phrase Phrase one_atom one_part one_and one_arg one_args one_cmp one_expr one_postfix one_prefix one_product one_sum x

pub product_made : (o : Orders Key Line) (meanings : Key → Meaning) (s : Scope) (x : Product) (more : List (ProductOperator × Prefix)) (left got : Option Typed) (old mid new : Logged Key Line) → more ≡ (out-Product x).more →
    (left, mid) ≡ made o meanings ((prefix_phrase (out-Product x).first).check s) old → (got, new) ≡ made o meanings (grouped binary (found left) (checks_in s (product_operands more))) mid →
    (got, new) ≡ made o meanings ((product_phrase x).check s) old
product_made o meanings s x more left got old mid new m h g =
    chain_made o meanings s (product_phrase x) (prefix_phrase (out-Product x).first) (product_operands more) left got old mid new (product_is x ∙ ap (λ l. chain (prefix_phrase (out-Product x).first) (product_operands l)) (sym m)) h g

abbrev cmp_layer : Sum → Option (CmpOperator × Sum) → Phrase
cmp_layer left right = one_cmp (map-Cmp Atom PostfixPart And Arg Args Cmp Expr Postfix Prefix Product Sum Opening Part Phrase Argument (List Argument) Phrase Phrase Phrase Phrase Phrase Phrase atom_opening part_meant and_phrase arg_meant args_meant cmp_phrase expr_phrase postfix_phrase prefix_phrase product_phrase sum_phrase (record { left = left; right = right }))

pub cmp_is : (x : Cmp) → cmp_phrase x ≡ cmp_layer (out-Cmp x).left (out-Cmp x).right
unfolding atom_opening part_meant and_phrase arg_meant args_meant cmp_phrase expr_phrase postfix_phrase prefix_phrase product_phrase sum_phrase
cmp_is x = fold_out-Cmp Opening Part Phrase Argument (List Argument) Phrase Phrase Phrase Phrase Phrase Phrase one_atom one_part one_and one_arg one_args one_cmp one_expr one_postfix one_prefix one_product one_sum x

pub cmp_lone : (o : Orders Key Line) (meanings : Key → Meaning) (s : Scope) (x : Cmp) (got : Option Typed) (old new : Logged Key Line) →
    (out-Cmp x).right ≡ None → (got, new) ≡ made o meanings ((sum_phrase (out-Cmp x).left).check s) old → (got, new) ≡ made o meanings ((cmp_phrase x).check s) old
cmp_lone o meanings s x got old new e h =
    h ∙ ap (λ r. made o meanings ((cmp_layer (out-Cmp x).left r).check s) old) (sym e) ∙ ap (λ (p : Phrase). made o meanings (p.check s) old) (sym (cmp_is x))

pub cmp_made : (o : Orders Key Line) (meanings : Key → Meaning) (s : Scope) (x : Cmp) (p : CmpOperator × Sum) (t : Leaf) (left right got : Option Typed) (old mid end new : Logged Key Line) →
    (out-Cmp x).right ≡ Some p → t ≡ cmp_operator_token p.0 → (left, mid) ≡ made o meanings ((sum_phrase (out-Cmp x).left).check s) old → (right, end) ≡ made o meanings ((sum_phrase p.1).check s) mid →
    (got, new) ≡ made o meanings (on_value (paired left right) (binary t)) end → (got, new) ≡ made o meanings ((cmp_phrase x).check s) old
cmp_made o meanings s x p t left right got old mid end new e is h r g =
    chain_made o meanings s (cmp_phrase x) (sum_phrase (out-Cmp x).left) ((t, sum_phrase p.1) ∷ []) left got old mid new
    (cmp_is x ∙ ap (λ r. cmp_layer (out-Cmp x).left r) e ∙ ap (λ t. chain (sum_phrase (out-Cmp x).left) ((t, sum_phrase p.1) ∷ [])) (sym is)) h
    (sym (operand_goes_on o meanings t ((sum_phrase p.1).check s) [] left right got mid end new r g))

abbrev prefix_layer : Option Leaf → Postfix → Phrase
prefix_layer operator operand = one_prefix (map-Prefix Atom PostfixPart And Arg Args Cmp Expr Postfix Prefix Product Sum Opening Part Phrase Argument (List Argument) Phrase Phrase Phrase Phrase Phrase Phrase atom_opening part_meant and_phrase arg_meant args_meant cmp_phrase expr_phrase postfix_phrase prefix_phrase product_phrase sum_phrase (record { operator = operator; postfix = operand }))

pub prefix_is : (x : Prefix) → prefix_phrase x ≡ prefix_layer (out-Prefix x).operator (out-Prefix x).postfix
unfolding atom_opening part_meant and_phrase arg_meant args_meant cmp_phrase expr_phrase postfix_phrase prefix_phrase product_phrase sum_phrase
prefix_is x = fold_out-Prefix Opening Part Phrase Argument (List Argument) Phrase Phrase Phrase Phrase Phrase Phrase one_atom one_part one_and one_arg one_args one_cmp one_expr one_postfix one_prefix one_product one_sum x

pub prefix_lone : (o : Orders Key Line) (meanings : Key → Meaning) (s : Scope) (x : Prefix) (got : Option Typed) (old new : Logged Key Line) →
    (out-Prefix x).operator ≡ None → (got, new) ≡ made o meanings ((postfix_phrase (out-Prefix x).postfix).check s) old → (got, new) ≡ made o meanings ((prefix_phrase x).check s) old
prefix_lone o meanings s x got old new e h =
    h ∙ ap (λ r. made o meanings ((prefix_layer r (out-Prefix x).postfix).check s) old) (sym e) ∙ ap (λ (p : Phrase). made o meanings (p.check s) old) (sym (prefix_is x))

pub prefix_made : (o : Orders Key Line) (meanings : Key → Meaning) (s : Scope) (x : Prefix) (t : Leaf) (operand got : Option Typed) (old mid new : Logged Key Line) →
    (out-Prefix x).operator ≡ Some t → (operand, mid) ≡ made o meanings ((postfix_phrase (out-Prefix x).postfix).check s) old → (got, new) ≡ made o meanings (on_value operand (unary t)) mid →
    (got, new) ≡ made o meanings ((prefix_phrase x).check s) old
prefix_made o meanings s x t operand got old mid new e h g =
    g
    ∙ sym (then_value o meanings operand (unary t) mid)
    ∙ ap (λ m. made_then m (λ x log. made o meanings (unary t x) log)) h
    ∙ sym (made_bind o meanings ((postfix_phrase (out-Prefix x).postfix).check s) (unary t) old)
    ∙ ap (λ r. made o meanings ((prefix_layer r (out-Prefix x).postfix).check s) old) (sym e) ∙ ap (λ (p : Phrase). made o meanings (p.check s) old) (sym (prefix_is x))

pub postfix_is : (x : Postfix) → postfix_phrase x ≡ postfix (atom_opening (out-Postfix x).atom) (map part_meant (out-Postfix x).parts)
unfolding atom_opening part_meant and_phrase arg_meant args_meant cmp_phrase expr_phrase postfix_phrase prefix_phrase product_phrase sum_phrase
postfix_is x = fold_out-Postfix Opening Part Phrase Argument (List Argument) Phrase Phrase Phrase Phrase Phrase Phrase one_atom one_part one_and one_arg one_args one_cmp one_expr one_postfix one_prefix one_product one_sum x

pub postfix_made : (o : Orders Key Line) (meanings : Key → Meaning) (s : Scope) (x : Postfix) (parts : List PostfixPart) (first : Leaf) (front : Front) (got : Option Typed) (old mid new : Logged Key Line) →
    parts ≡ (out-Postfix x).parts → first ≡ (atom_opening (out-Postfix x).atom).first →
    ((first : Leaf) (parts : List Part) → made o meanings (extended s first front parts) mid ≡ made o meanings (extended s first ((atom_opening (out-Postfix x).atom).front s) parts) old) →
    (got, new) ≡ made o meanings (extended s first front (map part_meant parts)) mid → (got, new) ≡ made o meanings ((postfix_phrase x).check s) old
postfix_made o meanings s x parts first front got old mid new p e f h =
    h ∙ ap (λ l. made o meanings (extended s first front (map part_meant l)) mid) p ∙ f first (map part_meant (out-Postfix x).parts) ∙ ap (λ t. made o meanings (extended s t ((atom_opening (out-Postfix x).atom).front s) (map part_meant (out-Postfix x).parts)) old) e
    ∙ ap (λ (p : Phrase). made o meanings (p.check s) old) (sym (postfix_is x))

-- ---- arguments

pub arg_is : (x : Arg) → arg_meant x ≡ record { label = label_of (out-Arg x).label; value = expr_phrase (out-Arg x).value }
unfolding atom_opening part_meant and_phrase arg_meant args_meant cmp_phrase expr_phrase postfix_phrase prefix_phrase product_phrase sum_phrase
arg_is x = fold_out-Arg Opening Part Phrase Argument (List Argument) Phrase Phrase Phrase Phrase Phrase Phrase one_atom one_part one_and one_arg one_args one_cmp one_expr one_postfix one_prefix one_product one_sum x

given_made : (o : Orders Key Line) (meanings : Key → Meaning) (s : Scope) (x : Arg) (value : Option Typed) (old new : Logged Key Line) → (value, new) ≡ made o meanings ((expr_phrase (out-Arg x).value).check s) old →
    made o meanings (on_value value (λ v. sure (record { label = label_of (out-Arg x).label; first = (expr_phrase (out-Arg x).value).first; value = v }))) new ≡ made o meanings (given s (arg_meant x)) old
given_made o meanings s x value old new h =
    sym (then_value o meanings value (λ v. sure (record { label = label_of (out-Arg x).label; first = (expr_phrase (out-Arg x).value).first; value = v })) new)
    ∙ ap (λ m. made_then m (λ v log. made o meanings (sure (record { label = label_of (out-Arg x).label; first = (expr_phrase (out-Arg x).value).first; value = v })) log)) h
    ∙ sym (made_bind o meanings ((expr_phrase (out-Arg x).value).check s) (λ v. sure (record { label = label_of (out-Arg x).label; first = (expr_phrase (out-Arg x).value).first; value = v })) old)
    ∙ ap (λ a. made o meanings (given s a) old) (sym (arg_is x))

pub arg_none : (o : Orders Key Line) (meanings : Key → Meaning) (s : Scope) (x : Arg) (old new : Logged Key Line) → (None, new) ≡ made o meanings ((expr_phrase (out-Arg x).value).check s) old → (None, new) ≡ made o meanings (given s (arg_meant x)) old
arg_none o meanings s x old new h = given_made o meanings s x None old new h

pub arg_made : (o : Orders Key Line) (meanings : Key → Meaning) (s : Scope) (x : Arg) (v : Typed) (g : Given) (old new : Logged Key Line) → (Some v, new) ≡ made o meanings ((expr_phrase (out-Arg x).value).check s) old →
    g ≡ record { label = label_of (out-Arg x).label; first = (expr_phrase (out-Arg x).value).first; value = v } → (Some g, new) ≡ made o meanings (given s (arg_meant x)) old
arg_made o meanings s x v g old new h e = ap (λ g. (Some g, new)) e ∙ given_made o meanings s x (Some v) old new h

abbrev args_layer : Leaf → Option (Arg × List (Leaf × Arg)) → Leaf → List Argument
args_layer opening list closing = one_args (map-Args Atom PostfixPart And Arg Args Cmp Expr Postfix Prefix Product Sum Opening Part Phrase Argument (List Argument) Phrase Phrase Phrase Phrase Phrase Phrase atom_opening part_meant and_phrase arg_meant args_meant cmp_phrase expr_phrase postfix_phrase prefix_phrase product_phrase sum_phrase (record { opening = opening; list = list; closing = closing }))

pub args_is : (x : Args) → args_meant x ≡ args_layer (out-Args x).opening (out-Args x).list (out-Args x).closing
unfolding atom_opening part_meant and_phrase arg_meant args_meant cmp_phrase expr_phrase postfix_phrase prefix_phrase product_phrase sum_phrase
args_is x = fold_out-Args Opening Part Phrase Argument (List Argument) Phrase Phrase Phrase Phrase Phrase Phrase one_atom one_part one_and one_arg one_args one_cmp one_expr one_postfix one_prefix one_product one_sum x

args_by : (x : Args) (list : Option (Arg × List (Leaf × Arg))) → (out-Args x).list ≡ list → args_meant x ≡ args_layer (out-Args x).opening list (out-Args x).closing
args_by x list e = args_is x ∙ ap (λ l. args_layer (out-Args x).opening l (out-Args x).closing) e

pub args_none : (o : Orders Key Line) (meanings : Key → Meaning) (s : Scope) (x : Args) (log : Logged Key Line) → (out-Args x).list ≡ None → (Some [], log) ≡ made o meanings (givens s (args_meant x)) log
args_none o meanings s x log e = ap (λ a. made o meanings (givens s a) log) (sym (args_by x None e))

pub args_made : (o : Orders Key Line) (meanings : Key → Meaning) (s : Scope) (x : Args) (p : Arg × List (Leaf × Arg)) (more : List (Leaf × Arg)) (none : List Given) (first : Option Given) (before got : Option (List Given)) (old mid new : Logged Key Line) →
    (out-Args x).list ≡ Some p → more ≡ p.1 → none ≡ [] → (first, mid) ≡ made o meanings (given s (arg_meant p.0)) old → before ≡ appended (Some none) first →
    (got, new) ≡ made o meanings (all_behind before (map (given s) (arguments_behind more))) mid → (got, new) ≡ made o meanings (givens s (args_meant x)) old
args_made o meanings s x p more none first before got old mid new e m n h b g =
    g ∙ ap (λ l. made o meanings (all_behind before (map (given s) (arguments_behind l))) mid) m
    ∙ sym (goes_on o meanings (Some []) before (given s (arg_meant p.0)) (map (given s) (arguments_behind p.1)) first old mid h (b ∙ ap (λ none. appended (Some none) first) n))
    ∙ ap (λ a. made o meanings (givens s a) old) (sym (args_by x (Some p) e))

-- ---- parts behind an atom

pub part_member : (dot name : Leaf) → part_meant (behind.Member dot name) ≡ Member name
unfolding atom_opening part_meant and_phrase arg_meant args_meant cmp_phrase expr_phrase postfix_phrase prefix_phrase product_phrase sum_phrase
part_member dot name = ap (fold-PostfixPart Opening Part Phrase Argument (List Argument) Phrase Phrase Phrase Phrase Phrase Phrase one_atom one_part one_and one_arg one_args one_cmp one_expr one_postfix one_prefix one_product one_sum) (sym (behind.rolls-Member dot name)) ∙ fold-roll-PostfixPart Opening Part Phrase Argument (List Argument) Phrase Phrase Phrase Phrase Phrase Phrase one_atom one_part one_and one_arg one_args one_cmp one_expr one_postfix one_prefix one_product one_sum (PostfixPart-F.Member dot name)

pub part_call : (args : Args) → part_meant (behind.Call args) ≡ Call (args_meant args)
unfolding atom_opening part_meant and_phrase arg_meant args_meant cmp_phrase expr_phrase postfix_phrase prefix_phrase product_phrase sum_phrase
part_call args = ap (fold-PostfixPart Opening Part Phrase Argument (List Argument) Phrase Phrase Phrase Phrase Phrase Phrase one_atom one_part one_and one_arg one_args one_cmp one_expr one_postfix one_prefix one_product one_sum) (sym (behind.rolls-Call args)) ∙ fold-roll-PostfixPart Opening Part Phrase Argument (List Argument) Phrase Phrase Phrase Phrase Phrase Phrase one_atom one_part one_and one_arg one_args one_cmp one_expr one_postfix one_prefix one_product one_sum (PostfixPart-F.Call args)

-- ---- atoms

atom_integer : (t : Leaf) → atom_opening (atom.Integer t) ≡ one_atom (Atom-F.Integer t)
unfolding atom_opening part_meant and_phrase arg_meant args_meant cmp_phrase expr_phrase postfix_phrase prefix_phrase product_phrase sum_phrase
atom_integer t = ap (fold-Atom Opening Part Phrase Argument (List Argument) Phrase Phrase Phrase Phrase Phrase Phrase one_atom one_part one_and one_arg one_args one_cmp one_expr one_postfix one_prefix one_product one_sum) (sym (atom.rolls-Integer t)) ∙ fold-roll-Atom Opening Part Phrase Argument (List Argument) Phrase Phrase Phrase Phrase Phrase Phrase one_atom one_part one_and one_arg one_args one_cmp one_expr one_postfix one_prefix one_product one_sum (Atom-F.Integer t)

pub first_integer : (t : Leaf) → t ≡ (atom_opening (atom.Integer t)).first
first_integer t = ap (λ o. o.first) (sym (atom_integer t))

pub front_integer : (s : Scope) (t : Leaf) → (atom_opening (atom.Integer t)).front s ≡ (one_atom (Atom-F.Integer t)).front s
front_integer s t = ap (λ o. o.front s) (atom_integer t)

atom_string : (t : Leaf) → atom_opening (atom.StringText t) ≡ one_atom (Atom-F.StringText t)
unfolding atom_opening part_meant and_phrase arg_meant args_meant cmp_phrase expr_phrase postfix_phrase prefix_phrase product_phrase sum_phrase
atom_string t = ap (fold-Atom Opening Part Phrase Argument (List Argument) Phrase Phrase Phrase Phrase Phrase Phrase one_atom one_part one_and one_arg one_args one_cmp one_expr one_postfix one_prefix one_product one_sum) (sym (atom.rolls-StringText t)) ∙ fold-roll-Atom Opening Part Phrase Argument (List Argument) Phrase Phrase Phrase Phrase Phrase Phrase one_atom one_part one_and one_arg one_args one_cmp one_expr one_postfix one_prefix one_product one_sum (Atom-F.StringText t)

pub first_string : (t : Leaf) → t ≡ (atom_opening (atom.StringText t)).first
first_string t = ap (λ o. o.first) (sym (atom_string t))

pub front_string : (s : Scope) (t : Leaf) → (atom_opening (atom.StringText t)).front s ≡ (one_atom (Atom-F.StringText t)).front s
front_string s t = ap (λ o. o.front s) (atom_string t)

atom_true : (t : Leaf) → atom_opening (atom.True t) ≡ one_atom (Atom-F.True t)
unfolding atom_opening part_meant and_phrase arg_meant args_meant cmp_phrase expr_phrase postfix_phrase prefix_phrase product_phrase sum_phrase
atom_true t = ap (fold-Atom Opening Part Phrase Argument (List Argument) Phrase Phrase Phrase Phrase Phrase Phrase one_atom one_part one_and one_arg one_args one_cmp one_expr one_postfix one_prefix one_product one_sum) (sym (atom.rolls-True t)) ∙ fold-roll-Atom Opening Part Phrase Argument (List Argument) Phrase Phrase Phrase Phrase Phrase Phrase one_atom one_part one_and one_arg one_args one_cmp one_expr one_postfix one_prefix one_product one_sum (Atom-F.True t)

pub first_true : (t : Leaf) → t ≡ (atom_opening (atom.True t)).first
first_true t = ap (λ o. o.first) (sym (atom_true t))

pub front_true : (s : Scope) (t : Leaf) → (atom_opening (atom.True t)).front s ≡ (one_atom (Atom-F.True t)).front s
front_true s t = ap (λ o. o.front s) (atom_true t)

atom_false : (t : Leaf) → atom_opening (atom.False t) ≡ one_atom (Atom-F.False t)
unfolding atom_opening part_meant and_phrase arg_meant args_meant cmp_phrase expr_phrase postfix_phrase prefix_phrase product_phrase sum_phrase
atom_false t = ap (fold-Atom Opening Part Phrase Argument (List Argument) Phrase Phrase Phrase Phrase Phrase Phrase one_atom one_part one_and one_arg one_args one_cmp one_expr one_postfix one_prefix one_product one_sum) (sym (atom.rolls-False t)) ∙ fold-roll-Atom Opening Part Phrase Argument (List Argument) Phrase Phrase Phrase Phrase Phrase Phrase one_atom one_part one_and one_arg one_args one_cmp one_expr one_postfix one_prefix one_product one_sum (Atom-F.False t)

pub first_false : (t : Leaf) → t ≡ (atom_opening (atom.False t)).first
first_false t = ap (λ o. o.first) (sym (atom_false t))

pub front_false : (s : Scope) (t : Leaf) → (atom_opening (atom.False t)).front s ≡ (one_atom (Atom-F.False t)).front s
front_false s t = ap (λ o. o.front s) (atom_false t)

atom_name : (t : Leaf) → atom_opening (atom.Name t) ≡ one_atom (Atom-F.Name t)
unfolding atom_opening part_meant and_phrase arg_meant args_meant cmp_phrase expr_phrase postfix_phrase prefix_phrase product_phrase sum_phrase
atom_name t = ap (fold-Atom Opening Part Phrase Argument (List Argument) Phrase Phrase Phrase Phrase Phrase Phrase one_atom one_part one_and one_arg one_args one_cmp one_expr one_postfix one_prefix one_product one_sum) (sym (atom.rolls-Name t)) ∙ fold-roll-Atom Opening Part Phrase Argument (List Argument) Phrase Phrase Phrase Phrase Phrase Phrase one_atom one_part one_and one_arg one_args one_cmp one_expr one_postfix one_prefix one_product one_sum (Atom-F.Name t)

pub first_name : (t : Leaf) → t ≡ (atom_opening (atom.Name t)).first
first_name t = ap (λ o. o.first) (sym (atom_name t))

pub front_name : (s : Scope) (t : Leaf) → (atom_opening (atom.Name t)).front s ≡ (one_atom (Atom-F.Name t)).front s
front_name s t = ap (λ o. o.front s) (atom_name t)

atom_self : (t : Leaf) → atom_opening (atom.SelfValue t) ≡ one_atom (Atom-F.SelfValue t)
unfolding atom_opening part_meant and_phrase arg_meant args_meant cmp_phrase expr_phrase postfix_phrase prefix_phrase product_phrase sum_phrase
atom_self t = ap (fold-Atom Opening Part Phrase Argument (List Argument) Phrase Phrase Phrase Phrase Phrase Phrase one_atom one_part one_and one_arg one_args one_cmp one_expr one_postfix one_prefix one_product one_sum) (sym (atom.rolls-SelfValue t)) ∙ fold-roll-Atom Opening Part Phrase Argument (List Argument) Phrase Phrase Phrase Phrase Phrase Phrase one_atom one_part one_and one_arg one_args one_cmp one_expr one_postfix one_prefix one_product one_sum (Atom-F.SelfValue t)

pub first_self : (t : Leaf) → t ≡ (atom_opening (atom.SelfValue t)).first
first_self t = ap (λ o. o.first) (sym (atom_self t))

pub front_self : (s : Scope) (t : Leaf) → (atom_opening (atom.SelfValue t)).front s ≡ (one_atom (Atom-F.SelfValue t)).front s
front_self s t = ap (λ o. o.front s) (atom_self t)

atom_parentheses : (p : Leaf × Expr × Leaf) → atom_opening (atom.Parentheses p) ≡ one_atom (Atom-F.Parentheses (p.0, expr_phrase p.1, p.2))
unfolding atom_opening part_meant and_phrase arg_meant args_meant cmp_phrase expr_phrase postfix_phrase prefix_phrase product_phrase sum_phrase
atom_parentheses p = ap (fold-Atom Opening Part Phrase Argument (List Argument) Phrase Phrase Phrase Phrase Phrase Phrase one_atom one_part one_and one_arg one_args one_cmp one_expr one_postfix one_prefix one_product one_sum) (sym (atom.rolls-Parentheses p)) ∙ fold-roll-Atom Opening Part Phrase Argument (List Argument) Phrase Phrase Phrase Phrase Phrase Phrase one_atom one_part one_and one_arg one_args one_cmp one_expr one_postfix one_prefix one_product one_sum (Atom-F.Parentheses p)

pub first_parentheses : (p : Leaf × Expr × Leaf) → p.0 ≡ (atom_opening (atom.Parentheses p)).first
first_parentheses p = ap (λ o. o.first) (sym (atom_parentheses p))

pub front_parentheses : (s : Scope) (p : Leaf × Expr × Leaf) → (atom_opening (atom.Parentheses p)).front s ≡ Value ((expr_phrase p.1).check s)
front_parentheses s p = ap (λ o. o.front s) (atom_parentheses p)

-- ---- where trees begin

pub expr_first : (e : Expr) → (expr_phrase e).first ≡ (prefix_phrase (out-Product (out-Sum (out-Cmp (out-And (out-Expr e).first).first).left).first).first).first
expr_first e =
    ap (λ p. p.first) (expr_is e)
    ∙ ap (λ p. p.first) (and_is (out-Expr e).first)
    ∙ ap (λ p. p.first) (cmp_is (out-And (out-Expr e).first).first)
    ∙ ap (λ p. p.first) (sum_is (out-Cmp (out-And (out-Expr e).first).first).left)
    ∙ ap (λ p. p.first) (product_is (out-Sum (out-Cmp (out-And (out-Expr e).first).first).left).first)

pub prefix_with : (e : Prefix) (t : Leaf) → (out-Prefix e).operator ≡ Some t → (prefix_phrase e).first ≡ place_of t
prefix_with e t h = ap (λ p. p.first) (prefix_is e) ∙ ap (λ o. (prefix_layer o (out-Prefix e).postfix).first) h

pub prefix_bare : (e : Prefix) → (out-Prefix e).operator ≡ None → (prefix_phrase e).first ≡ place_of (atom_opening (out-Postfix (out-Prefix e).postfix).atom).first
prefix_bare e h = ap (λ p. p.first) (prefix_is e) ∙ ap (λ o. (prefix_layer o (out-Prefix e).postfix).first) h ∙ ap (λ p. p.first) (postfix_is (out-Prefix e).postfix)

-- ---- operands and arguments, turn by turn

-- the item at a place, and what stands behind it
one_more : {X : Type 0} (xs : List X) (i : ℕ) (x : X) → i < length xs → x ≡ get_or xs i x → drop i xs ≡ x ∷ drop (i + 1) xs
one_more xs i x lt is = drop_more xs i x lt ∙ ap (λ x. x ∷ drop (i + 1) xs) (sym is)

pub product_turn : (o : Orders Key Line) (meanings : Key → Meaning) (s : Scope) (more : List (ProductOperator × Prefix)) (i : ℕ) (d : ProductOperator × Prefix) (t : Leaf) (left right next : Option Typed) (log mid new : Logged Key Line) → i < length more → d ≡ get_or more i d →
    (right, mid) ≡ made o meanings ((prefix_phrase d.1).check s) log → t ≡ product_operator_token d.0 → (next, new) ≡ made o meanings (on_value (paired left right) (binary t)) mid →
    made o meanings (grouped binary (found left) (checks_in s (product_operands (drop i more)))) log ≡ made o meanings (grouped binary (found next) (checks_in s (product_operands (drop (i + 1) more)))) new
product_turn o meanings s more i d t left right next log mid new lt is h e g =
    ap (λ l. made o meanings (grouped binary (found left) (checks_in s (product_operands l))) log) (one_more more i d lt is)
    ∙ ap (λ t. made o meanings (grouped binary (found left) ((t, (prefix_phrase d.1).check s) ∷ checks_in s (product_operands (drop (i + 1) more)))) log) (sym e)
    ∙ operand_goes_on o meanings t ((prefix_phrase d.1).check s) (checks_in s (product_operands (drop (i + 1) more))) left right next log mid new h g

pub product_end : (o : Orders Key Line) (meanings : Key → Meaning) (s : Scope) (more : List (ProductOperator × Prefix)) (i : ℕ) (left : Option Typed) (log : Logged Key Line) → length more ≤ i →
    made o meanings (grouped binary (found left) (checks_in s (product_operands (drop i more)))) log ≡ (left, log)
product_end o meanings s more i left log le = ap (λ l. made o meanings (grouped binary (found left) (checks_in s (product_operands l))) log) (drop_all i more le)

pub sum_turn : (o : Orders Key Line) (meanings : Key → Meaning) (s : Scope) (more : List (SumOperator × Product)) (i : ℕ) (d : SumOperator × Product) (t : Leaf) (left right next : Option Typed) (log mid new : Logged Key Line) → i < length more → d ≡ get_or more i d →
    (right, mid) ≡ made o meanings ((product_phrase d.1).check s) log → t ≡ sum_operator_token d.0 → (next, new) ≡ made o meanings (on_value (paired left right) (binary t)) mid →
    made o meanings (grouped binary (found left) (checks_in s (sum_operands (drop i more)))) log ≡ made o meanings (grouped binary (found next) (checks_in s (sum_operands (drop (i + 1) more)))) new
sum_turn o meanings s more i d t left right next log mid new lt is h e g =
    ap (λ l. made o meanings (grouped binary (found left) (checks_in s (sum_operands l))) log) (one_more more i d lt is)
    ∙ ap (λ t. made o meanings (grouped binary (found left) ((t, (product_phrase d.1).check s) ∷ checks_in s (sum_operands (drop (i + 1) more)))) log) (sym e)
    ∙ operand_goes_on o meanings t ((product_phrase d.1).check s) (checks_in s (sum_operands (drop (i + 1) more))) left right next log mid new h g

pub sum_end : (o : Orders Key Line) (meanings : Key → Meaning) (s : Scope) (more : List (SumOperator × Product)) (i : ℕ) (left : Option Typed) (log : Logged Key Line) → length more ≤ i →
    made o meanings (grouped binary (found left) (checks_in s (sum_operands (drop i more)))) log ≡ (left, log)
sum_end o meanings s more i left log le = ap (λ l. made o meanings (grouped binary (found left) (checks_in s (sum_operands l))) log) (drop_all i more le)

pub and_turn : (o : Orders Key Line) (meanings : Key → Meaning) (s : Scope) (more : List (Leaf × Cmp)) (i : ℕ) (d : Leaf × Cmp) (t : Leaf) (left right next : Option Typed) (log mid new : Logged Key Line) → i < length more → d ≡ get_or more i d →
    (right, mid) ≡ made o meanings ((cmp_phrase d.1).check s) log → t ≡ d.0 → (next, new) ≡ made o meanings (on_value (paired left right) (binary t)) mid →
    made o meanings (grouped binary (found left) (checks_in s (and_operands (drop i more)))) log ≡ made o meanings (grouped binary (found next) (checks_in s (and_operands (drop (i + 1) more)))) new
and_turn o meanings s more i d t left right next log mid new lt is h e g =
    ap (λ l. made o meanings (grouped binary (found left) (checks_in s (and_operands l))) log) (one_more more i d lt is)
    ∙ ap (λ t. made o meanings (grouped binary (found left) ((t, (cmp_phrase d.1).check s) ∷ checks_in s (and_operands (drop (i + 1) more)))) log) (sym e)
    ∙ operand_goes_on o meanings t ((cmp_phrase d.1).check s) (checks_in s (and_operands (drop (i + 1) more))) left right next log mid new h g

pub and_end : (o : Orders Key Line) (meanings : Key → Meaning) (s : Scope) (more : List (Leaf × Cmp)) (i : ℕ) (left : Option Typed) (log : Logged Key Line) → length more ≤ i →
    made o meanings (grouped binary (found left) (checks_in s (and_operands (drop i more)))) log ≡ (left, log)
and_end o meanings s more i left log le = ap (λ l. made o meanings (grouped binary (found left) (checks_in s (and_operands l))) log) (drop_all i more le)

pub or_turn : (o : Orders Key Line) (meanings : Key → Meaning) (s : Scope) (more : List (Leaf × And)) (i : ℕ) (d : Leaf × And) (t : Leaf) (left right next : Option Typed) (log mid new : Logged Key Line) → i < length more → d ≡ get_or more i d →
    (right, mid) ≡ made o meanings ((and_phrase d.1).check s) log → t ≡ d.0 → (next, new) ≡ made o meanings (on_value (paired left right) (binary t)) mid →
    made o meanings (grouped binary (found left) (checks_in s (or_operands (drop i more)))) log ≡ made o meanings (grouped binary (found next) (checks_in s (or_operands (drop (i + 1) more)))) new
or_turn o meanings s more i d t left right next log mid new lt is h e g =
    ap (λ l. made o meanings (grouped binary (found left) (checks_in s (or_operands l))) log) (one_more more i d lt is)
    ∙ ap (λ t. made o meanings (grouped binary (found left) ((t, (and_phrase d.1).check s) ∷ checks_in s (or_operands (drop (i + 1) more)))) log) (sym e)
    ∙ operand_goes_on o meanings t ((and_phrase d.1).check s) (checks_in s (or_operands (drop (i + 1) more))) left right next log mid new h g

pub or_end : (o : Orders Key Line) (meanings : Key → Meaning) (s : Scope) (more : List (Leaf × And)) (i : ℕ) (left : Option Typed) (log : Logged Key Line) → length more ≤ i →
    made o meanings (grouped binary (found left) (checks_in s (or_operands (drop i more)))) log ≡ (left, log)
or_end o meanings s more i left log le = ap (λ l. made o meanings (grouped binary (found left) (checks_in s (or_operands l))) log) (drop_all i more le)

pub args_turn : (o : Orders Key Line) (meanings : Key → Meaning) (s : Scope) (more : List (Leaf × Arg)) (i : ℕ) (d : Leaf × Arg) (before next : Option (List Given)) (got : Option Given) (log new : Logged Key Line) → i < length more → d ≡ get_or more i d →
    (got, new) ≡ made o meanings (given s (arg_meant d.1)) log → next ≡ appended before got →
    made o meanings (all_behind before (map (given s) (arguments_behind (drop i more)))) log ≡ made o meanings (all_behind next (map (given s) (arguments_behind (drop (i + 1) more)))) new
args_turn o meanings s more i d before next got log new lt is h e =
    ap (λ l. made o meanings (all_behind before (map (given s) (arguments_behind l))) log) (one_more more i d lt is)
    ∙ goes_on o meanings before next (given s (arg_meant d.1)) (map (given s) (arguments_behind (drop (i + 1) more))) got log new h e

pub args_end : (o : Orders Key Line) (meanings : Key → Meaning) (s : Scope) (more : List (Leaf × Arg)) (i : ℕ) (before : Option (List Given)) (log : Logged Key Line) → length more ≤ i →
    made o meanings (all_behind before (map (given s) (arguments_behind (drop i more)))) log ≡ (before, log)
args_end o meanings s more i before log le = ap (λ l. made o meanings (all_behind before (map (given s) (arguments_behind l))) log) (drop_all i more le)

-- ---- what stands behind an atom, part by part

pub member_part : (o : Orders Key Line) (meanings : Key → Meaning) (s : Scope) (first dot name : Leaf) (front : Front) (value : Option Typed) (old new : Logged Key Line) → (value, new) ≡ made o meanings (as_value s first front) old →
    (parts : List Part) → made o meanings (extended s first (MemberOf (found value) name) parts) new ≡ made o meanings (extended s first front (part_meant (behind.Member dot name) ∷ parts)) old
member_part o meanings s first dot name front value old new h parts =
    member_goes_on o meanings s first front name parts value old new h ∙ ap (λ p. made o meanings (extended s first front (p ∷ parts)) old) (sym (part_member dot name))

pub call_part : (o : Orders Key Line) (meanings : Key → Meaning) (s : Scope) (first : Leaf) (args : Args) (front : Front) (value : Option Typed) (old new : Logged Key Line) → (value, new) ≡ made o meanings (call_check s first front (args_meant args)) old →
    (parts : List Part) → made o meanings (extended s first (Value (found value)) parts) new ≡ made o meanings (extended s first front (part_meant (behind.Call args) ∷ parts)) old
call_part o meanings s first args front value old new h parts =
    call_goes_on o meanings s first front (args_meant args) parts value old new h ∙ ap (λ p. made o meanings (extended s first front (p ∷ parts)) old) (sym (part_call args))

pub parts_turn : (o : Orders Key Line) (meanings : Key → Meaning) (s : Scope) (first : Leaf) (parts : List PostfixPart) (i : ℕ) (d : PostfixPart) (front next : Front) (log new : Logged Key Line) → i < length parts → d ≡ get_or parts i d →
    ((more : List Part) → made o meanings (extended s first next more) new ≡ made o meanings (extended s first front (part_meant d ∷ more)) log) →
    made o meanings (extended s first front (map part_meant (drop i parts))) log ≡ made o meanings (extended s first next (map part_meant (drop (i + 1) parts))) new
parts_turn o meanings s first parts i d front next log new lt is h =
    ap (λ l. made o meanings (extended s first front (map part_meant l)) log) (one_more parts i d lt is) ∙ sym (h (map part_meant (drop (i + 1) parts)))

pub parts_end : (o : Orders Key Line) (meanings : Key → Meaning) (s : Scope) (first : Leaf) (parts : List PostfixPart) (i : ℕ) (front : Front) (got : Option Typed) (log new : Logged Key Line) → length parts ≤ i →
    (got, new) ≡ made o meanings (as_value s first front) log → made o meanings (extended s first front (map part_meant (drop i parts))) log ≡ (got, new)
parts_end o meanings s first parts i front got log new le h = ap (λ l. made o meanings (extended s first front (map part_meant l)) log) (drop_all i parts le) ∙ sym h

-- ---- what stands before the parts

-- a value that was made stands for its check
abbrev FrontIsMade : Orders Key Line → (Key → Meaning) → Scope → Front → Front → Logged Key Line → Logged Key Line → Type 0
FrontIsMade o meanings s made_front front old new = (first : Leaf) (parts : List Part) → made o meanings (extended s first made_front parts) new ≡ made o meanings (extended s first front parts) old

pub integer_stands : (o : Orders Key Line) (meanings : Key → Meaning) (s : Scope) (t : Leaf) (v : Typed) (log : Logged Key Line) → v ≡ typed ty.Int (step.Integer t.text ∷ []) → FrontIsMade o meanings s (Value (found (Some v))) ((atom_opening (atom.Integer t)).front s) log log
integer_stands o meanings s t v log e first parts = ap (λ v. made o meanings (extended s first (Value (found (Some v))) parts) log) e ∙ ap (λ f. made o meanings (extended s first f parts) log) (sym (front_integer s t))

pub string_stands : (o : Orders Key Line) (meanings : Key → Meaning) (s : Scope) (t : Leaf) (v : Typed) (log : Logged Key Line) → v ≡ typed ty.String (step.StringText t.text ∷ []) → FrontIsMade o meanings s (Value (found (Some v))) ((atom_opening (atom.StringText t)).front s) log log
string_stands o meanings s t v log e first parts = ap (λ v. made o meanings (extended s first (Value (found (Some v))) parts) log) e ∙ ap (λ f. made o meanings (extended s first f parts) log) (sym (front_string s t))

pub true_stands : (o : Orders Key Line) (meanings : Key → Meaning) (s : Scope) (t : Leaf) (v : Typed) (log : Logged Key Line) → v ≡ typed ty.Bool (step.Truth true ∷ []) → FrontIsMade o meanings s (Value (found (Some v))) ((atom_opening (atom.True t)).front s) log log
true_stands o meanings s t v log e first parts = ap (λ v. made o meanings (extended s first (Value (found (Some v))) parts) log) e ∙ ap (λ f. made o meanings (extended s first f parts) log) (sym (front_true s t))

pub false_stands : (o : Orders Key Line) (meanings : Key → Meaning) (s : Scope) (t : Leaf) (v : Typed) (log : Logged Key Line) → v ≡ typed ty.Bool (step.Truth false ∷ []) → FrontIsMade o meanings s (Value (found (Some v))) ((atom_opening (atom.False t)).front s) log log
false_stands o meanings s t v log e first parts = ap (λ v. made o meanings (extended s first (Value (found (Some v))) parts) log) e ∙ ap (λ f. made o meanings (extended s first f parts) log) (sym (front_false s t))

pub name_stands : (o : Orders Key Line) (meanings : Key → Meaning) (s : Scope) (t : Leaf) (log : Logged Key Line) → FrontIsMade o meanings s (Name t) ((atom_opening (atom.Name t)).front s) log log
name_stands o meanings s t log first parts = ap (λ f. made o meanings (extended s first f parts) log) (sym (front_name s t))

pub self_stands : (o : Orders Key Line) (meanings : Key → Meaning) (s : Scope) (t : Leaf) (value : Option Typed) (old new : Logged Key Line) → (value, new) ≡ made o meanings (self_value s t) old → FrontIsMade o meanings s (Value (found value)) ((atom_opening (atom.SelfValue t)).front s) old new
self_stands o meanings s t value old new h first parts = value_goes_on o meanings s first (self_value s t) parts value old new h ∙ ap (λ f. made o meanings (extended s first f parts) old) (sym (front_self s t))

pub parentheses_stand : (o : Orders Key Line) (meanings : Key → Meaning) (s : Scope) (p : Leaf × Expr × Leaf) (value : Option Typed) (old new : Logged Key Line) → (value, new) ≡ made o meanings ((expr_phrase p.1).check s) old → FrontIsMade o meanings s (Value (found value)) ((atom_opening (atom.Parentheses p)).front s) old new
parentheses_stand o meanings s p value old new h first parts = value_goes_on o meanings s first ((expr_phrase p.1).check s) parts value old new h ∙ ap (λ f. made o meanings (extended s first f parts) old) (sym (front_parentheses s p))

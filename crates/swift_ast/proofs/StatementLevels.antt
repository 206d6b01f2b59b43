-- Statements and blocks close the brackets that they open.
use Rattle.std.proofs.Common.{ℕ, zero, suc, Bool, Some, None, refl}
use Rattle.std.proofs.lemmas.Bool.{and_parts}
use Rattle.grammar.specs.Forms.{both, perhaps, either}
use Rattle.grammar.proofs.Balance.{none_balanced, balanced_of_any, both_balanced, perhaps_balanced, either_balanced, beginning_balanced, both_on_balanced, lines_balanced, until_balanced, shown_balanced}
use Rattle.swift_ast.specs.declared.terminals.Terminal.TheVariants as T
use Rattle.swift_ast.specs.declared.expressions.Postfix.{Postfix}
use Rattle.swift_ast.specs.Leaves.{Leaf}
use Rattle.swift_ast.specs.Tests.{on, is, is_specifier, begins_stmt, begins_next_stmt, begins_value, opens_level, closes_level}
use Rattle.swift_ast.specs.Expressions.{word, expr_form, postfix_form}
use Rattle.swift_ast.specs.Statements.{specifier_form, type_form, annotation_rule, binding_rule, return_rule, stmt_form, block_form, if_form}
use Rattle.swift_ast.proofs.ExpressionLevels.{BalancedBelow, IsBalanced, token_level, brackets_level, expr_balanced_to, postfix_balanced_to}
use Rattle.swift_ast.proofs.StatementShows.{specifier_shows, type_shows, block_shows, stmts_form, else_row_form, behind_else_form, is_last, rows_show, else_parts_form, if_shows, plain_form, plain_shows, stmt_shows, valued_form, rest_form, is_target}
use Rattle.swift_ast.proofs.StatementLaws.{annotated_form, bound_form, value_form, conditional_form, if_behind_form, if_body_form, if_rest_form, while_form}

abbrev O : Leaf → Bool
O = on opens_level

abbrev C : Leaf → Bool
C = on closes_level

pub specifier_level : (n : ℕ) → BalancedBelow n specifier_form
specifier_level n = shown_balanced O C n specifier_shows (token_level is_specifier n refl refl)

pub type_level : (n : ℕ) → BalancedBelow n type_form
type_level n = shown_balanced O C n type_shows (token_level (is T.Identifier) n refl refl)

pub typed_level : (n : ℕ) → BalancedBelow n (both (word T.Colon) type_form)
typed_level n = both_balanced O C (word T.Colon) type_form n (token_level (is T.Colon) n refl refl) (type_level n)

pub annotation_level : (n : ℕ) → BalancedBelow n annotation_rule
annotation_level n = perhaps_balanced O C (on (is T.Colon)) (both (word T.Colon) type_form) n (typed_level n)

pub valued_level : (n : ℕ) → BalancedBelow n valued_form
valued_level n = both_balanced O C (word T.Assign) expr_form n (token_level (is T.Assign) n refl refl) (expr_balanced_to n)

pub binding_level : (n : ℕ) → BalancedBelow n binding_rule
binding_level n = both_balanced O C specifier_form bound_form n (specifier_level n) (both_balanced O C (word T.Identifier) annotated_form n (token_level (is T.Identifier) n refl refl) (both_balanced O C annotation_rule valued_form n (annotation_level n) (valued_level n)))

return_level : (n : ℕ) → BalancedBelow n return_rule
return_level n = both_balanced O C (word T.Return) (perhaps (on begins_value) value_form) n (token_level (is T.Return) n refl refl) (perhaps_balanced O C (on begins_value) value_form n (beginning_balanced O C (on begins_value) expr_form n (expr_balanced_to n)))

rest_level : (p : Postfix) (n : ℕ) → BalancedBelow n (rest_form p)
rest_level p n None held small r = refl
rest_level p n (Some v) held small r = valued_level n v held small ((and_parts (is_target p) (valued_form.is_well_formed v) r).1)

plain_level : (n : ℕ) → BalancedBelow n plain_form
plain_level n = shown_balanced O C n plain_shows (both_on_balanced O C postfix_form rest_form n (postfix_balanced_to n) (λ p. rest_level p n))

conditional_level : (n : ℕ) → BalancedBelow n block_form → BalancedBelow n conditional_form
conditional_level n b = both_balanced O C expr_form block_form n (expr_balanced_to n) b

if_behind_level : (n : ℕ) → BalancedBelow n block_form → BalancedBelow n if_behind_form
if_behind_level n b = both_balanced O C (word T.If) conditional_form n (token_level (is T.If) n refl refl) (conditional_level n b)

else_parts_level : (n : ℕ) → BalancedBelow n block_form → BalancedBelow n else_parts_form
else_parts_level n b = shown_balanced O C n rows_show (until_balanced O C (on (is T.Else)) is_last else_row_form n (both_balanced O C (word T.Else) behind_else_form n (token_level (is T.Else) n refl refl) (either_balanced O C if_behind_form block_form n (if_behind_level n b) b)))

if_level : (n : ℕ) → BalancedBelow n block_form → BalancedBelow n if_form
if_level n b = shown_balanced O C n if_shows (both_balanced O C (word T.If) if_rest_form n (token_level (is T.If) n refl refl) (both_balanced O C expr_form if_body_form n (expr_balanced_to n) (both_balanced O C block_form else_parts_form n b (else_parts_level n b))))

while_level : (n : ℕ) → BalancedBelow n block_form → BalancedBelow n while_form
while_level n b = both_balanced O C (word T.While) conditional_form n (token_level (is T.While) n refl refl) (conditional_level n b)

stmt_level : (n : ℕ) → BalancedBelow n block_form → BalancedBelow n stmt_form
stmt_level n b = shown_balanced O C n stmt_shows
    (either_balanced O C binding_rule (either return_rule (either if_form (either while_form plain_form))) n (binding_level n)
    (either_balanced O C return_rule (either if_form (either while_form plain_form)) n (return_level n)
    (either_balanced O C if_form (either while_form plain_form) n (if_level n b) (either_balanced O C while_form plain_form n (while_level n b) (plain_level n)))))

block_level : (n : ℕ) → BalancedBelow n stmt_form → BalancedBelow (suc n) block_form
block_level n b = shown_balanced O C (suc n) block_shows (brackets_level (is T.LeftBrace) (is T.RightBrace) stmts_form n refl refl refl (lines_balanced O C (on begins_stmt) (on begins_next_stmt) stmt_form n b))

pub block_balanced_to : (n : ℕ) → BalancedBelow n block_form
block_balanced_to zero = none_balanced O C block_form
block_balanced_to (suc n) = block_level n (stmt_level n (block_balanced_to n))

-- a block closes what it opens
pub block_balanced : IsBalanced block_form
block_balanced = balanced_of_any O C block_form block_balanced_to

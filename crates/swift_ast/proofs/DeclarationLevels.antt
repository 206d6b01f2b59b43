-- Declarations close the brackets that they open, and so does a whole file.
use Rattle.std.proofs.Common.{◌<◌, ℕ, suc, Bool, refl, arith}
use Rattle.grammar.specs.Forms.{Form, token, both, either}
use Rattle.grammar.proofs.Balance.{balanced_of_any, balanced_to, both_balanced, both_on_balanced, many_balanced, chain_balanced, perhaps_balanced, either_balanced, beginning_balanced, lines_balanced, shown_balanced, enclosed_balanced}
use Rattle.swift_ast.specs.declared.terminals.Terminal.TheVariants as T
use Rattle.swift_ast.specs.Leaves.{Leaf}
use Rattle.swift_ast.specs.Tests.{on, is, is_access, is_label, begins_next_decl, begins_struct_member, begins_extension_member, on_new_line, opens_level, closes_level}
use Rattle.swift_ast.specs.Expressions.{word}
use Rattle.swift_ast.specs.Statements.{type_form, block_form}
use Rattle.swift_ast.specs.Declarations.{access_form, global_form, param_form, params_rule, result_rule, func_form, initial_rule, typed_rule, inferred_rule, stored_value_form, computed_form, struct_member_form, struct_form, extension_member_form, extension_form, alias_form, named_form, decl_form, decls_form}
use Rattle.swift_ast.proofs.ExpressionLevels.{BalancedBelow, IsBalanced, token_level, brackets_level}
use Rattle.swift_ast.proofs.StatementShows.{valued_form}
use Rattle.swift_ast.proofs.StatementLevels.{type_level, typed_level, valued_level, binding_level, block_balanced_to}
use Rattle.swift_ast.proofs.DeclarationShows.{access_shows, global_shows, typed_form, name_typed_form, tail_form, param_words, param_shows, param_list_form, func_shows, stored_value_shows, computed_shows, value_or_body_form, var_tail_form, var_typed_form, var_rest_form, var_form, let_form, struct_member_shows, struct_shows, extension_shows, alias_shows, extension_member_shows, named_shows, decl_shows}
use Rattle.swift_ast.proofs.DeclarationLaws.{access_rule, tail_either, result_body_form, type_initial_form, typed_body_form, colon_body_form, computed_name_form, type_tail_form, var_name_form, let_name_form, struct_line_form, struct_members_form, struct_body_form, struct_name_form, extension_line_form, extension_members_form, extension_body_form, extension_name_form, assign_type_form, alias_name_form, access_named_form, next_decl_form, func_name_form, opened_form}

abbrev O : Leaf → Bool
O = on opens_level

abbrev C : Leaf → Bool
C = on closes_level

small_suc : {a n : ℕ} → a < n → a < suc n
small_suc {a} {n} h = omega arith

access_level : (n : ℕ) → BalancedBelow n access_rule
access_level n = perhaps_balanced O C (on is_access) access_form n (shown_balanced O C n access_shows (token_level is_access n refl refl))

name_typed_level : (n : ℕ) → BalancedBelow n name_typed_form
name_typed_level n = both_balanced O C (word T.Identifier) typed_form n (token_level (is T.Identifier) n refl refl) (typed_level n)

tail_level : (t : Leaf) (n : ℕ) → BalancedBelow n (tail_form t)
tail_level t n x held small r = either_balanced O C name_typed_form typed_form n (name_typed_level n) (typed_level n) x held small (tail_either t x r)

param_level : (n : ℕ) → BalancedBelow n param_form
param_level n = shown_balanced O C n param_shows (both_on_balanced O C (token (on is_label)) tail_form n (token_level is_label n refl refl) (λ t. tail_level t n))

params_level : (n : ℕ) → BalancedBelow n params_rule
params_level n = perhaps_balanced O C (on is_label) param_list_form n (chain_balanced O C (on (is T.Comma)) (word T.Comma) param_form n (token_level (is T.Comma) n refl refl) (param_level n))

result_level : (n : ℕ) → BalancedBelow n result_rule
result_level n = perhaps_balanced O C (on (is T.Arrow)) (both (word T.Arrow) type_form) n (both_balanced O C (word T.Arrow) type_form n (token_level (is T.Arrow) n refl refl) (type_level n))

-- The brackets of parameters close before the result: what stands between them, and then what stands behind.
enclosed_then : {X Y : Type 0} (f : Form Leaf X) (g : Form Leaf Y) (n : ℕ) → BalancedBelow n f → BalancedBelow n g → BalancedBelow n (both (word T.LeftParenthesis) (both f (both (word T.RightParenthesis) g)))
enclosed_then f g n bf bg = Rattle.grammar.proofs.Balance.around_balanced O C (on (is T.LeftParenthesis)) (on (is T.RightParenthesis)) f g n (Rattle.swift_ast.proofs.TestFacts.within (is T.LeftParenthesis) opens_level refl) (Rattle.swift_ast.proofs.TestFacts.apart (is T.RightParenthesis) opens_level refl) (Rattle.swift_ast.proofs.TestFacts.within (is T.RightParenthesis) closes_level refl) bf bg

func_level : (n : ℕ) → BalancedBelow n func_form
func_level n = shown_balanced O C n func_shows (both_balanced O C (word T.Func) func_name_form n (token_level (is T.Func) n refl refl) (both_balanced O C (word T.Identifier) opened_form n (token_level (is T.Identifier) n refl refl)
    (enclosed_then params_rule result_body_form n (params_level n) (both_balanced O C result_rule block_form n (result_level n) (block_balanced_to n)))))

initial_level : (n : ℕ) → BalancedBelow n initial_rule
initial_level n = perhaps_balanced O C (on (is T.Assign)) valued_form n (valued_level n)

stored_value_level : (n : ℕ) → BalancedBelow n stored_value_form
stored_value_level n = shown_balanced O C n stored_value_shows (either_balanced O C typed_rule inferred_rule n (both_balanced O C (word T.Colon) type_initial_form n (token_level (is T.Colon) n refl refl) (both_balanced O C type_form initial_rule n (type_level n) (initial_level n))) (valued_level n))

computed_level : (n : ℕ) → BalancedBelow n computed_form
computed_level n = shown_balanced O C n computed_shows (both_balanced O C (word T.Var) computed_name_form n (token_level (is T.Var) n refl refl) (both_balanced O C (word T.Identifier) colon_body_form n (token_level (is T.Identifier) n refl refl)
    (both_balanced O C (word T.Colon) typed_body_form n (token_level (is T.Colon) n refl refl) (both_balanced O C type_form block_form n (type_level n) (block_balanced_to n)))))

let_level : (n : ℕ) → BalancedBelow n let_form
let_level n = both_balanced O C (word T.Let) let_name_form n (token_level (is T.Let) n refl refl) (both_balanced O C (word T.Identifier) stored_value_form n (token_level (is T.Identifier) n refl refl) (stored_value_level n))

var_level : (n : ℕ) → BalancedBelow n var_form
var_level n = both_balanced O C (word T.Var) var_name_form n (token_level (is T.Var) n refl refl) (both_balanced O C (word T.Identifier) var_rest_form n (token_level (is T.Identifier) n refl refl)
    (either_balanced O C var_typed_form valued_form n (both_balanced O C (word T.Colon) type_tail_form n (token_level (is T.Colon) n refl refl) (both_balanced O C type_form var_tail_form n (type_level n)
    (perhaps_balanced O C (on Rattle.swift_ast.proofs.DeclarationShows.begins_tail) value_or_body_form n (either_balanced O C valued_form block_form n (valued_level n) (block_balanced_to n))))) (valued_level n)))

struct_member_level : (n : ℕ) → BalancedBelow n struct_member_form
struct_member_level n = shown_balanced O C n struct_member_shows (either_balanced O C let_form (either var_form func_form) n (let_level n) (either_balanced O C var_form func_form n (var_level n) (func_level n)))

body_level : {X : Type 0} (f : Form Leaf X) (n : ℕ) → BalancedBelow n f → BalancedBelow n (both (word T.LeftBrace) (both f (word T.RightBrace)))
body_level f n b x held small r = brackets_level (is T.LeftBrace) (is T.RightBrace) f n refl refl refl b x held (small_suc small) r

struct_level : (n : ℕ) → BalancedBelow n struct_form
struct_level n = shown_balanced O C n struct_shows (both_balanced O C (word T.Struct) struct_name_form n (token_level (is T.Struct) n refl refl) (both_balanced O C (word T.Identifier) struct_body_form n (token_level (is T.Identifier) n refl refl)
    (body_level struct_members_form n (lines_balanced O C (on begins_struct_member) (on (on_new_line begins_struct_member)) struct_line_form n (both_balanced O C access_rule struct_member_form n (access_level n) (struct_member_level n))))))

extension_member_level : (n : ℕ) → BalancedBelow n extension_member_form
extension_member_level n = shown_balanced O C n extension_member_shows (either_balanced O C computed_form func_form n (computed_level n) (func_level n))

extension_level : (n : ℕ) → BalancedBelow n extension_form
extension_level n = shown_balanced O C n extension_shows (both_balanced O C (word T.Extension) extension_name_form n (token_level (is T.Extension) n refl refl) (both_balanced O C (word T.Identifier) extension_body_form n (token_level (is T.Identifier) n refl refl)
    (body_level extension_members_form n (lines_balanced O C (on begins_extension_member) (on (on_new_line begins_extension_member)) extension_line_form n (both_balanced O C access_rule extension_member_form n (access_level n) (extension_member_level n))))))

alias_level : (n : ℕ) → BalancedBelow n alias_form
alias_level n = shown_balanced O C n alias_shows (both_balanced O C (word T.Typealias) alias_name_form n (token_level (is T.Typealias) n refl refl) (both_balanced O C (word T.Identifier) assign_type_form n (token_level (is T.Identifier) n refl refl)
    (both_balanced O C (word T.Assign) type_form n (token_level (is T.Assign) n refl refl) (type_level n))))

global_level : (n : ℕ) → BalancedBelow n global_form
global_level n = shown_balanced O C n global_shows (binding_level n)

named_level : (n : ℕ) → BalancedBelow n named_form
named_level n = shown_balanced O C n named_shows (either_balanced O C global_form (either func_form (either struct_form alias_form)) n (global_level n)
    (either_balanced O C func_form (either struct_form alias_form) n (func_level n) (either_balanced O C struct_form alias_form n (struct_level n) (alias_level n))))

decl_level : (n : ℕ) → BalancedBelow n decl_form
decl_level n = shown_balanced O C n decl_shows (either_balanced O C access_named_form extension_form n (both_balanced O C access_rule named_form n (access_level n) (named_level n)) (extension_level n))

-- the declarations of a file close what they open
pub decls_balanced : IsBalanced decls_form
decls_balanced = balanced_of_any O C decls_form (λ n. many_balanced O C (on begins_next_decl) next_decl_form n (beginning_balanced O C (on begins_next_decl) decl_form n (decl_level n)))

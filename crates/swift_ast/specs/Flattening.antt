-- What a walk over a tree has given, and what is still to follow.
use Rattle.std.specs.Prelude.{◌≡◌, ℕ, ◌≤◌, List, [], ◌∷◌, ◌++◌, ◌+◌, ◌*◌, length, map}
use Rattle.grammar.specs.Forms.{both, in_row}
use Rattle.swift_ast.specs.declared.terminals.Terminal.TheVariants as T
use Rattle.swift_ast.specs.declared.tokens.Token.{Token}
use Rattle.swift_ast.specs.declared.flattening.part.Part.{Part}
use Rattle.swift_ast.specs.declared.flattening.part.Part.TheVariants as part
use Rattle.swift_ast.specs.Leaves.{Leaf, leaf_of}
use Rattle.swift_ast.specs.Expressions.{word, expr_form, and_form, cmp_form, sum_form, product_form, prefix_form, part_form, arg_form, sum_operator_form, product_operator_form}
use Rattle.swift_ast.specs.Statements.{block_form, stmt_form, else_if_form}
use Rattle.swift_ast.specs.Declarations.{decls_form, param_form, with_access, struct_member_form, extension_member_form}

-- The tokens given so far, those that still follow, and how many parts these are in.
pub record State : Type 0 where
  pub done : List Leaf
  pub waiting : List Leaf
  pub load : ℕ

-- The tokens of a part.
abbrev pub part_tokens : Part → List Leaf
part_tokens (part.One t) = t.now ∷ []
part_tokens (part.Expr x) = expr_form.tokens x.now
part_tokens (part.Sum x) = sum_form.tokens x.now
part_tokens (part.OrRest xs) = in_row (both (word T.Or) and_form) xs.now
part_tokens (part.AndRest xs) = in_row (both (word T.And) cmp_form) xs.now
part_tokens (part.SumRest xs) = in_row (both sum_operator_form product_form) xs.now
part_tokens (part.ProductRest xs) = in_row (both product_operator_form prefix_form) xs.now
part_tokens (part.PartRest xs) = in_row part_form xs.now
part_tokens (part.ArgRest xs) = in_row (both (word T.Comma) arg_form) xs.now
part_tokens (part.Block x) = block_form.tokens x.now
part_tokens (part.StmtRest xs) = in_row stmt_form xs.now
part_tokens (part.ElseIfRest xs) = in_row else_if_form xs.now
part_tokens (part.MemberRest xs) = in_row (both (word T.Dot) (word T.Identifier)) xs.now
part_tokens (part.DeclRest xs) = decls_form.tokens xs.now
part_tokens (part.ParamRest xs) = in_row (both (word T.Comma) param_form) xs.now
part_tokens (part.StructRest xs) = in_row (with_access struct_member_form) xs.now
part_tokens (part.ExtensionRest xs) = in_row (with_access extension_member_form) xs.now

-- The last part follows first.
abbrev pub to_follow : List Part → List Leaf
to_follow [] = []
to_follow (p ∷ ps) = to_follow ps ++ part_tokens p

abbrev pub state : List Token → List Part → State
state tokens parts = record { done = map leaf_of tokens; waiting = to_follow parts; load = length parts }

-- What was given and what follows are the same as before, with these tokens between.
abbrev pub Spells : List Leaf → State → State → Type 0
Spells ts old new = new.done ++ new.waiting ≡ old.done ++ (ts ++ old.waiting)

-- A token given weighs as much as sixteen parts that follow; the sum fell by n at least.
abbrev pub Lightens : ℕ → State → State → Type 0
Lightens n old new = new.load + 16 * length old.done + n ≤ old.load + 16 * length new.done

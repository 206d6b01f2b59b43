use Rattle.std.proofs.Common.{map, sym, ◌∙◌, subst, Err}
use Rattle.swift_ast.specs.Leaves.{leaf_of}
use Rattle.swift_parser.specs.Whole.{AreAll}
use Rattle.swift_parser.proofs.DeclsLemmas.{cut_tree, deep_gives}
use Rattle.swift_parser.proofs.file.cut_decls.Goals as goal

pub returns-in-Ok : goal.returns-in-Ok
returns-in-Ok c = absurd (cut_tree c.args.tokens.now c.split_at.result.0.now c.args.at c.in-Ok.all c.requires.deep c.split_at.ensures.front c.in-Ok.ensures)

pub returns-then-is_empty : goal.returns-then-is_empty
returns-then-is_empty c =
    deep_gives c.args.bytes.now c.args.tokens.now c.split_at.result.0.now c.split_at-2.result.1.now c.in-Err-At.rest.now c.args.at c.too_deep.result c.requires.deep c.split_at.ensures.front c.split_at-2.ensures.back (subst (λ e. AreAll (Err e) (map leaf_of c.split_at.result.0.now)) c.in-Err-At.field-0-is c.in-Err-At.ensures) (sym c.is_empty.ensures ∙ c.if-is_empty.true) c.too_deep.ensures

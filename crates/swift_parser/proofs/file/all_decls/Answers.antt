use Rattle.std.proofs.Common.{map, sym, ◌∙◌}
use Rattle.swift_ast.specs.Leaves.{leaf_of}
use Rattle.swift_parser.proofs.DeclsLemmas.{left_over, stopped}
use Rattle.swift_parser.proofs.file.all_decls.Goals as goal

pub returns-else-is_empty : goal.returns-else-is_empty
returns-else-is_empty c =
    left_over c.in-Ok.all (map leaf_of c.args.tokens.now) c.new-left.result c.decls.new.tokens c.rest-rest.result.now c.new-left.ensures c.rest-rest.ensures (sym c.is_empty.ensures ∙ c.if-is_empty.false) c.in-Ok.ensures.reads

pub returns-in-Err-Unexpected : goal.returns-in-Err-Unexpected
returns-in-Err-Unexpected c =
    stopped c.in-Err-Unexpected.field-0 (map leaf_of c.args.tokens.now) c.new-left.result c.decls.new.tokens c.rest.result.now c.in-Err-Unexpected.field-0-is c.new-left.ensures c.rest.ensures c.in-Err-Unexpected.ensures.reads

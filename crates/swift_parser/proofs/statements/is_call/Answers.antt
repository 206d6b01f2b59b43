use Rattle.std.proofs.Common.{sym, ◌∙◌, ap}
use Rattle.swift_ast.specs.Statements.{is_args, ends_by}
use Rattle.swift_parser.proofs.StatementLemmas as lemmas
use Rattle.swift_parser.proofs.statements.is_call.Goals as goal

pub returns-in-Some : goal.returns-in-Some
returns-in-Some c =
    c.is_args.ensures ∙ sym (lemmas.ends_last c.in-Some.last.now c.as_slice.result.now c.in-Some.ensures.item.3.0 c.in-Some.ensures.item.1) ∙ ap (λ ts. ends_by is_args ts) c.as_slice.ensures

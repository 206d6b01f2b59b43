use Rattle.std.proofs.Common.{◌∷◌, sym, ap, subst, Some}
use Rattle.grammar.specs.Forms.{token}
use Rattle.grammar.specs.Faults.{Parsed}
use Rattle.grammar.proofs.Basics.{refused_from}
use Rattle.swift_ast.specs.declared.terminals.Terminal.TheVariants as T
use Rattle.swift_ast.specs.Tests.{on, is}
use Rattle.swift_ast.specs.Expressions.{args_form}
use Rattle.swift_ast.proofs.ExpressionShows as shows
use Rattle.swift_ast.proofs.ExpressionExits as exits
use Rattle.swift_parser.proofs.Exits.{passes, uneaten}
use Rattle.swift_parser.proofs.expressions.Grammar.args_behind.Goals as goal

pub returns-in_err-list-clause-reads : goal.returns-in_err-list-clause-reads
returns-in_err-list-clause-reads g c =
    let e = uneaten (on (is T.RightParenthesis)) c.in_ok-closing.field-0 c.args.tokens.now c.eat.new.self c.in_ok-closing.ensures.eaten c.in_default.is in
    passes shows.arg_list_form args_form c.from_residual-in_err-list.result c.in_err-list.field-0.0 c.eat.new.self c.arg_list.new.tokens (c.args.opening ∷ c.args.tokens.now) c.arg_list.new.tokens c.from_residual-in_err-list.ensures.1 c.in_err-list.ensures.reads
    (λ r. refused_from args_form (c.args.opening ∷ c.eat.new.self) (c.args.opening ∷ c.args.tokens.now) c.arg_list.new.tokens (exits.args_inside c.args.opening c.requires.opening e.1 r) (ap (λ ts. c.args.opening ∷ ts) e.0))

pub returns-in_err-closing-2-clause-reads : goal.returns-in_err-closing-2-clause-reads
returns-in_err-closing-2-clause-reads g c =
    let e = uneaten (on (is T.RightParenthesis)) c.in_ok-closing.field-0 c.args.tokens.now c.eat.new.self c.in_ok-closing.ensures.eaten c.in_default.is in
    passes (token (on (is T.RightParenthesis))) args_form c.from_residual-in_err-closing-2.result c.in_err-closing-2.field-0.0 c.arg_list.new.tokens c.expect.new.self (c.args.opening ∷ c.args.tokens.now) c.expect.new.self c.from_residual-in_err-closing-2.ensures.1 c.in_err-closing-2.ensures.reads
    (λ r. refused_from args_form (c.args.opening ∷ c.eat.new.self) (c.args.opening ∷ c.args.tokens.now) c.expect.new.self (exits.args_unclosed c.args.opening c.requires.opening c.in_ok-list.ensures.reads r) (ap (λ ts. c.args.opening ∷ ts) e.0))

pub returns-clause-reads : goal.returns-clause-reads
returns-clause-reads g c =
    let e = uneaten (on (is T.RightParenthesis)) c.in_ok-closing.field-0 c.args.tokens.now c.eat.new.self c.in_ok-closing.ensures.eaten c.in_default.is in
    subst (λ ts. Parsed args_form (shows.args_made (c.args.opening, (Some c.in_ok-list.list, c.in_ok-closing-2.closing))) (args_form.continues (shows.args_made (c.args.opening, (Some c.in_ok-list.list, c.in_ok-closing-2.closing)))) (c.args.opening ∷ ts) c.expect.new.self) (sym e.0)
    (exits.args_done c.args.opening c.in_ok-closing-2.closing c.requires.opening c.in_ok-list.ensures.reads c.in_ok-closing-2.ensures.reads)

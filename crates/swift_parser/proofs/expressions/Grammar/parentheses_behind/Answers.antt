use Rattle.std.proofs.Common.{◌∷◌, sym, subst}
use Rattle.grammar.specs.Forms.{token}
use Rattle.grammar.specs.Faults.{Parsed}
use Rattle.swift_ast.specs.declared.terminals.Terminal.TheVariants as T
use Rattle.swift_ast.specs.declared.expressions.Atom.TheVariants as atom
use Rattle.swift_ast.specs.Tests.{on, is}
use Rattle.swift_ast.specs.Expressions.{expr_form, atom_form}
use Rattle.swift_ast.proofs.ExpressionExits as exits
use Rattle.swift_parser.proofs.Exits.{passes}
use Rattle.swift_parser.proofs.expressions.Grammar.parentheses_behind.Goals as goal

pub returns-in_err-inner-clause-reads : goal.returns-in_err-inner-clause-reads
returns-in_err-inner-clause-reads g c = passes expr_form atom_form c.from_residual.result c.in_err-inner.field-0.0 c.args.tokens.now c.inner.new.tokens (c.args.opening ∷ c.args.tokens.now) c.inner.new.tokens c.from_residual.ensures.1 c.in_err-inner.ensures.reads (λ r. exits.parentheses_inside c.args.opening c.requires.opening r)

pub returns-in_err-closing-clause-reads : goal.returns-in_err-closing-clause-reads
returns-in_err-closing-clause-reads g c = passes (token (on (is T.RightParenthesis))) atom_form c.from_residual-in_err-closing.result c.in_err-closing.field-0.0 c.inner.new.tokens c.expect.new.self (c.args.opening ∷ c.args.tokens.now) c.expect.new.self c.from_residual-in_err-closing.ensures.1 c.in_err-closing.ensures.reads
    (λ r. exits.parentheses_unclosed c.args.opening c.requires.opening c.in_ok-inner.ensures.reads r)

pub returns-clause-reads : goal.returns-clause-reads
returns-clause-reads g c =
    subst (λ parts. Parsed atom_form (atom.Parentheses parts) (atom_form.continues (atom.Parentheses parts)) (c.args.opening ∷ c.args.tokens.now) c.expect.new.self) (sym c.in_ok-parts.ensures)
    (exits.parentheses_done c.args.opening c.in_ok-closing.closing c.requires.opening c.in_ok-inner.ensures.reads c.in_ok-closing.ensures.reads)

use Rattle.std.proofs.Common.{sym, subst, ◌∙◌}
use Rattle.grammar.proofs.Basics.{not_begins}
use Rattle.swift_ast.specs.Tests.{on, begins_part}
use Rattle.swift_ast.specs.Expressions.{postfix_form, atom_form}
use Rattle.swift_ast.proofs.ExpressionExits as exits
use Rattle.swift_parser.proofs.Exits.{passes}
use Rattle.swift_parser.proofs.expressions.Grammar.postfix.Goals as goal

pub returns-in_err-front-clause-reads : goal.returns-in_err-front-clause-reads
returns-in_err-front-clause-reads g c = passes atom_form postfix_form c.from_residual.result c.in_err-front.field-0.0 c.args.tokens.now c.atom.new.tokens c.args.tokens.now c.atom.new.tokens c.from_residual.ensures.1 c.in_err-front.ensures.reads (λ r. exits.postfix_first r)

pub returns-then-sees-clause-reads : goal.returns-then-sees-clause-reads
returns-then-sees-clause-reads g c = c.parts_behind.ensures.reads c.args.tokens.now c.in_ok-front.ensures.reads

pub returns-clause-reads : goal.returns-clause-reads
returns-clause-reads g c = exits.postfix_done (c.in_ok-front.front, c.new.result)
    (subst (λ ps. exits.PostfixSo (c.in_ok-front.front, ps) c.args.tokens.now c.atom.new.tokens) (sym c.new.ensures) (exits.postfix_begun_with c.in_ok-front.ensures.reads))
    (not_begins (on begins_part) c.atom.new.tokens (sym c.sees.ensures ∙ c.if-sees.false))

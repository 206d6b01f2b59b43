use Rattle.swift_ast.specs.Expressions.{prefix_form, and_form}
use Rattle.swift_ast.proofs.ExpressionExits as exits
use Rattle.swift_parser.proofs.Exits.{passes}
use Rattle.swift_parser.proofs.expressions.Grammar.and.Goals as goal

pub returns-in_err-front-clause-reads : goal.returns-in_err-front-clause-reads
returns-in_err-front-clause-reads g c = passes prefix_form and_form c.from_residual.result c.in_err-front.field-0.0 c.args.tokens.now c.prefix.new.tokens c.args.tokens.now c.prefix.new.tokens c.from_residual.ensures.1 c.in_err-front.ensures.reads
    (λ r. exits.and_first (exits.cmp_first (exits.sum_first (exits.product_first r))))

pub returns-clause-reads : goal.returns-clause-reads
returns-clause-reads g c = c.and_behind.ensures.reads c.args.tokens.now c.in_ok-front.ensures.reads

use Rattle.std.proofs.Common.{sym, subst, List}
use Rattle.swift_ast.specs.Leaves.{Leaf}
use Rattle.swift_ast.specs.Tests.{on}
use Rattle.grammar.specs.Forms.{token}
use Rattle.grammar.specs.Faults.{FailsAt}
use Rattle.grammar.proofs.Sequences.{token_refused}
use Rattle.token_cursor.specs.Reading.{test_of, Eaten}
use Rattle.token_cursor.proofs.Samples.{sample_of, sample_holds}
use Rattle.token_cursor.proofs.cursor.TokenCursor.expect.Goals as goal

pub returns-in-None-clause-reads : goal.returns-in-None-clause-reads
returns-in-None-clause-reads c =
    let e = subst (λ o. Eaten (on (test_of c.args.test)) o c.args.self.now c.eat.new.self) c.in-None.is c.in_ok-leaf.ensures.eaten in
    subst (λ (ts : List Leaf). FailsAt (token (on (test_of c.args.test))) c.args.self.now ts) (sym e.0) (token_refused (on (test_of c.args.test)) (sample_of c.args.test) c.args.self.now (sample_holds c.args.test) e.1)

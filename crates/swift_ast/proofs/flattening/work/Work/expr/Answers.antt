use Rattle.swift_ast.proofs.FlatteningLemmas.{expr_spells}
use Rattle.swift_ast.proofs.flattening.work.Work.expr.Goals as goal

pub returns-clause-spells : goal.returns-clause-spells
returns-clause-spells c = expr_spells c.args.tree.now c.as_slice.result.now c.args.self.now c.put.new.self c.and.new.self c.as_slice.ensures c.in_ok-put.ensures.done c.in_ok-put.ensures.waiting c.in_ok-and.ensures.spells

use Rattle.swift_ast.proofs.FlatteningLemmas.{and_spells}
use Rattle.swift_ast.proofs.flattening.work.Work.and.Goals as goal

pub returns-clause-spells : goal.returns-clause-spells
returns-clause-spells c = and_spells c.args.tree.now c.as_slice.result.now c.args.self.now c.put.new.self c.cmp.new.self c.as_slice.ensures c.in_ok-put.ensures.done c.in_ok-put.ensures.waiting c.in_ok-cmp.ensures.spells

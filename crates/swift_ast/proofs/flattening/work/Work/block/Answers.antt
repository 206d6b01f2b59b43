use Rattle.swift_ast.proofs.FlatteningSteps.{block_spells}
use Rattle.swift_ast.proofs.flattening.work.Work.block.Goals as goal

pub returns-clause-spells : goal.returns-clause-spells
returns-clause-spells c = block_spells c.args.tree.now c.as_slice.result.now c.args.self.now c.emit.new.self c.put.new.self c.put-2.new.self c.as_slice.ensures c.in_ok-emit.ensures.done c.in_ok-emit.ensures.waiting c.in_ok-put.ensures.done c.in_ok-put.ensures.waiting c.in_ok-put-2.ensures.done c.in_ok-put-2.ensures.waiting

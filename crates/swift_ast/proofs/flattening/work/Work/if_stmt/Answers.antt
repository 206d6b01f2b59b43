use Rattle.swift_ast.proofs.FlatteningSteps.{if_spells}
use Rattle.swift_ast.proofs.flattening.work.Work.if_stmt.Goals as goal

pub returns-clause-spells : goal.returns-clause-spells
returns-clause-spells c = if_spells c.args.tree.now c.as_slice.result.now c.args.self.now c.emit.new.self c.put_else.new.self c.put.new.self c.put-2.new.self c.put-3.new.self c.as_slice.ensures c.in_ok-emit.ensures.done c.in_ok-emit.ensures.waiting c.in_ok-put_else.ensures.done c.in_ok-put_else.ensures.waiting c.in_ok-put.ensures.done c.in_ok-put.ensures.waiting c.in_ok-put-2.ensures.done c.in_ok-put-2.ensures.waiting c.in_ok-put-3.ensures.done c.in_ok-put-3.ensures.waiting

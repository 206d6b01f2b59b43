use Rattle.swift_ast.proofs.FlatteningLemmas.{args_spells}
use Rattle.swift_ast.proofs.flattening.work.Work.args.Goals as goal

pub returns-clause-spells : goal.returns-clause-spells
returns-clause-spells c = args_spells c.args.tree.now c.args.self.now c.emit.new.self c.put.new.self c.arg_list.new.self c.in_ok-emit.ensures.done c.in_ok-emit.ensures.waiting c.in_ok-put.ensures.done c.in_ok-put.ensures.waiting c.in_ok-arg_list.ensures.spells

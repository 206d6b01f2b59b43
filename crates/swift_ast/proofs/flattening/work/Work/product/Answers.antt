use Rattle.swift_ast.proofs.FlatteningLemmas.{product_spells}
use Rattle.swift_ast.proofs.flattening.work.Work.product.Goals as goal

pub returns-clause-spells : goal.returns-clause-spells
returns-clause-spells c = product_spells c.args.tree.now c.as_slice.result.now c.args.self.now c.put.new.self c.prefix.new.self c.as_slice.ensures c.in_ok-put.ensures.done c.in_ok-put.ensures.waiting c.in_ok-prefix.ensures.spells

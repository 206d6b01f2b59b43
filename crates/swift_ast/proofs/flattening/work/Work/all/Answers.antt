use Rattle.swift_ast.specs.Flattening.{part_tokens}
use Rattle.swift_ast.proofs.FlatteningSteps.{falls}
use Rattle.swift_ast.proofs.flattening.work.Work.all.Goals as goal

pub loop-part-smaller : goal.loop-part-smaller
loop-part-smaller c = falls (part_tokens c.in-Some.part) c.loop-part.work c.take.new.self c.step.new.self c.in-Some.ensures.waiting c.in-Some.ensures.load c.in_ok-step.ensures.spells c.in_ok-step.ensures.lightens

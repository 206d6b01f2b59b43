use Rattle.std.proofs.Common.{ap, ◌∙◌}
use Rattle.std.specs.FinMap.{insert}
use Rattle.tree_mem.proofs.Entries.{one_set}
use Rattle.tree_mem.proofs.maps.MemMaps.insert.Goals as goal

pub returns-clause-ok : goal.returns-clause-ok
returns-clause-ok c =
    one_set c.self.inside.maps.entries c.insert.new.self.entries c.args.path c.args.bytes c.in_ok-insert.ensures.updates.0
    ∙ ap (λ m. insert m c.args.path c.args.bytes) c.self.view_is

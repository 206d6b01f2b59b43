use Rattle.std.proofs.Common.{ap, sym, ◌∙◌}
use Rattle.std.specs.FinMap.{get}
use Rattle.tree_mem.proofs.Entries.{get_at}
use Rattle.tree_mem.proofs.maps.MemMaps.bytes.Goals as goal

pub returns : goal.returns
returns c =
    c.in_ok-found.ensures ∙ c.get.ensures.value ∙ sym (get_at c.self.inside.maps.entries c.args.path.now) ∙ ap (λ m. get m c.args.path.now) c.self.view_is

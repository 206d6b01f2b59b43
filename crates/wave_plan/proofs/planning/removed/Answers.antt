use Rattle.std.proofs.Common.{◌∙◌, ap}
use Rattle.ordered_lists.specs.Among.{is_among}
use Rattle.wave_plan.specs.Plans.{listed_paths, removed_files}
use Rattle.wave_plan.proofs.planning.removed.Goals as goal

pub returns : goal.returns
returns c = c.in_ok-removed.ensures ∙ λ i. removed_files (λ q. (c.in_ok-listed.ensures q ∙ ap (λ es. is_among (listed_paths es) q) c.deref.ensures.value) i) c.args.graph.now

use Rattle.std.proofs.Common.{◌∙◌, map, ap}
use Rattle.wave_build.specs.Built.{graph_at, paths_at}
use Rattle.wave_build.proofs.RecordedLemmas.{plan-is}
use Rattle.wave_core.specs.Cores.{is_among}
use Rattle.wave_coverage.specs.Modules.{recorded_at}
use Rattle.wave_build.proofs.ending.ended.Goals as goal

pub returns-in_ok-graphs : goal.returns-in_ok-graphs
returns-in_ok-graphs c = record {
  built = λ was first way. record {
    kept = c.args.core.now;
    follows = way.follows;
    complete = c.is_complete.ensures.complete.0 c.if-is_complete.true;
    built = c.is_complete.ensures.built c.if-is_complete.true (recorded_at was) (recorded_at c.args.index.now) (is_among (paths_at c.args.index.now first)) (plan-is was c.args.index.now c.requires.ascending first) way.follows;
    files = way.files;
    graphs = c.in_ok-graphs.ensures ∙ ap (map (graph_at c.args.core.now)) c.files.ensures.files;
  };
}

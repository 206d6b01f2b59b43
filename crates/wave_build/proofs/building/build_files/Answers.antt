use Rattle.std.proofs.Common.{◌≡◌, ◌∙◌, ap}
use Rattle.wave_build.proofs.BuildLemmas.{begun}
use Rattle.wave_coverage.specs.Modules.{recorded_at}
use Rattle.wave_core.specs.Cores.{is_among}
use Rattle.wave_build.specs.Built.{paths_at}
use Rattle.wave_build.proofs.building.build_files.Goals as goal

pub returns : goal.returns
returns c =
    let paths = paths_at c.args.index.now c.args.first.now in
    let gone : c.as_slice.result.now ≡ c.args.removed.now = c.as_slice.ensures.value ∙ c.in_ok-removed.ensures in
    let first : c.as_slice-2.result.now ≡ paths = c.as_slice-2.ensures.value ∙ c.in_ok-first.ensures ∙ ap (λ trees. paths_at trees c.args.first.now) c.files.ensures.files in
    record {
      built = λ was same away. c.in_ok-built.ensures.built was c.args.first.now
          (c.in_ok-files.ensures.built (recorded_at was) (is_among paths) c.in_ok-core.ensures.nothing
          (begun c.args.recorded was c.args.index.now c.in_ok-core.core c.args.removed.now c.as_slice.result.now paths c.as_slice-2.result.now gone first c.in_ok-core.ensures.opens same away));
    }

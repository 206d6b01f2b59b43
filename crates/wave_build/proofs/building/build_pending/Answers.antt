use Rattle.std.proofs.Common.{ap}
use Rattle.wave_build.proofs.BuildLemmas.{same-way, set-out}
use Rattle.wave_build.proofs.building.build_pending.Goals as goal
use Rattle.wave_build.proofs.building.build_pending.Goals.{else-loop-test, then-loop-test+in_ok-build_next+then-not-branch}

pub loop-init : goal.loop-init
loop-init c = λ before first none follows. set-out c.args.index.now c.files-trees.result.now before first c.args.core.now c.in_ok-files.files.items c.files-trees.ensures.files c.in_ok-files.ensures none follows

pub loop-preserved : goal.loop-preserved
loop-preserved c = λ before first none follows. c.in_ok-build_next.ensures.built before first (c.loop.invariant before first none follows)

pub returns : goal.returns
returns c = record {
  built = λ before first none follows. elim c.loop-test.branch [
    | else-loop-test w ↦ same-way c.args.index.now before first c.loop-test.core _ c.loop-test.files.items _ w.core-is (ap (λ v. v.items) w.files-is) (c.loop.invariant before first none follows)
    | then-loop-test+in_ok-build_next+then-not-branch w ↦ same-way c.args.index.now before first c.loop-test.core _ c.loop-test.files.items _ w.core-is (ap (λ v. v.items) w.files-is) (w.in_ok-build_next.ensures.built before first (c.loop.invariant before first none follows))
  ];
}

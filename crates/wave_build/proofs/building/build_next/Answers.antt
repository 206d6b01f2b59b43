use Rattle.wave_build.proofs.BuildLemmas.{taken-some}
use Rattle.wave_build.proofs.building.build_next.Goals as goal

pub returns-in_ok-build_file-in-Some : goal.returns-in_ok-build_file-in-Some
returns-in_ok-build_file-in-Some c = record {
  built = λ before first way. c.in_ok-build_file-in-Some.ensures.built before first
      (taken-some c.args.index.now before first c.args.core.now c.take.new.self c.in_ok-path.field-0 c.in-Some.path c.args.files.now.items c.in-Some.is c.in_ok-path.ensures.taken (c.in_ok-path.ensures.follows before _ first) way);
}

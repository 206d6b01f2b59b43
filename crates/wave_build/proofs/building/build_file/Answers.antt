use Rattle.wave_build.proofs.BuildLemmas.{built-on}
use Rattle.wave_build.proofs.building.build_file.Goals as goal

pub returns : goal.returns
returns c = record {
  built = built-on c.args.index.now c.args.meanings.now c.args.number c.in_ok-made.made c.in_ok-graph.graph c.args.core.now c.finish.new.core c.args.files.now.items c.keep.new.files.items
      c.requires.meant c.requires.ascending c.in_ok-made.ensures.compiled c.in_ok-graph.ensures.graph c.in_ok-finish.ensures.finished c.in_ok-finish.ensures.follows c.in_ok-keep.ensures;
}

use Rattle.std.proofs.Common.{List, subst}
use Rattle.dep_key.specs.declared.graph.FileGraph.{FileGraph}
use Rattle.swiftdeps.specs.Spelling.{BytesSpell}
use Rattle.swiftdeps.specs.Written.{AreWritable}
use Rattle.swiftdeps.proofs.SpelledLaws.{one_writable}
use Rattle.swiftdeps.proofs.writing.encode.Goals as goal

pub returns-in-Ok-clause-read_back : goal.returns-in-Ok-clause-read_back
returns-in-Ok-clause-read_back c = subst (λ (files : List FileGraph). AreWritable files → BytesSpell 2 files c.in-Ok.text) c.from_ref.ensures.value c.in-Ok.ensures.read_back (one_writable c.args.graph.now c.requires)

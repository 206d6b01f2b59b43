use Rattle.std.proofs.Common.{◌≡◌, ◌++◌, map}
use Rattle.std.specs.Vec.Iter.{into_iter_items}
use Rattle.dep_key.specs.Digests.{digested}
use Rattle.priors_store.proofs.digest_all.Given as goal

abbrev pub invariant-loop-file : goal.invariant-loop-file
invariant-loop-file l = l.made.items ++ map digested (into_iter_items l.file-iterator) ≡ map digested l.fn.files.items

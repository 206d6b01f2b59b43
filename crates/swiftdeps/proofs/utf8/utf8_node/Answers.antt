use Rattle.std.proofs.Common.{List, subst}
use Rattle.std.specs.Prelude.{IsUtf8}
use Rattle.std.specs.List.{flat_map, AllByRecursion}
use Rattle.dep_key.specs.declared.key.Key.{Key}
use Rattle.swiftdeps.specs.Written.{key_texts}
use Rattle.swiftdeps.proofs.SpelledLaws.{all_append}
use Rattle.swiftdeps.proofs.utf8.utf8_node.Goals as goal

pub returns : goal.returns
returns c = all_append IsUtf8 (key_texts c.args.node.now.key) (flat_map key_texts c.args.node.now.uses) c.utf8_key.ensures (subst (λ (keys : List Key). AllByRecursion IsUtf8 (flat_map key_texts keys)) c.as_slice.ensures c.utf8_keys.ensures)

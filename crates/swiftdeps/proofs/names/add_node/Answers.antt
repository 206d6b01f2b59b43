use Rattle.std.proofs.Common.{List, subst}
use Rattle.std.specs.List.{flat_map}
use Rattle.dep_key.specs.declared.key.Key.{Key}
use Rattle.swiftdeps.specs.Written.{key_texts, Adds}
use Rattle.swiftdeps.proofs.NameLaws.{adds_both, adds_turn, adds_whole}
use Rattle.swiftdeps.proofs.names.add_node.Goals as goal

pub loop-key-preserved : goal.loop-key-preserved
loop-key-preserved c =
    adds_turn key_texts c.as_slice-key-items.result.now c.loop-key.key-index c.key-item.result c.add_key.new.texts c.loop-key.texts c.add_key-in-loop-key.new.texts c.loop-key-test.true c.key-item.is c.loop-key.invariant c.in_ok-add_key-2.ensures

pub returns : goal.returns
returns c =
    let node = c.args.node.now in
    let keys = c.as_slice-key-items.result.now in
    let a = c.args.texts.now in
    let b = c.add_key.new.texts in
    let d = c.loop-key.texts in
    let uses = subst (λ (x : List Key). Adds (flat_map key_texts x) b d) c.as_slice-key-items.ensures (adds_whole key_texts keys c.loop-key.key-index b d c.loop-key-test.false c.loop-key.invariant) in
    adds_both (key_texts node.key) (flat_map key_texts node.uses) a b d c.in_ok-add_key.ensures uses

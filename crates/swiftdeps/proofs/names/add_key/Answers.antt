use Rattle.std.proofs.Common.{[], ◌∷◌}
use Rattle.swiftdeps.proofs.NameLaws.{adds_both, adds_equal}
use Rattle.swiftdeps.proofs.names.add_key.Goals as goal

pub returns : goal.returns
returns c =
    let key = c.args.key.now in
    let a = c.args.texts.now in
    let b = c.add.new.self in
    let d = c.add-2.new.self in
    adds_both (key.context ∷ []) (key.name ∷ []) a b d (adds_equal c.as_str.result.now key.context a b c.as_str.ensures c.in_ok-add.ensures) (adds_equal c.as_str-2.result.now key.name b d c.as_str-2.ensures c.in_ok-add-2.ensures)

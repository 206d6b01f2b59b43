use Rattle.std.proofs.Common.{ℕ, List, [], ◌∷◌, map, None, subst}
use Rattle.bitstream.specs.Reading.{Record}
use Rattle.bitstream.specs.Writer.{writing}
use Rattle.dep_key.specs.declared.key.Key.{Key}
use Rattle.swiftdeps.specs.Spelling.{use_item, print_item, key_numbers}
use Rattle.swiftdeps.specs.Shown.{AlsoShows}
use Rattle.swiftdeps.proofs.ShownLaws.{also_map, also_both, whole_map}
use Rattle.swiftdeps.proofs.WriteLaws.{turn_map}
use Rattle.swiftdeps.proofs.writing.put_node.Goals as goal

pub loop-key-preserved : goal.loop-key-preserved
loop-key-preserved c =
    let inv = c.loop-key.invariant in
    let names = c.args.names.now in
    let keys = c.as_slice-key-items.result.now in
    let s = writing c.put_print.new.writer in
    let t = writing c.loop-key.writer in
    let u = writing c.put_key-in-loop-key.new.writer in
    let turn = turn_map (use_item names) keys c.loop-key.key-index c.key-item.result s t u c.loop-key-test.true c.key-item.is inv.block inv.written c.in_ok-put_key-2.ensures.written in
    record { block = turn.0; written = turn.1; shown = also_map (use_item names) keys c.loop-key.key-index c.key-item.result s t u c.loop-key-test.true c.key-item.is inv.shown c.in_ok-put_key-2.ensures.shown }

pub returns-clause-shown : goal.returns-clause-shown
returns-clause-shown c =
    let names = c.args.names.now in
    let node = c.args.node.now in
    let s = writing c.args.writer.now in
    let t = writing c.put_key.new.writer in
    let u = writing c.put_print.new.writer in
    let v = writing c.loop-key.writer in
    let keys : AlsoShows (map (use_item names) c.as_slice-key-items.result.now) u v = whole_map (use_item names) c.as_slice-key-items.result.now c.loop-key.key-index u v c.loop-key-test.false c.loop-key.invariant.shown in
    let uses = subst (λ (x : List Key). AlsoShows (map (use_item names) x) u v) c.as_slice-key-items.ensures keys in
    let print = subst (λ (x : List ℕ). AlsoShows (print_item x ∷ []) t u) c.as_slice.ensures c.in_ok-put_print.ensures.shown in
    also_both (Record 2 (key_numbers names node.key) None ∷ []) (print_item node.print ∷ map (use_item names) node.uses) s t v c.in_ok-put_key.ensures.shown
    (also_both (print_item node.print ∷ []) (map (use_item names) node.uses) t u v print uses)

use Rattle.std.proofs.Common.{◌∙◌, ap, arith, ◌++◌, ◌∷◌, []}
use Rattle.bitstream.proofs.BlockInfoLaws.{places-more}
use Rattle.bitstream.proofs.block_info.BlockInfo.push.Goals as goal

pub invariant_of-self-2 : goal.invariant_of-self-2
invariant_of-self-2 c = record {
  listed = λ b. places-more b c.args.block c.len-place.result _ _ c.args.self.now.all.items c.push.new.self.items c.args.definition (c.in_default-add_place.ensures.ok b) (c.args.self.now.listed b)
      (omega (arith, c.len-place.ensures, c.in_default.ensures.len, c.args.self.now.all.ok))
      (rw (c.push.ensures.succeeds (omega (arith, c.in_default.ensures.ok))) at c.push.ensures.items ∙ ap (λ l. l ++ record { block = c.args.block; definition = c.args.definition } ∷ []) c.in_default.ensures.items);
}

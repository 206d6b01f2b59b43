use Rattle.std.proofs.Common.{◌∙◌, sym, ap, arith, Some}
use Rattle.bitstream.proofs.BlockInfoLaws.{found-within, found-is, place-none}
use Rattle.bitstream.proofs.block_info.BlockInfo.get.Goals as goal

pub index-requires : goal.index-requires
index-requires c =
    omega (arith, found-within c.args.block c.args.self.now.all.items c.args.number c.in-Some.place (sym c.place.ensures ∙ c.in-Some.is), c.args.self.now.all.ok)

pub returns-in-Some : goal.returns-in-Some
returns-in-Some c =
    sym (found-is c.args.block c.args.self.now.all.items c.args.number c.in-Some.place c.index.result.now (sym c.place.ensures ∙ c.in-Some.is) c.index.ensures)

pub returns-in-None : goal.returns-in-None
returns-in-None c = sym (place-none c.args.block 0 c.args.self.now.all.items c.args.number (sym c.place.ensures ∙ c.in-None.is))

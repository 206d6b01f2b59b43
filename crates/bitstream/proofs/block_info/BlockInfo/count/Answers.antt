use Rattle.std.proofs.Common.{◌∙◌, ap, length, arith}
use Rattle.bitstream.specs.BlockInfo.{listed}
use Rattle.bitstream.proofs.BlockInfoLaws.{places-count}
use Rattle.bitstream.proofs.block_info.BlockInfo.count.Goals as goal

pub returns-in-Some : goal.returns-in-Some
returns-in-Some c =
    let same = ap listed c.in-Some.ensures.value ∙ c.args.self.now.listed c.args.block in
    omega (arith, c.len.ensures, ap length same, places-count c.args.block 0 c.args.self.now.all.items, c.in-Some.places.now.ok)

pub returns-in-None : goal.returns-in-None
returns-in-None c =
    let same = ap listed c.in-None.ensures.value ∙ c.args.self.now.listed c.args.block in
    omega (arith, ap length same, places-count c.args.block 0 c.args.self.now.all.items)

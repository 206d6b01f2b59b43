use Rattle.std.proofs.Common.{arith}
use Rattle.swiftdeps.proofs.OneSpellingLaws.{all_bytes}
use Rattle.swiftdeps.proofs.writing.are_bytes.Goals as goal

pub returns : goal.returns
returns c = all_bytes c.args.bytes.now (λ i. omega (arith, c.type_inv.bytes i))

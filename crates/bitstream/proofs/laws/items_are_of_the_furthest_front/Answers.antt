use Rattle.bitstream.proofs.FrontLaws.{furthest-front, one-front}
use Rattle.bitstream.proofs.laws.items_are_of_the_furthest_front.Goals as goal

pub returns : goal.returns
returns c = record { given = furthest-front; one = one-front }

use Rattle.std.proofs.Common.{[], refl}
use Rattle.swift_parser.proofs.file.end_of.Goals as goal

pub returns : goal.returns
returns c = c.behind.ensures [] (record { line = refl; column = refl })

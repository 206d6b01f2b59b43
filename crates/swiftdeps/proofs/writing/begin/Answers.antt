use Rattle.std.proofs.Common.{ℕ, List, [], ◌∷◌, length, refl}
use Rattle.bitstream.specs.Reading.{Seen, Enters}
use Rattle.bitstream.specs.Writer.{writing}
use Rattle.swiftdeps.proofs.writing.begin.Goals as goal

pub returns-clause-shown : goal.returns-clause-shown
returns-clause-shown c =
    let items : List (ℕ × Seen) = (length (writing c.new-writer.result).bits, Enters 8) ∷ [] in
    (items, c.in_ok-define-2.ensures.wrote items (c.in_ok-define.ensures.wrote items (c.in_ok-enter.ensures.wrote [] c.new-writer.ensures.wrote)), refl)

-- What a reader has collected.
use Rattle.swiftdeps.specs.declared.collected.Collected.{Collected}
use Rattle.swiftdeps.specs.Judging.{State}

abbrev pub state : Collected → State
state c = record { stage = c.stage; version = c.version; names = c.identifiers; files = c.files.items; path = c.path; nodes = c.nodes.items; key = c.key; print = c.print; uses = c.uses.items }

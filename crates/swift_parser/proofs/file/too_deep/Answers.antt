use Rattle.swift_parser.proofs.Heads.{head_at}
use Rattle.swift_parser.proofs.file.too_deep.Goals as goal

pub returns-in-len1-up : goal.returns-in-len1-up
returns-in-len1-up c = (_, head_at c.args.bytes.now c.args.rest.now _ c.in-len1-up.len_at_least)

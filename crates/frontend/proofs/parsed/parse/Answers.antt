use Rattle.std.proofs.Common.{◌∙◌, refl, subst}
use Rattle.std.specs.Prelude.{Ok}
use Rattle.swift_parser.specs.Whole.{ParsesFile}
use Rattle.frontend.proofs.parsed.parse.Goals as goal

pub returns-in-Ok-clause-file : goal.returns-in-Ok-clause-file
returns-in-Ok-clause-file c = subst (λ path. ParsesFile path c.args.text.now (Ok c.in-Ok.tree)) c.as_str.ensures c.in-Ok.ensures.parses

pub returns-in-Ok-clause-path : goal.returns-in-Ok-clause-path
returns-in-Ok-clause-path c = ((c.in-Ok.ensures.parses.0 c.in-Ok.tree).0 refl).2 ∙ c.as_str.ensures

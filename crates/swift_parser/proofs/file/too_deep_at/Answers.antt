use Rattle.std.proofs.Common.{◌∙◌, sym, ap}
use Rattle.swift_ast.specs.Tests.{one_of, level_openings}
use Rattle.swift_parser.proofs.Heads.{deep_here}
use Rattle.swift_parser.proofs.file.too_deep_at.Goals as goal

pub returns-then-held-ge-MAX_LEVELS : goal.returns-then-held-ge-MAX_LEVELS
returns-then-held-ge-MAX_LEVELS c =
    let r = deep_here c.args.tokens.now c.loop-at.at c.loop-at.held _ c.loop-at-test.true (ap (one_of level_openings) (sym c.terminal-bracket.ensures) ∙ sym c.opens_level.ensures ∙ c.if-opens_level.true) c.if-held-ge-MAX_LEVELS.true in
    (c.loop-at.invariant.0 ∙ r.0, r.1)

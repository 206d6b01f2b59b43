use Rattle.std.proofs.Common.{◌≡◌, Some, ◌+◌, sym, ap, ◌∙◌, drop, arith, ℕ}
use Rattle.swift_token.specs.Scans.{later, comment_end}
use Rattle.swift_token.proofs.Scanned.{later_none, comment_more}
use Rattle.swift_token.proofs.comments.comment_end.Goals as goal

pub loop-i-init : goal.loop-i-init
loop-i-init c = record { open_still = omega arith; bounded = omega arith; same = later_none (comment_end 1 0 c.args.bytes.now) }

pub returns-then-inside-eq0-clause-value : goal.returns-then-inside-eq0-clause-value
returns-then-inside-eq0-clause-value c =
    let more = comment_more c.args.bytes.now c.loop-i.i c.loop-i.inside.depth c.loop-i.inside.last c.behind-inside.result.depth c.behind-inside.result.last c.loop-i-test.true c.behind-inside.ensures.rest in
    let past : c.loop-i.i + 1 ≡ c.loop-i.i + 1 + 0 = omega arith in
    ap (λ (n : ℕ). Some n) past
    ∙ ap (λ (n : ℕ). later (c.loop-i.i + 1) (comment_end n c.behind-inside.result.last (drop (c.loop-i.i + 1) c.args.bytes.now))) (sym c.if-inside-eq0.true) ∙ sym more ∙ c.loop-i.invariant.same

pub loop-i-preserved : goal.loop-i-preserved
loop-i-preserved c =
    let more = comment_more c.args.bytes.now c.loop-i.i c.loop-i.inside.depth c.loop-i.inside.last c.behind-inside.result.depth c.behind-inside.result.last c.loop-i-test.true c.behind-inside.ensures.rest in
    record { open_still = omega arith; bounded = omega (arith, c.behind-inside.ensures.bound, c.loop-i.invariant.bounded); same = sym more ∙ c.loop-i.invariant.same }

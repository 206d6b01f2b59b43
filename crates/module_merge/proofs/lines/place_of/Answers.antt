use Rattle.std.proofs.Common.{arith, nat_eq, sym, eq-eqb, length}
use Rattle.std.proofs.lemmas.List.Sums.{position_or_len_is}
use Rattle.module_merge.proofs.lines.place_of.Goals as goal

pub returns-then-b-byte-clause-first : goal.returns-then-b-byte-clause-first
returns-then-b-byte-clause-first c = sym (position_or_len_is (λ b. nat_eq b c.args.byte) c.args.text.now c.loop-place.place 0 (omega arith) c.loop-place.invariant (λ lt. eq-eqb _ _ c.if-b-byte.true))

pub returns-clause-first : goal.returns-clause-first
returns-clause-first c = sym (position_or_len_is (λ b. nat_eq b c.args.byte) c.args.text.now (length c.args.text.now) 0 (omega arith) (λ k lt. c.loop-place.invariant k (omega arith)) (λ lt. absurd (omega arith)))

use Rattle.std.proofs.Common.{◌≡◌, ◌<◌, ℕ, false, nat_eq, get_or}
use Rattle.module_merge.proofs.lines.place_of.Given as goal

-- No byte before the place is that byte.
abbrev pub invariant-loop-place : goal.invariant-loop-place
invariant-loop-place l = (k : ℕ) → k < l.place → nat_eq (get_or l.text k 0) l.byte ≡ false

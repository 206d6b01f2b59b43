use Rattle.std.proofs.Common.{length}
use Rattle.body_check.proofs.blocks.+named_in_innermost.Given as goal

abbrev pub decreases-named_in_innermost : goal.decreases-named_in_innermost
decreases-named_in_innermost l = length l.blocks.now

use Rattle.std.proofs.Common.{◌≡◌, ◌++◌, drop}
use Rattle.diag_text.specs.Line.{lines_of}
use Rattle.diag_text.proofs.diag.lines.Given as goal

-- What is printed so far, and the lines that are left, are all lines.
abbrev pub invariant-loop-diag : goal.invariant-loop-diag
invariant-loop-diag l = l.printed.items ++ lines_of (drop l.diag-index l.diags) ≡ lines_of l.diags

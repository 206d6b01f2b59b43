use Rattle.std.proofs.Common.{◌≡◌, ◌++◌, drop}
use Rattle.expr_check.specs.Expressions.{memberwise}
use Rattle.expr_tree.proofs.callees.memberwise.Given as goal

abbrev pub invariant-loop-field : goal.invariant-loop-field
invariant-loop-field l = l.params.items ++ memberwise (drop l.field-index l.fields) ≡ memberwise l.fields

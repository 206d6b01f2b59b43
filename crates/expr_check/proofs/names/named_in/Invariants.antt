use Rattle.std.proofs.Common.{◌≡◌, drop}
use Rattle.expr_check.specs.Scopes.{named_in}
use Rattle.expr_check.proofs.names.named_in.Given as goal

abbrev pub invariant-loop-local : goal.invariant-loop-local
invariant-loop-local l = named_in (drop l.local-index l.block) l.name ≡ named_in l.block l.name

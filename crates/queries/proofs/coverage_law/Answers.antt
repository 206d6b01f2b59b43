use Rattle.std.proofs.Common.{◌≡◌, true}
use Rattle.queries.proofs.Coverage.{covered}
use Rattle.queries.proofs.coverage_law.Goals as goal

pub returns : goal.returns
returns g c = λ p q ps qs answers outside. covered p q ps qs answers (λ k. outside k ≡ true)

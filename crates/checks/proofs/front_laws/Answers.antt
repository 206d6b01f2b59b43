use Rattle.checks.proofs.Strict.{strict_bind, strict_both, strict_grouped}
use Rattle.checks.proofs.front_laws.Goals as goal

pub returns-clause-bind : goal.returns-clause-bind
returns-clause-bind g c = strict_bind

pub returns-clause-both : goal.returns-clause-both
returns-clause-both g c = strict_both

pub returns-clause-chain : goal.returns-clause-chain
returns-clause-chain g c = strict_grouped

-- The laws of checks that are put together, for those of this language.
use Rattle.std.proofs.Common.{◌≡◌}
use Rattle.dep_key.specs.declared.key.Key.{Key}
use Rattle.type_rules.specs.declared.meaning.Meaning.{Meaning}
use Rattle.checks.specs.Checks.{◌>>=◌, both}
use Rattle.checks.specs.Logs.{Orders, Logged, made, made_then, made_both}
use Rattle.checks.proofs.Made.{made_bind, made_of_both}
use Rattle.expr_check.specs.declared.line.Line.{Line}
use Rattle.expr_check.specs.Types.{CheckOf}

pub bind : {X Y : Type 0} (o : Orders Key Line) (meanings : Key → Meaning) (check : CheckOf X) (f : X → CheckOf Y) (log : Logged Key Line) →
    made o meanings (check >>= f) log ≡ made_then (made o meanings check log) (λ x log. made o meanings (f x) log)
bind o meanings check f log = made_bind o meanings check f log

pub paired : {X Y : Type 0} (o : Orders Key Line) (meanings : Key → Meaning) (one : CheckOf X) (two : CheckOf Y) (log : Logged Key Line) →
    made o meanings (both one two) log ≡ made_both (made o meanings one log) (λ log. made o meanings two log)
paired o meanings one two log = made_of_both o meanings one two log

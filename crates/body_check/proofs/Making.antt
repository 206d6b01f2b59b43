-- What is made of checks that are put together, step by step.
use Rattle.std.proofs.Common.{◌≡◌, ℕ, ◌+◌, ◌<◌, List, ◌∷◌, length, drop, get_or, Option, Some, sym, ap, ◌∙◌}
use Rattle.std.proofs.lemmas.List.{drop_more}
use Rattle.dep_key.specs.declared.key.Key.{Key}
use Rattle.type_rules.specs.declared.meaning.Meaning.{Meaning}
use Rattle.checks.specs.Checks.{◌>>=◌, tried}
use Rattle.checks.specs.Logs.{Logged, made, made_then, made_tried}
use Rattle.checks.proofs.Made.{made_of_tried}
use Rattle.expr_check.specs.declared.line.Line.{Line}
use Rattle.expr_check.specs.Messages.{orders}
use Rattle.expr_check.specs.Types.{CheckOf}
use Rattle.expr_check.proofs.CheckLaws.{bind}

pub tried_made : {X : Type 0} (m : Key → Meaning) (check : CheckOf X) (log : Logged Key Line) → made orders m (tried check) log ≡ made_tried (made orders m check log)
tried_made m check log = made_of_tried orders m check log

-- a check that is tried, and what goes on with its outcome
pub tried_then : {X Y : Type 0} (m : Key → Meaning) (check : CheckOf X) (f : Option X → CheckOf Y) (got : Option X) (log new : Logged Key Line) → (got, new) ≡ made orders m check log →
    made orders m (tried check >>= f) log ≡ made orders m (f got) new
tried_then m check f got log new h =
    bind orders m (tried check) f log ∙ ap (λ r. made_then r (λ x l. made orders m (f x) l)) (made_of_tried orders m check log ∙ ap made_tried (sym h))

-- a check that has a value, and what goes on with it
pub found_then : {X Y : Type 0} (m : Key → Meaning) (check : CheckOf X) (f : X → CheckOf Y) (got : X) (log new : Logged Key Line) → (Some got, new) ≡ made orders m check log →
    made orders m (check >>= f) log ≡ made orders m (f got) new
found_then m check f got log new h = bind orders m check f log ∙ ap (λ r. made_then r (λ x l. made orders m (f x) l)) (sym h)

-- the items from one that is read on
pub one_more : {X : Type 0} (xs : List X) (i : ℕ) (x : X) → i < length xs → x ≡ get_or xs i x → drop i xs ≡ x ∷ drop (i + 1) xs
one_more xs i x lt is = drop_more xs i x lt ∙ ap (λ x. x ∷ drop (i + 1) xs) (sym is)

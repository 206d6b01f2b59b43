-- What a memo knows, when it is right, and what reading a task with it tells.
use Rattle.std.specs.Prelude.{◌≡◌, ◌<◌, List, Option, Some, None, Ok, length, All}
use Rattle.queries.specs.Queries.{Task, run, Rules, seen, solution, Needs}
use Rattle.query_evaluator.specs.declared.tasks.Reading.{Reading}
use Rattle.query_evaluator.specs.declared.tasks.Reading.TheVariants.{Value, Wants}

-- the answer that is kept, and none where nothing is kept, or that there is no answer
abbrev pub kept : {A : Type 0} → Option (Option A) → Option A
kept None = None
kept (Some answer) = answer

-- what a memo knows
abbrev pub known : {K A : Type 0} → (K → Option (Option A)) → K → Option A
known memo key = kept (memo key)

-- A memo is true: what it keeps of a key is what the solution has.
pub record IsTrueMemo {K A : Type 0} (r : Rules K A) (keys : List K) (memo : K → Option (Option A)) : Type 0 where
  pub at : (key : K) (answer : Option A) → memo key ≡ Some answer → seen r (solution r keys) key ≡ answer

-- a key that a task needs and that isn't known
pub record IsWanted {K A X : Type 0} (answers : K → Option A) (task : Task K A X) (key : K) : Type 0 where
  pub unknown : answers key ≡ None
  pub needed : Needs answers task key

-- What reading a task tells: its value, or keys that it needs and that aren't known.
abbrev pub Tells : {K A : Type 0} → (K → Option A) → Task K A A → Reading K A → Type 0
Tells answers task (Value answer) = run answers task ≡ Ok answer
Tells answers task (Wants keys) = (0 < length keys.items) × All (IsWanted answers task) keys.items

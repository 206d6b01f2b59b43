-- What holds of every check.
use Rattle.std.specs.Prelude.{◌≡◌, true, false, List, ◌∷◌, Option}
use Rattle.queries.specs.Queries.{Task, Done, Among, value_with, dependencies}
use Rattle.checks.specs.Checks.{Check, ◌>>=◌, both, noting, tried, hushed, appended, all_behind, grouped}
use Rattle.checks.specs.Logs.{Orders, Logged, nothing, muting, set_of, made, made_then, made_both, made_tried, made_hushed}
use Rattle.checks.specs.OwnKeys.{Asked, answering, used, owned, with_own, uses, asks}
use Rattle.checks.specs.Strictness.{IsStrict}

-- What is made from nothing: the value, the set of what is said, and the set of what is asked.
abbrev pub MadeIsTheCheck : Type 0 → Type 0 → Type 0 → Type 0 → Type 0
MadeIsTheCheck K A E X = (o : Orders K E) (answers : K → A) (check : Check K A E X) →
    made o answers check nothing ≡ ((value_with answers check).value, record { errors = set_of o.errors (value_with answers check).errors; asked = set_of o.keys (dependencies answers check); muted = false })

-- where other answers are the same at each key that a check asks, the same is made with them
abbrev pub SameAnswersMakeTheSame : Type 0 → Type 0 → Type 0 → Type 0 → Type 0
SameAnswersMakeTheSame K A E X = (o : Orders K E) (answers others : K → A) (check : Check K A E X) (log : Logged K E) →
    ((k : K) → Among (dependencies answers check) k → answers k ≡ others k) → made o answers check log ≡ made o others check log

-- ---- what is made of checks that are put together

abbrev pub MadeOfBind : Type 0 → Type 0 → Type 0 → Type 0 → Type 0 → Type 0
MadeOfBind K A E X Y = (o : Orders K E) (answers : K → A) (check : Check K A E X) (f : X → Check K A E Y) (log : Logged K E) →
    made o answers (check >>= f) log ≡ made_then (made o answers check log) (λ x log. made o answers (f x) log)

abbrev pub MadeOfBoth : Type 0 → Type 0 → Type 0 → Type 0 → Type 0 → Type 0
MadeOfBoth K A E X Y = (o : Orders K E) (answers : K → A) (one : Check K A E X) (two : Check K A E Y) (log : Logged K E) →
    made o answers (both one two) log ≡ made_both (made o answers one log) (λ log. made o answers two log)

abbrev pub MadeOfNoting : Type 0 → Type 0 → Type 0 → Type 0 → Type 0 → Type 0
MadeOfNoting K A E X Y = (o : Orders K E) (answers : K → A) (one : Check K A E X) (two : Check K A E Y) (log : Logged K E) →
    made o answers (noting one two) log ≡ made o answers two (made o answers one log).1

abbrev pub MadeOfTried : Type 0 → Type 0 → Type 0 → Type 0 → Type 0
MadeOfTried K A E X = (o : Orders K E) (answers : K → A) (check : Check K A E X) (log : Logged K E) → made o answers (tried check) log ≡ made_tried (made o answers check log)

abbrev pub MadeOfHushed : Type 0 → Type 0 → Type 0 → Type 0 → Type 0
MadeOfHushed K A E X = (o : Orders K E) (answers : K → A) (check : Check K A E X) (log : Logged K E) → made o answers (hushed check) log ≡ made_hushed log.muted (made o answers check (muting true log))

-- the first of a list of checks, and then the others behind its value
abbrev pub MadeOfFirst : Type 0 → Type 0 → Type 0 → Type 0 → Type 0
MadeOfFirst K A E X = (o : Orders K E) (answers : K → A) (before : Option (List X)) (check : Check K A E X) (checks : List (Check K A E X)) (log : Logged K E) →
    made o answers (all_behind before (check ∷ checks)) log ≡ made o answers (all_behind (appended before (made o answers check log).0) checks) (made o answers check log).1

-- ---- which checks make their front first

abbrev pub BindMakesItsFrontFirst : Type 0 → Type 0 → Type 0 → Type 0 → Type 0 → Type 0 → Type 0
BindMakesItsFrontFirst K A E X Y Z = (o : Orders K E) (answers : K → A) (whole : Check K A E X → Check K A E Y) (f : Y → Check K A E Z) → IsStrict o answers whole → IsStrict o answers (λ part. whole part >>= f)

abbrev pub BothMakeTheFirstFirst : Type 0 → Type 0 → Type 0 → Type 0 → Type 0 → Type 0 → Type 0
BothMakeTheFirstFirst K A E X Y Z = (o : Orders K E) (answers : K → A) (whole : Check K A E X → Check K A E Y) (other : Check K A E Z) → IsStrict o answers whole → IsStrict o answers (λ part. both (whole part) other)

abbrev pub ChainMakesItsFrontFirst : Type 0 → Type 0 → Type 0 → Type 0 → Type 0 → Type 0 → Type 0 → Type 0
ChainMakesItsFrontFirst K A E T X Y Z = (o : Orders K E) (answers : K → A) (step : T → X × Y → Check K A E X) (whole : Check K A E Z → Check K A E X) (more : List (T × Check K A E Y)) →
    IsStrict o answers whole → IsStrict o answers (λ part. grouped step (whole part) more)

-- ---- own keys

-- where other answers are the same at all keys that a task asks, its value is the same, and it uses and asks the same
pub record IsTheSame {K A X : Type 0} (answers others : K → A) (task : Task (Asked K) A X) : Type 0 where
  pub value : value_with (answering answers) task ≡ value_with (answering others) task
  pub uses : uses answers task ≡ uses others task
  pub asks : asks answers task ≡ asks others task

abbrev pub SameAnswersGiveTheSame : Type 0 → Type 0 → Type 0 → Type 0
SameAnswersGiveTheSame K A X = (answers others : K → A) (task : Task (Asked K) A X) → ((k : K) → Among (asks answers task) k → answers k ≡ others k) → IsTheSame answers others task

-- with the answers of own keys put in, a task has the value that it has with all answers
abbrev pub OwnAnswersGiveTheValue : Type 0 → Type 0 → Type 0 → Type 0
OwnAnswersGiveTheValue K A X = (answers : K → A) (task : Task (Asked K) A X) → value_with answers (with_own answers task) ≡ value_with (answering answers) task

-- what is used is asked as it is, and what is owned isn't asked
abbrev pub UsedIsAsked : Type 0 → Type 0 → Type 0 → Type 0
UsedIsAsked K A X = (answers : K → A) (task : Task K A X) → with_own answers (used task) ≡ task

abbrev pub OwnedIsUnasked : Type 0 → Type 0 → Type 0 → Type 0
OwnedIsUnasked K A X = (answers : K → A) (task : Task K A X) → with_own answers (owned task) ≡ Done (value_with answers task)

abbrev pub OwnAnswersGoAlong : Type 0 → Type 0 → Type 0 → Type 0 → Type 0 → Type 0
OwnAnswersGoAlong K A E X Y = (answers : K → A) (check : Check (Asked K) A E X) (f : X → Check (Asked K) A E Y) → with_own answers (check >>= f) ≡ (with_own answers check >>= (λ x. with_own answers (f x)))

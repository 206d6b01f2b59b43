-- What holds of every set of rules.
use Rattle.std.specs.Prelude.{◌≡◌, ℕ, suc, Bool, true, List, ◌++◌, Option, Some, None, Ok, Err, ◌⊎◌}
use Rattle.queries.specs.Queries.{Task, ◌>>=◌, run, run_then, Rules, seen, round, IsListing, solution, dependencies, value_with, IsBelow, IsNeverKnown, WaitsFor, IsClosed, AgreesOutside, Among, Needs, Gives}

-- each round knows what the one before it knew
abbrev pub EachRoundKeepsAnswers : Type 0 → Type 0 → Type 0
EachRoundKeepsAnswers K A = (r : Rules K A) (n : ℕ) → IsBelow (round r n) (round r (suc n))

-- what any round knows, the solution knows
abbrev pub SolutionKnowsEachRound : Type 0 → Type 0 → Type 0
SolutionKnowsEachRound K A = (r : Rules K A) (keys : List K) → IsListing r keys → (n : ℕ) → IsBelow (seen r (round r n)) (seen r (solution r keys))

-- the solution's answers are what the tasks give with them
abbrev pub SolutionIsFixed : Type 0 → Type 0 → Type 0
SolutionIsFixed K A = (r : Rules K A) (keys : List K) → IsListing r keys → (k : K) (a : A) →
    (solution r keys k ≡ Some a → run (seen r (solution r keys)) (r.means k) ≡ Ok a) × (run (seen r (solution r keys)) (r.means k) ≡ Ok a → solution r keys k ≡ Some a)

-- whatever answers are closed under the tasks, they have the solution's
abbrev pub SolutionIsLeast : Type 0 → Type 0 → Type 0
SolutionIsLeast K A = (r : Rules K A) (keys : List K) (answers : K → Option A) → IsClosed r answers → IsBelow (seen r (solution r keys)) (seen r answers)

-- with true answers, however few, a task gives only the solution's
abbrev pub TrueAnswersGiveTrueOnes : Type 0 → Type 0 → Type 0
TrueAnswersGiveTrueOnes K A = (r : Rules K A) (keys : List K) → IsListing r keys → (memo : K → Option A) → IsBelow memo (seen r (solution r keys)) → (k : K) (a : A) →
    run memo (r.means k) ≡ Ok a → seen r (solution r keys) k ≡ Some a

-- where a task stops at u with true answers, however few, its key waits for u in every round
abbrev pub StoppedTaskWaits : Type 0 → Type 0 → Type 0
StoppedTaskWaits K A = (r : Rules K A) (keys : List K) → IsListing r keys → (memo : K → Option A) → IsBelow memo (seen r (solution r keys)) → (k u : K) →
    run memo (r.means k) ≡ Err u → r.has u ≡ true → WaitsFor r k u

-- where each key of a set waits for another of it, or for one that is never known, none of them is ever known
abbrev pub CirclesAreNeverKnown : Type 0 → Type 0 → Type 0
CirclesAreNeverKnown K A = (r : Rules K A) (circle : K → Bool) →
    ((k : K) → circle k ≡ true → (u : K) × ((circle u ≡ true) ⊎ IsNeverKnown r u) × WaitsFor r k u) → (k : K) → circle k ≡ true → IsNeverKnown r k

-- what isn't in the solution is known in no round
abbrev pub UnknownIsNeverKnown : Type 0 → Type 0 → Type 0
UnknownIsNeverKnown K A = (r : Rules K A) (keys : List K) → IsListing r keys → (k : K) → seen r (solution r keys) k ≡ None → IsNeverKnown r k

-- the solution doesn't depend on which list has the keys
abbrev pub SolutionIsOne : Type 0 → Type 0 → Type 0
SolutionIsOne K A = (r : Rules K A) (keys others : List K) → IsListing r keys → IsListing r others → (k : K) → seen r (solution r keys) k ≡ seen r (solution r others) k

-- Coverage: where rules agree outside a set of keys, the keys outside have equal answers.
abbrev pub AgreementCovers : Type 0 → Type 0 → Type 0
AgreementCovers K A = (p q : Rules K A) (ps qs : List K) (answers : K → A) (outside : K → Bool) → IsListing p ps → IsListing q qs →
    AgreesOutside p q ps qs answers (λ k. outside k ≡ true) → (k : K) → outside k ≡ true → seen p (solution p ps) k ≡ seen q (solution q qs) k

-- where every key is answered, a task gives its value
abbrev pub AnsweredTaskEnds : Type 0 → Type 0 → Type 0 → Type 0
AnsweredTaskEnds K A X = (answers : K → A) (task : Task K A X) → run (λ k. Some (answers k)) task ≡ Ok (value_with answers task)

-- one task after another gives what the second gives with the first one's value, and has the value and the dependencies of both
abbrev pub TasksCompose : Type 0 → Type 0 → Type 0 → Type 0 → Type 0
TasksCompose K A X Y = (task : Task K A X) (next : X → Task K A Y) →
    ((known : K → Option A) → run known (task >>= next) ≡ run_then (run known task) (λ x. run known (next x)))
    × ((answers : K → A) → value_with answers (task >>= next) ≡ value_with answers (next (value_with answers task)))
    × ((answers : K → A) → dependencies answers (task >>= next) ≡ dependencies answers task ++ dependencies answers (next (value_with answers task)))

-- where the keys that a task fetches have equal answers, it has an equal value and equal dependencies
abbrev pub EqualAnswersGiveEqualValues : Type 0 → Type 0 → Type 0 → Type 0
EqualAnswersGiveEqualValues K A X = (answers others : K → A) (task : Task K A X) → ((u : K) → Among (dependencies answers task) u → answers u ≡ others u) →
    (value_with answers task ≡ value_with others task) × (dependencies answers task ≡ dependencies others task)

-- where whatever a task ends with passes a test, so does what it gives with any answers
abbrev pub GivenValuesPass : Type 0 → Type 0 → Type 0 → Type 0
GivenValuesPass K A X = (passes : X → Bool) (task : Task K A X) → Gives passes task →
    ((known : K → Option A) (x : X) → run known task ≡ Ok x → passes x ≡ true) × ((answers : K → A) → passes (value_with answers task) ≡ true)

-- one task after another gives what passes, if the second does with each value of the first
abbrev pub TestsCompose : Type 0 → Type 0 → Type 0 → Type 0 → Type 0
TestsCompose K A X Y = (first : X → Bool) (passes : Y → Bool) (task : Task K A X) (next : X → Task K A Y) →
    Gives first task → ((x : X) → first x ≡ true → Gives passes (next x)) → Gives passes (task >>= next)

-- a task that stops at a key needs it
abbrev pub StoppedTaskNeeds : Type 0 → Type 0 → Type 0 → Type 0
StoppedTaskNeeds K A X = (known : K → Option A) (task : Task K A X) (u : K) → run known task ≡ Err u → Needs known task u

-- what a task needs is needed by all that goes on with it
abbrev pub NeedsOfTheFirst : Type 0 → Type 0 → Type 0 → Type 0 → Type 0
NeedsOfTheFirst K A X Y = (known : K → Option A) (task : Task K A X) (next : X → Task K A Y) (u : K) → Needs known task u → Needs known (task >>= next) u

-- What goes on with a task needs what it needs with each value that the task may give.
abbrev pub NeedsOfTheNext : Type 0 → Type 0 → Type 0 → Type 0 → Type 0
NeedsOfTheNext K A X Y = (known : K → Option A) (task : Task K A X) (next : X → Task K A Y) (u : K) → ((x : X) → Needs known (next x) u) → Needs known (task >>= next) u

-- What goes on with a task that has ended needs what it needs with that value.
abbrev pub NeedsBehindTheEnd : Type 0 → Type 0 → Type 0 → Type 0 → Type 0
NeedsBehindTheEnd K A X Y = (known : K → Option A) (task : Task K A X) (next : X → Task K A Y) (x : X) (u : K) → run known task ≡ Ok x → Needs known (next x) u → Needs known (task >>= next) u

-- where the task of k needs u with true answers, however few, k waits for u in every round
abbrev pub NeededKeyIsAwaited : Type 0 → Type 0 → Type 0
NeededKeyIsAwaited K A = (r : Rules K A) (keys : List K) → IsListing r keys → (memo : K → Option A) → IsBelow memo (seen r (solution r keys)) → (k u : K) →
    Needs memo (r.means k) u → r.has u ≡ true → WaitsFor r k u

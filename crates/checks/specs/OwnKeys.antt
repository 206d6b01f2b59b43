-- What a file reads of its own declarations is no use of it, and is asked all the same.
use Rattle.std.specs.Prelude.{List, [], ◌∷◌, map}
use Rattle.queries.specs.Queries.{Task, Done, Fetch, dependencies}
use Rattle.checks.specs.Checks.{Check}

-- What is asked: a key that is used, or one of the asker's own.
pub data Asked (K : Type 0) : Type 0 where
  Use : K → Asked K
  Own : K → Asked K

abbrev pub key_of : {K : Type 0} → Asked K → K
key_of (Use k) = k
key_of (Own k) = k

-- own and used keys are answered alike
abbrev pub answering : {K A : Type 0} → (K → A) → Asked K → A
answering answers asked = answers (key_of asked)

-- a task whose keys are all used
abbrev pub used : {K A X : Type 0} → Task K A X → Task (Asked K) A X
used (Done x) = Done x
used (Fetch k g) = Fetch (Use k) (λ a. used (g a))

-- a task whose keys are all the asker's own
abbrev pub owned : {K A X : Type 0} → Task K A X → Task (Asked K) A X
owned (Done x) = Done x
owned (Fetch k g) = Fetch (Own k) (λ a. owned (g a))

-- A task that asks what another one uses, where all own keys have their answers.
abbrev pub with_own : {K A X : Type 0} → (K → A) → Task (Asked K) A X → Task K A X
with_own answers (Done x) = Done x
with_own answers (Fetch (Use k) g) = Fetch k (λ a. with_own answers (g a))
with_own answers (Fetch (Own k) g) = with_own answers (g (answers k))

-- the keys that a task uses, in order
abbrev pub uses : {K A X : Type 0} → (K → A) → Task (Asked K) A X → List K
uses answers task = dependencies answers (with_own answers task)

-- all keys that a task asks, used and own, in order
abbrev pub asks : {K A X : Type 0} → (K → A) → Task (Asked K) A X → List K
asks answers task = map key_of (dependencies (answering answers) task)

-- Tasks that fetch keys, and the rounds in which the answers of all keys become known.
-- After Mokhov, Mitchell, Peyton Jones: Build Systems à la Carte (2018), where a task is a computation that fetches keys. The rounds are Kleene's iteration to the least fixed point.
use Rattle.std.specs.Prelude.{◌≡◌, ℕ, zero, suc, ◌+◌, Bool, true, false, cond, List, [], ◌∷◌, Option, Some, None, Result, Ok, Err, length, ◌⊎◌}

-- A task with a value in X: the value, or a key, and how to go on with the key's answer.
pub data Task (K : Type 0) (A : Type 0) (X : Type 0) : Type 0 where
  Done : X → Task K A X
  Fetch : K → (A → Task K A X) → Task K A X

-- the first task, and then the one that its value gives
infixl 10 ◌>>=◌
abbrev pub ◌>>=◌ : {K A X Y : Type 0} → Task K A X → (X → Task K A Y) → Task K A Y
(Done x) >>= f = f x
(Fetch k g) >>= f = Fetch k (λ a. g a >>= f)

-- goes on with what is known of a key, and stops at the key where nothing is
abbrev pub run_on : {K A X : Type 0} → K → Option A → (A → Result X K) → Result X K
run_on k None f = Err k
run_on k (Some a) f = f a

-- What a task gives with the answers that are known: its value, or Err of the first key that it fetches and that isn't known.
abbrev pub run : {K A X : Type 0} → (K → Option A) → Task K A X → Result X K
run known (Done x) = Ok x
run known (Fetch k g) = run_on k (known k) (λ a. run known (g a))

-- goes on with the value that was found
abbrev pub run_then : {K X Y : Type 0} → Result X K → (X → Result Y K) → Result Y K
run_then (Ok x) f = f x
run_then (Err k) f = Err k

-- the value, if the task ended
abbrev pub ok_of : {K X : Type 0} → Result X K → Option X
ok_of (Ok x) = Some x
ok_of (Err k) = None

-- Which keys have a provider, the answer of the others, and the task of each key, whose value is the key's answer.
pub record Rules (K : Type 0) (A : Type 0) : Type 0 where
  pub has : K → Bool
  pub nothing : A
  pub means : K → Task K A A

-- what a task may fetch: a key without provider is known from the start
abbrev pub seen : {K A : Type 0} → Rules K A → (K → Option A) → K → Option A
seen r known k = cond (r.has k) (known k) (Some r.nothing)

-- The answers of round n: none in round 0, and then what the tasks give with the answers of the round before.
abbrev pub round : {K A : Type 0} → Rules K A → ℕ → K → Option A
round r zero k = None
round r (suc n) k = ok_of (run (seen r (round r n)) (r.means k))

-- the key is one of the list
abbrev pub Among : {K : Type 0} → List K → K → Type 0
Among [] k = ⊥
Among (x ∷ xs) k = (x ≡ k) ⊎ Among xs k

-- The list has each key with a provider, and the task of each other key gives the answer of those without.
pub record IsListing {K A : Type 0} (r : Rules K A) (keys : List K) : Type 0 where
  pub listed : (k : K) → r.has k ≡ true → Among keys k
  pub others : (k : K) → r.has k ≡ false → r.means k ≡ Done r.nothing

-- The solution: the answers of the round after which nothing more becomes known, one more than there are keys.
abbrev pub solution : {K A : Type 0} → Rules K A → List K → K → Option A
solution r keys = round r (length keys + 1)

-- the answer, or `circular` where there is none
abbrev pub known_or : {A : Type 0} → A → Option A → A
known_or circular None = circular
known_or circular (Some a) = a

-- The meaning of a key: its answer in the solution, and `circular` where that has none.
abbrev pub meaning : {K A : Type 0} → Rules K A → List K → A → K → A
meaning r keys circular k = known_or circular (solution r keys k)

-- the keys that a task fetches, in order, where every key is answered
abbrev pub dependencies : {K A X : Type 0} → (K → A) → Task K A X → List K
dependencies answers (Done x) = []
dependencies answers (Fetch k g) = k ∷ dependencies answers (g (answers k))

-- the value of a task, where every key is answered
abbrev pub value_with : {K A X : Type 0} → (K → A) → Task K A X → X
value_with answers (Done x) = x
value_with answers (Fetch k g) = value_with answers (g (answers k))

-- what the first knows, the second knows too
pub record IsBelow {K A : Type 0} (s t : K → Option A) : Type 0 where
  pub at : (k : K) (a : A) → s k ≡ Some a → t k ≡ Some a

-- the key is known in no round
pub record IsNeverKnown {K A : Type 0} (r : Rules K A) (k : K) : Type 0 where
  pub at : (n : ℕ) → round r n k ≡ None

-- as long as u isn't known, k isn't known a round later
pub record WaitsFor {K A : Type 0} (r : Rules K A) (k u : K) : Type 0 where
  pub at : (n : ℕ) → round r n u ≡ None → round r (suc n) k ≡ None

-- no key has different answers in them
pub record Agree {K A : Type 0} (s t : K → Option A) : Type 0 where
  pub at : (k : K) (a b : A) → s k ≡ Some a → t k ≡ Some b → a ≡ b

-- With what is known, a task needs a key: whatever else becomes known, it gives nothing before the key is known.
pub record Needs {K A X : Type 0} (known : K → Option A) (task : Task K A X) (u : K) : Type 0 where
  pub at : (later : K → Option A) → Agree known later → later u ≡ None → ok_of (run later task) ≡ None

-- Whatever the answers are, a task that ends gives a value that passes the test.
abbrev pub Gives : {K A X : Type 0} → (X → Bool) → Task K A X → Type 0
Gives passes (Done x) = passes x ≡ true
Gives {K} {A} {X} passes (Fetch k g) = (a : A) → Gives passes (g a)

-- what the tasks give with these answers is among them
pub record IsClosed {K A : Type 0} (r : Rules K A) (answers : K → Option A) : Type 0 where
  pub at : (k : K) (a : A) → run (seen r answers) (r.means k) ≡ Ok a → seen r answers k ≡ Some a

-- Two sets of rules that agree on the keys outside, where each key that the first fetches for one outside is outside too, or has equal answers in both.
-- `answers` has the first rules' solution, and anything where that has no answer.
pub record AgreesOutside {K A : Type 0} (p q : Rules K A) (ps qs : List K) (answers : K → A) (outside : K → Type 0) : Type 0 where
  pub nothing : p.nothing ≡ q.nothing
  pub has : (k : K) → outside k → p.has k ≡ q.has k
  pub means : (k : K) → outside k → p.means k ≡ q.means k
  pub answered : (k : K) (a : A) → seen p (solution p ps) k ≡ Some a → answers k ≡ a
  pub uses : (k : K) → outside k → (u : K) → Among (dependencies answers (p.means k)) u →
      outside u ⊎ (seen p (solution p ps) u ≡ seen q (solution q qs) u)

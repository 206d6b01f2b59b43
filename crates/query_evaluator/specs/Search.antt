-- Where a search for answers stands: a memo, the requests in progress, each of which waits for the next, and marks on all keys that were asked for.
use Rattle.std.specs.Prelude.{◌≡◌, ℕ, ◌+◌, Bool, true, cond, List, [], ◌∷◌, Option, Some, None, length, map, ◌⊎◌, IsSome, is_some, All, ⊤}
use Rattle.queries.specs.Queries.{Rules, seen, solution, Among, WaitsFor}
use Rattle.query_evaluator.specs.declared.request.Request.{Request}
use Rattle.query_evaluator.specs.declared.request.Step.{Step}
use Rattle.query_evaluator.specs.declared.request.Step.TheVariants.{Answer, Need}
use Rattle.query_evaluator.specs.Memos.{known, IsTrueMemo}

-- a key with a provider, for which another one waits
pub record IsAwaited {K A : Type 0} (r : Rules K A) (key awaited : K) : Type 0 where
  pub has : r.has awaited ≡ true
  pub waits : WaitsFor r key awaited

-- the key of a request waits for all that the request still wants
abbrev pub IsRequest : {K A : Type 0} → Rules K A → Request K → Type 0
IsRequest r request = All (IsAwaited r request.key) request.wanted.items

-- a key waits for the first of a list, if there is one
abbrev pub WaitsForFirst : {K A : Type 0} → Rules K A → K → List K → Type 0
WaitsForFirst r key [] = ⊤
WaitsForFirst r key (next ∷ more) = WaitsFor r key next

-- each key waits for the one after it
abbrev pub IsChain : {K A : Type 0} → Rules K A → List K → Type 0
IsChain r [] = ⊤
IsChain r (key ∷ more) = WaitsForFirst r key more × IsChain r more

abbrev pub keys_in : {K : Type 0} → List (Request K) → List K
keys_in requests = map (λ request. request.key) requests

-- what is marked is answered or in progress
pub record IsMarked {K A : Type 0} (memo : K → Option (Option A)) (marks : K → Bool) (stack : List K) : Type 0 where
  pub at : (key : K) → marks key ≡ true → IsSome (memo key) ⊎ Among stack key

-- where a search stands
pub record IsState {K A : Type 0} (r : Rules K A) (keys : List K) (memo : K → Option (Option A)) (marks : K → Bool) (requests : List (Request K)) : Type 0 where
  pub memo_true : IsTrueMemo r keys memo
  pub chain : IsChain r (keys_in requests)
  pub each : All (IsRequest r) requests
  pub marked : IsMarked memo marks (keys_in requests)

-- A step of a request is right: an answer is the solution's, and a key that is needed has no answer yet and is awaited.
abbrev pub IsStep : {K A : Type 0} → Rules K A → List K → (K → Option (Option A)) → K → Step K A → Type 0
IsStep r keys memo key (Answer answer) = seen r (solution r keys) key ≡ Some answer
IsStep r keys memo key (Need next) = IsAwaited r key next × (known memo next ≡ None)

-- what is left to do at a key, over all keys, and with the requests
abbrev pub weight : {K A : Type 0} → (K → Option (Option A)) → (K → Bool) → K → ℕ
weight memo marks key = cond (is_some (memo key)) 0 (cond (marks key) 1 3)

abbrev pub total : {K : Type 0} → (K → ℕ) → List K → ℕ
total w [] = 0
total w (key ∷ more) = w key + total w more

unfoldable pub work : {K A : Type 0} → List K → (K → Option (Option A)) → (K → Bool) → List (Request K) → ℕ
work keys memo marks requests = total (weight memo marks) keys + length requests

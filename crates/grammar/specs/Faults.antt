-- What a reader of tokens finds: a tree, or the first fault.
use Rattle.std.specs.Prelude.{◌≡◌, ℕ, ◌<◌, Bool, true, false, List, [], ◌∷◌, ◌++◌, length}
use Rattle.grammar.specs.Forms.{Form, begins_by}

-- The list does not begin with a token of the test.
abbrev pub Stops : {T : Type 0} → (T → Bool) → List T → Type 0
Stops test [] = Unit {0}
Stops test (t ∷ ts) = test t ≡ false

-- Both lists begin with one token, or both are empty.
abbrev pub StartsAs : {T : Type 0} → List T → List T → Type 0
StartsAs [] w = w ≡ []
StartsAs {T} (t ∷ ts) w = (more : List T) × (w ≡ t ∷ more)

-- A tree was read from the front of the old list, and the new one, what is left, does not begin with a token of `ends`.
pub record Parsed {T : Type 0} {X : Type 0} (f : Form T X) (x : X) (ends : T → Bool) (old new : List T) : Type 0 where
  pub spelled : old ≡ f.tokens x ++ new
  pub right : f.is_well_formed x ≡ true
  pub stops : Stops ends new

-- No tree of the form, whatever may stand behind it, begins with these tokens and the first of the rest; where the rest is
-- empty, none has just these tokens. What may stand behind a tree is a list that does not continue with it.
abbrev pub Refuses : {T X : Type 0} → Form T X → List T → List T → Type 0
Refuses {T} {X} f before rest = (x : X) (v w : List T) → f.is_well_formed x ≡ true → StartsAs rest v → Stops (f.continues x) w → f.tokens x ++ w ≡ before ++ v → ⊥

-- Some well-formed tree of the form begins with these tokens.
pub record Begins {T : Type 0} {X : Type 0} (f : Form T X) (before : List T) : Type 0 where
  pub tree : X
  pub more : List T
  pub right : f.is_well_formed tree ≡ true
  pub spelled : f.tokens tree ≡ before ++ more

-- The first fault stands at the front of the new list, or is its end: the tokens before it begin a tree, and with it none.
pub record FailsAt {T : Type 0} {X : Type 0} (f : Form T X) (old new : List T) : Type 0 where
  pub before : List T
  pub spelled : old ≡ before ++ new
  pub refuses : Refuses f before new
  pub begins : Begins f before

-- Two well-formed trees at the front of one list, with anything behind them that does not continue with them, are one tree.
-- It is said of first trees of fewer than n tokens.
abbrev pub IsUnambiguousBelow : {T X : Type 0} → ℕ → Form T X → Type 0
IsUnambiguousBelow {T} {X} n f = (x y : X) (v w : List T) → length (f.tokens x) < n → f.is_well_formed x ≡ true → f.is_well_formed y ≡ true → Stops (f.continues x) v → Stops (f.continues y) w → f.tokens x ++ v ≡ f.tokens y ++ w → (x ≡ y) × (v ≡ w)

-- The form is unambiguous: the same of trees of any length.
abbrev pub IsUnambiguous : {T X : Type 0} → Form T X → Type 0
IsUnambiguous {T} {X} f = (x y : X) (v w : List T) → f.is_well_formed x ≡ true → f.is_well_formed y ≡ true → Stops (f.continues x) v → Stops (f.continues y) w → f.tokens x ++ v ≡ f.tokens y ++ w → (x ≡ y) × (v ≡ w)

-- The form's FIRST tokens are of the test: each well-formed tree begins with such a token, so none is empty.
abbrev pub StartsWithin : {T X : Type 0} → (T → Bool) → Form T X → Type 0
StartsWithin {T} {X} test f = (x : X) → f.is_well_formed x ≡ true → begins_by test (f.tokens x) ≡ true

-- No token is of both tests.
abbrev pub AreDisjoint : {T : Type 0} → (T → Bool) → (T → Bool) → Type 0
AreDisjoint {T} one two = (t : T) → one t ≡ true → two t ≡ false

-- Each token of the one test is of the other.
abbrev pub IsSubset : {T : Type 0} → (T → Bool) → (T → Bool) → Type 0
IsSubset {T} one two = (t : T) → one t ≡ true → two t ≡ true

-- No tree of the form continues with a token of the test.
abbrev pub NeverContinuesWith : {T X : Type 0} → (T → Bool) → Form T X → Type 0
NeverContinuesWith {T} {X} test f = (x : X) (t : T) → test t ≡ true → f.continues x t ≡ false

-- Each tree of the form continues with tokens of the test alone.
abbrev pub ContinuesWith : {T X : Type 0} → (T → Bool) → Form T X → Type 0
ContinuesWith {T} {X} test f = (x : X) (t : T) → f.continues x t ≡ true → test t ≡ true

-- The second form may FOLLOW the first: a well-formed tree of it, and what may stand behind that, begins with no token that
-- continues a tree of the first.
abbrev pub Follows : {T X Y : Type 0} → Form T X → Form T Y → Type 0
Follows {T} {X} {Y} f g = (x : X) (y : Y) (w : List T) → g.is_well_formed y ≡ true → Stops (g.continues y) w → Stops (f.continues x) (g.tokens y ++ w)

-- The same of a second form that depends on the first tree.
abbrev pub FollowsOn : {T X Y : Type 0} → Form T X → (X → Form T Y) → Type 0
FollowsOn {T} {X} {Y} f g = (x : X) (y : Y) (w : List T) → (g x).is_well_formed y ≡ true → Stops ((g x).continues y) w → Stops (f.continues x) ((g x).tokens y ++ w)

-- Each well-formed tree of the form begins a well-formed tree of the longer one.
pub record Widens {T : Type 0} {X : Type 0} {Y : Type 0} (longer : Form T Y) (f : Form T X) : Type 0 where
  pub at : (x : X) → f.is_well_formed x ≡ true → Begins longer (f.tokens x)

-- The token alone is a well-formed tree.
pub record IsBare {T : Type 0} {X : Type 0} (f : Form T X) (t : T) : Type 0 where
  pub tree : X
  pub right : f.is_well_formed tree ≡ true
  pub spelled : f.tokens tree ≡ t ∷ []

-- Each token of the test is a well-formed tree alone.
abbrev pub Bare : {T X : Type 0} → (T → Bool) → Form T X → Type 0
Bare {T} test f = (t : T) → test t ≡ true → IsBare f t

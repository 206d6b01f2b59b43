-- Levels of brackets, counted over the tokens alone: `opens` and `closes` are the tests of brackets.
use Rattle.std.specs.Prelude.{◌≡◌, ℕ, ◌+◌, ◌-◌, ◌<◌, ◌≤◌, Bool, true, false, ◌&&◌, if◌then◌else◌, nat_le, List, [], ◌∷◌, ◌++◌, length, Option, Some, None}
use Rattle.grammar.specs.Forms.{Form}
use Rattle.grammar.specs.Whole.{IsBeginning, IsFirstFault}

-- how many brackets are open behind a token
abbrev pub level : {T : Type 0} → (T → Bool) → (T → Bool) → ℕ → T → ℕ
level opens closes held t = if opens t then held + 1 else (if closes t then held - 1 else held)

-- how many are open behind a list
abbrev pub level_after : {T : Type 0} → (T → Bool) → (T → Bool) → ℕ → List T → ℕ
level_after opens closes held [] = held
level_after opens closes held (t ∷ ts) = level_after opens closes (level opens closes held t) ts

-- The tokens from the first bracket that opens a level above the limit, where there is one.
abbrev pub too_deep : {T : Type 0} → (T → Bool) → (T → Bool) → ℕ → ℕ → List T → Option (List T)
too_deep opens closes limit held [] = None
too_deep opens closes limit held (t ∷ ts) = if opens t && nat_le limit held then Some (t ∷ ts) else too_deep opens closes limit (level opens closes held t) ts

-- The rest begins no later than the bracket that is too deep.
abbrev pub NotBehind : {T : Type 0} → List T → Option (List T) → Type 0
NotBehind rest None = Unit {0}
NotBehind rest (Some deep) = length deep ≤ length rest

-- The tree of a list that opens no level above the limit.
abbrev pub IsTree : {T X : Type 0} → (T → Bool) → (T → Bool) → ℕ → Form T X → List T → X → Type 0
IsTree opens closes limit f ts x = (f.is_well_formed x ≡ true) × (f.tokens x ≡ ts) × (too_deep opens closes limit 0 ts ≡ None)

-- The first fault of a list, no later than its first bracket that is too deep.
abbrev pub IsUnexpected : {T X : Type 0} → (T → Bool) → (T → Bool) → ℕ → Form T X → List T → List T → Type 0
IsUnexpected opens closes limit f ts rest = IsFirstFault f ts rest × NotBehind rest (too_deep opens closes limit 0 ts)

-- The first bracket that is too deep, where the tokens up to it and with it are a beginning of a tree.
pub record IsTooDeep {T : Type 0} {X : Type 0} (opens closes : T → Bool) (limit : ℕ) (f : Form T X) (ts rest : List T) : Type 0 where
  pub before : List T
  pub bracket : T
  pub more : List T
  pub is : rest ≡ bracket ∷ more
  pub spelled : ts ≡ before ++ rest
  pub deep : too_deep opens closes limit 0 ts ≡ Some rest
  pub begins : IsBeginning f (before ++ (bracket ∷ []))

-- Each well-formed tree closes what it opens, and no more. It is said of trees of fewer than n tokens.
abbrev pub BalancedTo : {T X : Type 0} → (T → Bool) → (T → Bool) → ℕ → Form T X → Type 0
BalancedTo {T} {X} opens closes n f = (x : X) (held : ℕ) → length (f.tokens x) < n → f.is_well_formed x ≡ true → level_after opens closes held (f.tokens x) ≡ held

abbrev pub Balanced : {T X : Type 0} → (T → Bool) → (T → Bool) → Form T X → Type 0
Balanced {T} {X} opens closes f = (x : X) (held : ℕ) → f.is_well_formed x ≡ true → level_after opens closes held (f.tokens x) ≡ held

-- The tokens of the test are no brackets.
abbrev pub Plain : {T : Type 0} → (T → Bool) → (T → Bool) → (T → Bool) → Type 0
Plain {T} opens closes test = (t : T) → test t ≡ true → (opens t ≡ false) × (closes t ≡ false)

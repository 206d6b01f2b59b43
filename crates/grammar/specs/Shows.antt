-- Trees of a program as trees of a rule.
use Rattle.std.specs.Prelude.{◌≡◌, Bool, true, List}
use Rattle.grammar.specs.Forms.{Form}

-- The well-formed trees of the program (form F) are the well-formed trees of the rule (form f), by `out`, and back by `made`; both forms
-- give them the same tokens, and let them continue with the same.
pub record Shows {T : Type 0} {X : Type 0} {Y : Type 0} (F : Form T X) (f : Form T Y) (out : X → Y) (made : Y → X) : Type 0 where
  pub tokens : (x : X) → F.tokens x ≡ f.tokens (out x)
  pub continues : (x : X) → F.continues x ≡ f.continues (out x)
  pub right : (x : X) → F.is_well_formed x ≡ true → f.is_well_formed (out x) ≡ true
  pub made_right : (y : Y) → f.is_well_formed y ≡ true → F.is_well_formed (made y) ≡ true
  pub there : (y : Y) → f.is_well_formed y ≡ true → out (made y) ≡ y
  pub back : (x : X) → F.is_well_formed x ≡ true → made (out x) ≡ x

-- The form of trees whose parts `out` gives.
abbrev pub through : {T X Y : Type 0} → (X → Y) → Form T Y → Form T X
through out f = record { tokens = λ x. f.tokens (out x); is_well_formed = λ x. f.is_well_formed (out x); continues = λ x. f.continues (out x) }

-- What a form says of one tree. A fold over trees that contain one another gives a reading of each.
pub record TreeFacts (T : Type 0) : Type 0 where
  pub tokens : List T
  pub is_well_formed : Bool
  pub continues : T → Bool

-- what a form says of a tree
abbrev pub reading : {T X : Type 0} → Form T X → X → TreeFacts T
reading f x = record { tokens = f.tokens x; is_well_formed = f.is_well_formed x; continues = f.continues x }

-- the form of trees that are known by their readings: what the parts of a tree are to its rule
abbrev pub given : {T : Type 0} → Form T (TreeFacts T)
given = record { tokens = λ r. r.tokens; is_well_formed = λ r. r.is_well_formed; continues = λ r. r.continues }

-- the form of trees that are read so
abbrev pub seen : {T X : Type 0} → (X → TreeFacts T) → Form T X
seen read = record { tokens = λ x. (read x).tokens; is_well_formed = λ x. (read x).is_well_formed; continues = λ x. (read x).continues }

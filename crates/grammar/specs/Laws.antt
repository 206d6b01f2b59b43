-- What holds of every form.
use Rattle.std.specs.Prelude.{◌≡◌, List}
use Rattle.grammar.specs.Forms.{Form}
use Rattle.grammar.specs.Faults.{IsUnambiguous}
use Rattle.grammar.specs.Whole.{IsWhole, IsFirstFault}

-- where trees are told apart by their tokens, a list of tokens has one tree
abbrev pub ListHasOneTree : Type 0 → Type 0 → Type 0
ListHasOneTree T X = (f : Form T X) → IsUnambiguous f → (ts : List T) → (v w : IsWhole f ts) → v.0 ≡ w.0

-- a list of tokens that has a tree has no first fault
abbrev pub NeverTreeAndFault : Type 0 → Type 0 → Type 0
NeverTreeAndFault T X = (f : Form T X) (ts rest : List T) → IsWhole f ts → IsFirstFault f ts rest → ⊥

-- a list of tokens has one first fault
abbrev pub ListHasOneFault : Type 0 → Type 0 → Type 0
ListHasOneFault T X = (f : Form T X) (ts rest other : List T) → IsFirstFault f ts rest → IsFirstFault f ts other → rest ≡ other

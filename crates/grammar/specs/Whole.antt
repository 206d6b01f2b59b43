-- The whole of a list of tokens: it is a tree, or has a first fault.
use Rattle.std.specs.Prelude.{◌≡◌, true, List, [], ◌∷◌, ◌++◌}
use Rattle.grammar.specs.Forms.{Form}

-- The list is the tokens of a well-formed tree.
abbrev pub IsWhole : {T X : Type 0} → Form T X → List T → Type 0
IsWhole {T} {X} f ts = (x : X) × (f.is_well_formed x ≡ true) × (f.tokens x ≡ ts)

-- Some well-formed tree begins with these tokens.
abbrev pub IsBeginning : {T X : Type 0} → Form T X → List T → Type 0
IsBeginning {T} {X} f ts = (x : X) × (more : List T) × (f.is_well_formed x ≡ true) × (f.tokens x ≡ ts ++ more)

-- With its first token the rest makes what stands before it no beginning; where the rest is empty, what stands before is no tree.
abbrev pub CannotContinue : {T X : Type 0} → Form T X → List T → List T → Type 0
CannotContinue f before [] = IsWhole f before → ⊥
CannotContinue f before (t ∷ rest) = IsBeginning f (before ++ (t ∷ [])) → ⊥

-- The first fault of a list of tokens is where the rest begins: what stands before is a beginning of some tree, and cannot go on so.
pub record IsFirstFault {T : Type 0} {X : Type 0} (f : Form T X) (ts rest : List T) : Type 0 where
  pub before : List T
  pub spelled : ts ≡ before ++ rest
  pub begins : IsBeginning f before
  pub ends : CannotContinue f before rest

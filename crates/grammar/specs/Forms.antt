-- Forms of trees. A rule of a grammar is a form: it says which tokens a tree has, which trees are well-formed,
-- and which next token a tree that could have ended would have continued with.
-- A form with `f.continues x t` false for all t ends with its last token, as brackets do.
use Rattle.std.specs.Prelude.{Bool, true, false, ◌&&◌, ◌||◌, not, List, [], ◌∷◌, ◌++◌, Option, Some, None, ◌⊎◌}
use Rattle.std.proofs.Common.{inl, inr}

-- Trees X over tokens T.
pub record Form (T : Type 0) (X : Type 0) : Type 0 where
  pub tokens : X → List T
  pub is_well_formed : X → Bool
  pub continues : X → T → Bool

abbrev pub nothing : {T : Type 0} → T → Bool
nothing t = false

-- the list begins with a token of the test
abbrev pub begins_by : {T : Type 0} → (T → Bool) → List T → Bool
begins_by test [] = false
begins_by test (t ∷ ts) = test t

-- One token of a test.
abbrev pub token : {T : Type 0} → (T → Bool) → Form T T
token test = record { tokens = λ t. t ∷ []; is_well_formed = test; continues = λ _ t. false }

-- A tree, and a tree behind it.
abbrev pub both : {T X Y : Type 0} → Form T X → Form T Y → Form T (X × Y)
both f g = record { tokens = λ p. f.tokens p.0 ++ g.tokens p.1; is_well_formed = λ p. f.is_well_formed p.0 && g.is_well_formed p.1; continues = λ p. g.continues p.1 }

-- A tree, and a tree behind it whose form depends on the first.
abbrev pub both_on : {T X Y : Type 0} → Form T X → (X → Form T Y) → Form T (X × Y)
both_on f g = record { tokens = λ p. f.tokens p.0 ++ (g p.0).tokens p.1; is_well_formed = λ p. f.is_well_formed p.0 && (g p.0).is_well_formed p.1; continues = λ p. (g p.0).continues p.1 }

-- A tree that may be left out; it begins with a token of the test.
abbrev pub perhaps_tokens : {T X : Type 0} → Form T X → Option X → List T
perhaps_tokens f None = []
perhaps_tokens f (Some x) = f.tokens x

abbrev pub perhaps_well_formed : {T X : Type 0} → Form T X → Option X → Bool
perhaps_well_formed f None = true
perhaps_well_formed f (Some x) = f.is_well_formed x

abbrev pub perhaps_on : {T X : Type 0} → (T → Bool) → Form T X → Option X → T → Bool
perhaps_on test f None t = test t
perhaps_on test f (Some x) t = f.continues x t

abbrev pub perhaps : {T X : Type 0} → (T → Bool) → Form T X → Form T (Option X)
perhaps test f = record { tokens = perhaps_tokens f; is_well_formed = perhaps_well_formed f; continues = perhaps_on test f }

-- A tree, and behind it one more that may be left out; that one begins with a token of the test.
abbrev pub once_on : {T X Y : Type 0} → (T → Bool) → Form T X → Form T Y → X → Option Y → T → Bool
once_on test f g x None t = test t || f.continues x t
once_on test f g x (Some y) t = g.continues y t

abbrev pub once : {T X Y : Type 0} → (T → Bool) → Form T X → Form T Y → Form T (X × Option Y)
once test f g = record { tokens = λ p. f.tokens p.0 ++ perhaps_tokens g p.1; is_well_formed = λ p. f.is_well_formed p.0 && perhaps_well_formed g p.1; continues = λ p. once_on test f g p.0 p.1 }

-- One of two trees.
abbrev pub either_tokens : {T X Y : Type 0} → Form T X → Form T Y → X ⊎ Y → List T
either_tokens f g (inl x) = f.tokens x
either_tokens f g (inr y) = g.tokens y

abbrev pub either_well_formed : {T X Y : Type 0} → Form T X → Form T Y → X ⊎ Y → Bool
either_well_formed f g (inl x) = f.is_well_formed x
either_well_formed f g (inr y) = g.is_well_formed y

abbrev pub either_on : {T X Y : Type 0} → Form T X → Form T Y → X ⊎ Y → T → Bool
either_on f g (inl x) t = f.continues x t
either_on f g (inr y) t = g.continues y t

abbrev pub either : {T X Y : Type 0} → Form T X → Form T Y → Form T (X ⊎ Y)
either f g = record { tokens = either_tokens f g; is_well_formed = either_well_formed f g; continues = either_on f g }

-- The trees of a form that begin with a token of the test.
abbrev pub beginning : {T X : Type 0} → (T → Bool) → Form T X → Form T X
beginning test f = record { tokens = f.tokens; is_well_formed = λ x. f.is_well_formed x && begins_by test (f.tokens x); continues = f.continues }

-- The trees of a form that a test lets pass.
abbrev pub narrow : {T X : Type 0} → (X → Bool) → Form T X → Form T X
narrow passes f = record { tokens = f.tokens; is_well_formed = λ x. f.is_well_formed x && passes x; continues = f.continues }

-- Trees one behind the other.
abbrev pub in_row : {T X : Type 0} → Form T X → List X → List T
in_row f [] = []
in_row f (x ∷ xs) = f.tokens x ++ in_row f xs

abbrev pub all_well_formed : {T X : Type 0} → Form T X → List X → Bool
all_well_formed f [] = true
all_well_formed f (x ∷ xs) = f.is_well_formed x && all_well_formed f xs

-- what the last tree continues with, or what stood before them all
abbrev pub last_on : {T X : Type 0} → Form T X → (T → Bool) → List X → T → Bool
last_on f on [] = on
last_on f on (x ∷ xs) = last_on f (f.continues x) xs

-- the same, or one tree more
abbrev pub row_on : {T X : Type 0} → (T → Bool) → Form T X → (T → Bool) → List X → T → Bool
row_on test f on xs t = last_on f on xs t || test t

-- Trees in a row, any number of them; each begins with a token of the test.
abbrev pub many : {T X : Type 0} → (T → Bool) → Form T X → Form T (List X)
many test f = record { tokens = in_row f; is_well_formed = all_well_formed f; continues = row_on test f nothing }

-- A tree, and a row of others behind it; each of these begins with a token of the test.
abbrev pub trail : {T X Y : Type 0} → (T → Bool) → Form T X → Form T Y → Form T (X × List Y)
trail test f g = record { tokens = λ p. f.tokens p.0 ++ in_row g p.1; is_well_formed = λ p. f.is_well_formed p.0 && all_well_formed g p.1; continues = λ p. row_on test g (f.continues p.0) p.1 }

-- Trees with a mark between each two; a mark begins with a token of the test.
abbrev pub chain : {T M X : Type 0} → (T → Bool) → Form T M → Form T X → Form T (X × List (M × X))
chain test mark f = trail test f (both mark f)

-- Trees in a row: the first begins with a token of one test, and each later one with a token of the other.
abbrev pub lines_well_formed : {T X : Type 0} → (T → Bool) → Form T X → List X → Bool
lines_well_formed next f [] = true
lines_well_formed next f (x ∷ xs) = f.is_well_formed x && all_well_formed (beginning next f) xs

abbrev pub lines_on : {T X : Type 0} → (T → Bool) → (T → Bool) → Form T X → List X → T → Bool
lines_on starts next f [] t = starts t
lines_on starts next f (x ∷ xs) t = row_on next f (f.continues x) xs t

abbrev pub lines : {T X : Type 0} → (T → Bool) → (T → Bool) → Form T X → Form T (List X)
lines starts next f = record { tokens = in_row f; is_well_formed = lines_well_formed next f; continues = lines_on starts next f }

-- Trees in a row, up to the first that stops it: each begins with a token of the test, and none stands behind one that stops.
-- `going` says that the row still goes on.
abbrev pub still_going : {X : Type 0} → (X → Bool) → Bool → List X → Bool
still_going stop going [] = going
still_going stop going (x ∷ xs) = still_going stop (not (stop x)) xs

abbrev pub until_well_formed : {T X : Type 0} → (X → Bool) → Form T X → Bool → List X → Bool
until_well_formed stop f going [] = true
until_well_formed stop f going (x ∷ xs) = going && (f.is_well_formed x && until_well_formed stop f (not (stop x)) xs)

abbrev pub until_on : {T X : Type 0} → (T → Bool) → (X → Bool) → Form T X → (T → Bool) → Bool → List X → T → Bool
until_on test stop f on going xs t = last_on f on xs t || (still_going stop going xs && test t)

abbrev pub until : {T X : Type 0} → (T → Bool) → (X → Bool) → Form T X → Form T (List X)
until test stop f = record { tokens = in_row f; is_well_formed = until_well_formed stop f true; continues = until_on test stop f nothing true }

-- A tree with a label before it, or without: a token of `name` and a token of `colon`.
-- A tree of one single token of `name` would have continued with a colon, as a label.
abbrev pub labelled_tokens : {T X : Type 0} → Form T X → Option (T × T) → X → List T
labelled_tokens f None x = f.tokens x
labelled_tokens f (Some p) x = p.0 ∷ (p.1 ∷ f.tokens x)

abbrev pub labelled_well_formed : {T X : Type 0} → (T → Bool) → (T → Bool) → Form T X → Option (T × T) → X → Bool
labelled_well_formed name colon f None x = f.is_well_formed x
labelled_well_formed name colon f (Some p) x = name p.0 && (colon p.1 && f.is_well_formed x)

-- the list is one single token of the test
abbrev pub is_single : {T : Type 0} → (T → Bool) → List T → Bool
is_single test [] = false
is_single test (t ∷ []) = test t
is_single test (t ∷ (u ∷ ts)) = false

abbrev pub labelled_on : {T X : Type 0} → (T → Bool) → (T → Bool) → Form T X → Option (T × T) → X → T → Bool
labelled_on name colon f None x t = f.continues x t || (is_single name (f.tokens x) && colon t)
labelled_on name colon f (Some p) x t = f.continues x t

abbrev pub labelled : {T X : Type 0} → (T → Bool) → (T → Bool) → Form T X → Form T (Option (T × T) × X)
labelled name colon f = record { tokens = λ p. labelled_tokens f p.0 p.1; is_well_formed = λ p. labelled_well_formed name colon f p.0 p.1; continues = λ p. labelled_on name colon f p.0 p.1 }

-- the list begins as a label does
abbrev pub begins_label : {T : Type 0} → (T → Bool) → (T → Bool) → List T → Bool
begins_label name colon [] = false
begins_label name colon (t ∷ []) = false
begins_label name colon (t ∷ (u ∷ ts)) = name t && colon u

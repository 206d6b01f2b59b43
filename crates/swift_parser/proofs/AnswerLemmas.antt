-- A list of tokens has one answer: a tree, a token that is not expected, or a bracket that is too deep.
use Rattle.std.proofs.Common.{◌≡◌, ℕ, ◌+◌, ◌≤◌, Bool, List, [], ◌∷◌, ◌++◌, length, Option, Some, None, sym, ◌∙◌, ap, subst, arith}
use Rattle.std.proofs.lemmas.List.{append_assoc, length-append}
use Rattle.grammar.specs.Forms.{Form}
use Rattle.grammar.specs.Faults.{IsUnambiguous}
use Rattle.grammar.specs.Whole.{IsWhole, IsBeginning, IsFirstFault}
use Rattle.grammar.specs.Levels.{too_deep, NotBehind, IsTree, IsUnexpected, IsTooDeep}
use Rattle.grammar.proofs.Basics.{head_of, tail_of, cons_is}
use Rattle.grammar.proofs.Wholes.{one_whole, one_fault, no_fault}

some_is : {A : Type 0} (a b : A) → Some a ≡ Some b → a ≡ b
some_is a b e = cc

none_some : {A : Type 0} (o : Option A) (a : A) → o ≡ None → o ≡ Some a → ⊥
none_some o a n s = let e : None ≡ Some a = sym n ∙ s in cc

longer : {T : Type 0} (a rest more : List T) (t u : T) → a ++ (t ∷ rest) ≡ more → length (u ∷ more) ≤ length (t ∷ rest) → ⊥
longer a rest more t u e l =
    let n : length more ≡ length a + length (t ∷ rest) = ap length (sym e) ∙ length-append a (t ∷ rest) in
    omega (arith, l, n)

-- a list that ends no later than another of the same front is a front of it
pub record Fronts {T : Type 0} (shorter longer : List T) : Type 0 where
  pub more : List T
  pub is : longer ≡ shorter ++ more

fronts_next : {T : Type 0} (x y : T) (a b : List T) (t u : T) → x ≡ y → Fronts (a ++ (t ∷ [])) (b ++ (u ∷ [])) → Fronts (x ∷ (a ++ (t ∷ []))) (y ∷ (b ++ (u ∷ [])))
fronts_next x y a b t u e f = record { more = f.more; is = cons_is y x _ _ (sym e) f.is }

pub fronts : {T : Type 0} (a b rest more : List T) (t u : T) → a ++ (t ∷ rest) ≡ b ++ (u ∷ more) → length (u ∷ more) ≤ length (t ∷ rest) → Fronts (a ++ (t ∷ [])) (b ++ (u ∷ []))
fronts [] [] rest more t u e l = record { more = []; is = ap (λ z. z ∷ []) (sym (head_of t u rest more e)) }
fronts [] (y ∷ b) rest more t u e l = record { more = b ++ (u ∷ []); is = ap (λ z. z ∷ (b ++ (u ∷ []))) (sym (head_of t y rest (b ++ (u ∷ more)) e)) }
fronts (x ∷ a) [] rest more t u e l = absurd (longer a rest more t u (tail_of x u (a ++ (t ∷ rest)) more e) l)
fronts (x ∷ a) (y ∷ b) rest more t u e l =
    fronts_next x y a b t u (head_of x y (a ++ (t ∷ rest)) (b ++ (u ∷ more)) e) (fronts a b rest more t u (tail_of x y (a ++ (t ∷ rest)) (b ++ (u ∷ more)) e) l)

pub tree_one : {T X : Type 0} (opens closes : T → Bool) (limit : ℕ) (f : Form T X) (ts : List T) (x y : X) → IsUnambiguous f → IsTree opens closes limit f ts x → IsTree opens closes limit f ts y → x ≡ y
tree_one opens closes limit f ts x y one v w = one_whole f ts one (x, v.0, v.1) (y, w.0, w.1)

pub tree_expected : {T X : Type 0} (opens closes : T → Bool) (limit : ℕ) (f : Form T X) (ts rest : List T) (x : X) → IsTree opens closes limit f ts x → IsUnexpected opens closes limit f ts rest → ⊥
tree_expected opens closes limit f ts rest x v u = no_fault f ts rest (x, v.0, v.1) u.0

pub tree_shallow : {T X : Type 0} (opens closes : T → Bool) (limit : ℕ) (f : Form T X) (ts rest : List T) (x : X) → IsTree opens closes limit f ts x → IsTooDeep opens closes limit f ts rest → ⊥
tree_shallow opens closes limit f ts rest x v d = none_some (too_deep opens closes limit 0 ts) rest v.2 d.deep

pub unexpected_one : {T X : Type 0} (opens closes : T → Bool) (limit : ℕ) (f : Form T X) (ts rest other : List T) → IsUnexpected opens closes limit f ts rest → IsUnexpected opens closes limit f ts other → rest ≡ other
unexpected_one opens closes limit f ts rest other u v = one_fault f ts rest other u.0 v.0

pub too_deep_one : {T X : Type 0} (opens closes : T → Bool) (limit : ℕ) (f : Form T X) (ts rest other : List T) → IsTooDeep opens closes limit f ts rest → IsTooDeep opens closes limit f ts other → rest ≡ other
too_deep_one opens closes limit f ts rest other d e = some_is rest other (sym d.deep ∙ e.deep)

behind_bracket : {T X : Type 0} (f : Form T X) (before front rest more : List T) (bracket : T) → IsBeginning f (before ++ (bracket ∷ [])) → front ++ rest ≡ before ++ (bracket ∷ more) → length (bracket ∷ more) ≤ length rest
    → Rattle.grammar.specs.Whole.CannotContinue f front rest → ⊥
behind_bracket f before front [] more bracket b e l c = omega (arith, l)
behind_bracket f before front (t ∷ rest) more bracket b e l c =
    let s = fronts front before rest more t bracket e l in
    c (b.0, s.more ++ b.1, b.2, b.3 ∙ ap (λ ts. ts ++ b.1) s.is ∙ append_assoc (front ++ (t ∷ [])) s.more b.1)

pub deep_expected : {T X : Type 0} (opens closes : T → Bool) (limit : ℕ) (f : Form T X) (ts rest other : List T) → IsTooDeep opens closes limit f ts rest → IsUnexpected opens closes limit f ts other → ⊥
deep_expected opens closes limit f ts rest other d u =
    behind_bracket f d.before u.0.before other d.more d.bracket d.begins (sym u.0.spelled ∙ d.spelled ∙ ap (λ ts. d.before ++ ts) d.is)
    (subst (λ us. length us ≤ length other) d.is (subst (λ o. NotBehind other o) d.deep u.1)) u.0.ends

-- Whole lists of tokens.
use Rattle.std.proofs.Common.{◌≡◌, List, [], ◌∷◌, ◌++◌, refl, sym, ◌∙◌, ap, subst}
use Rattle.std.proofs.lemmas.List.{append_assoc, append-nil}
use Rattle.grammar.specs.Forms.{Form}
use Rattle.grammar.specs.Faults.{Parsed, FailsAt, IsUnambiguous}
use Rattle.grammar.proofs.Basics.{none_left, head_of, tail_of}
use Rattle.grammar.specs.Whole.{IsWhole, IsBeginning, CannotContinue, IsFirstFault}

-- a tree was taken, and nothing is left
pub whole_taken : {T X : Type 0} (f : Form T X) (x : X) (ts : List T) → Parsed f x (f.continues x) ts [] → IsWhole f ts
whole_taken f x ts t = (x, t.right, sym (t.spelled ∙ append-nil (f.tokens x)))

-- what is left is the first fault
pub whole_left : {T X : Type 0} (f : Form T X) (x : X) (ts : List T) (t : T) (rest : List T) → IsUnambiguous f → Parsed f x (f.continues x) ts (t ∷ rest) → IsFirstFault f ts (t ∷ rest)
whole_left f x ts t rest one u = record {
  before = f.tokens x;
  spelled = u.spelled;
  begins = (x, [], u.right, sym (append-nil (f.tokens x)));
  ends = λ z. none_left t z.1 (t ∷ z.1) refl (sym ((one z.0 x [] (t ∷ z.1) z.2 u.right tt u.stops (append-nil (f.tokens z.0) ∙ z.3 ∙ append_assoc (f.tokens x) (t ∷ []) z.1)).1));
}

pub whole_refused : {T X : Type 0} (f : Form T X) (ts rest : List T) → FailsAt f ts rest → IsFirstFault f ts rest
whole_refused f ts [] r = record {
  before = r.before;
  spelled = r.spelled;
  begins = (r.begins.tree, r.begins.more, r.begins.right, r.begins.spelled);
  ends = λ z. r.refuses z.0 [] [] z.1 refl tt (append-nil (f.tokens z.0) ∙ z.2 ∙ sym (append-nil r.before));
}
whole_refused f ts (t ∷ rest) r = record {
  before = r.before;
  spelled = r.spelled;
  begins = (r.begins.tree, r.begins.more, r.begins.right, r.begins.spelled);
  ends = λ z. r.refuses z.0 (t ∷ z.1) [] z.2 (z.1, refl) tt (append-nil (f.tokens z.0) ∙ z.3 ∙ append_assoc r.before (t ∷ []) z.1);
}

-- ---- no two answers

prefix_begins : {T X : Type 0} (f : Form T X) (a b : List T) → IsBeginning f (a ++ b) → IsBeginning f a
prefix_begins f a b z = (z.0, b ++ z.1, z.2, z.3 ∙ append_assoc a b z.1)

-- a list of tokens that has a tree has no fault
pub no_fault : {T X : Type 0} (f : Form T X) (ts rest : List T) → IsWhole f ts → IsFirstFault f ts rest → ⊥
no_fault f ts [] w r = r.ends (w.0, w.1, w.2 ∙ r.spelled ∙ append-nil r.before)
no_fault f ts (t ∷ rest) w r = r.ends (w.0, rest, w.1, w.2 ∙ r.spelled ∙ sym (append_assoc r.before (t ∷ []) rest))

-- a list of tokens has one tree
pub one_whole : {T X : Type 0} (f : Form T X) (ts : List T) → IsUnambiguous f → (v w : IsWhole f ts) → v.0 ≡ w.0
one_whole f ts one v w = (one v.0 w.0 [] [] v.1 w.1 tt tt (ap (λ us. us ++ []) (v.2 ∙ sym w.2))).0

next_of : {T : Type 0} (front : List T) (t u : T) (b : List T) → t ≡ u → front ++ (t ∷ b) ≡ (front ++ [] ++ (u ∷ [])) ++ b
next_of front t u b e = ap (λ z. front ++ (z ∷ b)) e ∙ sym (append_assoc front (u ∷ []) b) ∙ ap (λ ts. ts ++ (u ∷ []) ++ b) (sym (append-nil front))

shifted : {T : Type 0} (front : List T) (t u : T) (b : List T) → t ≡ u → front ++ (u ∷ b) ≡ (front ++ (t ∷ [])) ++ b
shifted front t u b e = ap (λ z. front ++ (z ∷ b)) (sym e) ∙ sym (append_assoc front (t ∷ []) b)

-- two first faults of one list are one: behind a common front, neither can stand before the other
fault_order : {T X : Type 0} (f : Form T X) (front a b rest other : List T) → IsBeginning f (front ++ a) → IsBeginning f (front ++ b) → CannotContinue f (front ++ a) rest → CannotContinue f (front ++ b) other → a ++ rest ≡ b ++ other → rest ≡ other
fault_order f front [] [] rest other ia ib ca cb e = e
fault_order f front [] (t ∷ b) [] other ia ib ca cb e = absurd (none_left t (b ++ other) [] (sym e) refl)
fault_order f front [] (t ∷ b) (u ∷ rest) other ia ib ca cb e =
    absurd (ca (prefix_begins f (front ++ [] ++ (u ∷ [])) b (subst (λ ts. IsBeginning f ts) (next_of front t u b (sym (head_of u t rest (b ++ other) e))) ib)))
fault_order f front (t ∷ a) [] rest [] ia ib ca cb e = absurd (none_left t (a ++ rest) [] e refl)
fault_order f front (t ∷ a) [] rest (u ∷ other) ia ib ca cb e =
    absurd (cb (prefix_begins f (front ++ [] ++ (u ∷ [])) a (subst (λ ts. IsBeginning f ts) (next_of front t u a (head_of t u (a ++ rest) other e)) ia)))
fault_order f front (t ∷ a) (u ∷ b) rest other ia ib ca cb e =
    let h = head_of t u (a ++ rest) (b ++ other) e in
    fault_order f (front ++ (t ∷ [])) a b rest other
    (subst (λ ts. IsBeginning f ts) (sym (append_assoc front (t ∷ []) a)) ia) (subst (λ ts. IsBeginning f ts) (shifted front t u b h) ib)
    (subst (λ ts. CannotContinue f ts rest) (sym (append_assoc front (t ∷ []) a)) ca) (subst (λ ts. CannotContinue f ts other) (shifted front t u b h) cb) (tail_of t u (a ++ rest) (b ++ other) e)

pub one_fault : {T X : Type 0} (f : Form T X) (ts rest other : List T) → IsFirstFault f ts rest → IsFirstFault f ts other → rest ≡ other
one_fault f ts rest other r s = fault_order f [] r.before s.before rest other r.begins s.begins r.ends s.ends (sym r.spelled ∙ s.spelled)

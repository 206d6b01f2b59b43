-- A list is cut behind its first bracket that is too deep, and read without a limit.
use Rattle.std.proofs.Common.{◌≡◌, ℕ, ◌≤◌, ◌+◌, Bool, true, false, ◌&&◌, cond, nat_le, List, [], ◌∷◌, ◌++◌, length, refl, sym, ◌∙◌, ap, subst, arith, Some, None}
use Rattle.std.proofs.lemmas.List.{append_assoc, append-nil, length-append}
use Rattle.std.proofs.lemmas.Bool.{and_parts, leb-true}
use Rattle.grammar.specs.Forms.{Form}
use Rattle.grammar.specs.Faults.{Parsed}
use Rattle.grammar.specs.Whole.{IsWhole, IsBeginning, IsFirstFault}
use Rattle.grammar.specs.Levels.{level, level_after, too_deep, NotBehind, IsTree, IsUnexpected, IsTooDeep, Balanced}
use Rattle.grammar.proofs.Balance.{after_append, level_opens}

some_is : {X : Type 0} (x y : X) → Some x ≡ Some y → x ≡ y
some_is x y e = cc

-- Where the list is cut: behind the bracket.
pub record Split {T : Type 0} (opens closes : T → Bool) (limit d : ℕ) (ts rest : List T) : Type 0 where
  pub before : List T
  pub bracket : T
  pub more : List T
  pub is : rest ≡ bracket ∷ more
  pub spelled : ts ≡ before ++ rest
  pub opening : opens bracket ≡ true
  pub held : limit ≤ level_after opens closes d before

deep_here : {T : Type 0} (opens closes : T → Bool) (limit d : ℕ) (t : T) (ts rest : List T) (b : Bool) → (opens t && nat_le limit d) ≡ b → (too_deep opens closes limit (level opens closes d t) ts ≡ Some rest → Split opens closes limit (level opens closes d t) ts rest) → cond b (Some (t ∷ ts)) (too_deep opens closes limit (level opens closes d t) ts) ≡ Some rest → Split opens closes limit d (t ∷ ts) rest
deep_here opens closes limit d t ts rest true h later e =
    let h2 = and_parts (opens t) (nat_le limit d) h in
    record { before = []; bracket = t; more = ts; is = sym (some_is (t ∷ ts) rest e); spelled = some_is (t ∷ ts) rest e; opening = h2.0; held = leb-true limit d h2.1 }
deep_here opens closes limit d t ts rest false h later e =
    let s = later e in
    record { before = t ∷ s.before; bracket = s.bracket; more = s.more; is = s.is; spelled = ap (λ us. t ∷ us) s.spelled; opening = s.opening; held = s.held }

pub deep_split : {T : Type 0} (opens closes : T → Bool) (limit d : ℕ) (ts rest : List T) → too_deep opens closes limit d ts ≡ Some rest → Split opens closes limit d ts rest
deep_split opens closes limit d [] rest e = absurd (let f : ⊥ = cc in f)
deep_split opens closes limit d (t ∷ ts) rest e = deep_here opens closes limit d t ts rest (opens t && nat_le limit d) refl (deep_split opens closes limit (level opens closes d t) ts rest) e

-- what ends with the bracket is no tree
pub cut_no_whole : {T X : Type 0} (opens closes : T → Bool) (f : Form T X) (limit : ℕ) (ts rest : List T) → Balanced opens closes f → (s : Split opens closes limit 0 ts rest) → IsWhole f (s.before ++ (s.bracket ∷ [])) → ⊥
cut_no_whole opens closes f limit ts rest balanced s w =
    let e : level_after opens closes 0 (s.before ++ (s.bracket ∷ [])) ≡ 0 = ap (λ us. level_after opens closes 0 us) (sym w.2) ∙ balanced w.0 0 w.1 in
    let g : level_after opens closes 0 (s.before ++ (s.bracket ∷ [])) ≡ level_after opens closes 0 s.before + 1 = after_append opens closes 0 s.before (s.bracket ∷ []) ∙ level_opens opens closes (level_after opens closes 0 s.before) s.bracket s.opening in
    omega (arith, e, g)

-- a fault before its end is the fault of the whole
pub cut_fault : {T X : Type 0} (f : Form T X) (ts more : List T) (t : T) (rest : List T) → IsFirstFault f ts (t ∷ rest) → IsFirstFault f (ts ++ more) (t ∷ (rest ++ more))
cut_fault f ts more t rest r = record {
  before = r.before;
  spelled = ap (λ us. us ++ more) r.spelled ∙ append_assoc r.before (t ∷ rest) more;
  begins = r.begins;
  ends = r.ends;
}

-- where the cut tokens are only too short, the bracket is too deep
pub cut_end : {T X : Type 0} (opens closes : T → Bool) (f : Form T X) (limit : ℕ) (ts rest : List T) → too_deep opens closes limit 0 ts ≡ Some rest → (s : Split opens closes limit 0 ts rest) → IsFirstFault f (s.before ++ (s.bracket ∷ [])) [] → IsTooDeep opens closes limit f ts rest
cut_end opens closes f limit ts rest deep s r = record {
  before = s.before;
  bracket = s.bracket;
  more = s.more;
  is = s.is;
  spelled = s.spelled;
  deep = deep;
  begins = subst (λ us. IsBeginning f us) (sym (r.spelled ∙ append-nil r.before)) r.begins;
}

-- the cut tokens and those behind them are the whole
pub split_whole : {T : Type 0} {opens closes : T → Bool} {limit d : ℕ} {ts rest : List T} (s : Split opens closes limit d ts rest) → ts ≡ s.before ++ (s.bracket ∷ []) ++ s.more
split_whole {T} {opens} {closes} {limit} {d} {ts} {rest} s = s.spelled ∙ ap (λ us. s.before ++ us) s.is ∙ sym (append_assoc s.before (s.bracket ∷ []) s.more)

cut_length : {T : Type 0} (bracket t : T) (left more : List T) → length (bracket ∷ more) ≤ length (t ∷ (left ++ more))
cut_length bracket t left more = omega (arith, length-append left more)

-- so the fault of the cut tokens that stands before their end is the first of the whole, and not behind the bracket
pub cut_unexpected : {T X : Type 0} (opens closes : T → Bool) (f : Form T X) (limit : ℕ) (ts rest : List T) (t : T) (left : List T) → too_deep opens closes limit 0 ts ≡ Some rest → (s : Split opens closes limit 0 ts rest) → IsFirstFault f (s.before ++ (s.bracket ∷ [])) (t ∷ left) → IsUnexpected opens closes limit f ts (t ∷ (left ++ s.more))
cut_unexpected opens closes f limit ts rest t left deep s r = (
  subst (λ us. IsFirstFault f us (t ∷ (left ++ s.more))) (sym (split_whole s)) (cut_fault f (s.before ++ (s.bracket ∷ [])) s.more t left r),
  subst (λ o. NotBehind (t ∷ (left ++ s.more)) o) (sym deep) (subst (λ us. length us ≤ length (t ∷ (left ++ s.more))) (sym s.is) (cut_length s.bracket t left s.more)),
)

-- a list that has no bracket too deep
pub shallow_tree : {T X : Type 0} (opens closes : T → Bool) (f : Form T X) (limit : ℕ) (ts : List T) (x : X) → too_deep opens closes limit 0 ts ≡ None → Parsed f x (f.continues x) ts [] → IsTree opens closes limit f ts x
shallow_tree opens closes f limit ts x none t = (t.right, sym (t.spelled ∙ append-nil (f.tokens x)), none)

pub shallow_unexpected : {T X : Type 0} (opens closes : T → Bool) (f : Form T X) (limit : ℕ) (ts rest : List T) → too_deep opens closes limit 0 ts ≡ None → IsFirstFault f ts rest → IsUnexpected opens closes limit f ts rest
shallow_unexpected opens closes f limit ts rest none r = (r, subst (λ o. NotBehind rest o) (sym none) tt)

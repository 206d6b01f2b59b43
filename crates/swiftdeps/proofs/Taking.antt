-- Taking a judgement apart, and what a key that was read says of its numbers.
use Rattle.std.proofs.Common.{◌≡◌, ℕ, ◌==◌, Bool, true, false, cond, ◌&&◌, List, [], ◌∷◌, length, Option, Some, None, Result, Ok, Err, refl, sym, ap, ◌∙◌, subst, arith}
use Rattle.std.specs.Prelude.{is_none, slice_index}
use Rattle.std.proofs.lemmas.Bool.{eqb-true}
use Rattle.dep_key.specs.declared.kind.Kind.{Kind}
use Rattle.dep_key.specs.declared.kind.Kind.TheVariants.{TopLevel, Nominal, PotentialMember, Member, DynamicLookup, ExternalDepend, SourceFileProvide}
use Rattle.dep_key.specs.declared.kind.Aspect.{Aspect}
use Rattle.dep_key.specs.declared.kind.Aspect.TheVariants.{Interface, Implementation}
use Rattle.dep_key.specs.declared.key.Key.{Key}
use Rattle.dep_key.specs.KeyOrder.{kind_at, kind_number, aspect_at, aspect_number}
use Rattle.dep_key.specs.KeyShapes.{has_shape}
use Rattle.swiftdeps.specs.declared.fault.DepsFault.{DepsFault}
use Rattle.swiftdeps.specs.declared.fault.DepsFault.TheVariants as faults
use Rattle.swiftdeps.specs.Judging.{◌>>=◌, or_fault, text_at, text_of, key_of, key_in, blob_alone}
use Rattle.swiftdeps.specs.Spelling.{key_numbers, AreIdentifiers, IsSpelledKey}
use Rattle.swiftdeps.proofs.TextLaws.{number_again, has_number}

pub bind_ok : {A B : Type 0} (r : Result A DepsFault) (f : A → Result B DepsFault) (y : B) → (r >>= f) ≡ Ok y → (x : A) × (r ≡ Ok x) × (f x ≡ Ok y)
bind_ok (Ok x) f y e = (x, refl, e)
bind_ok (Err d) f y e = absurd cc

pub guard_ok : {A : Type 0} (b : Bool) (r : Result A DepsFault) (d : DepsFault) (y : A) → cond b r (Err d) ≡ Ok y → (b ≡ true) × (r ≡ Ok y)
guard_ok true r d y e = (refl, e)
guard_ok false r d y e = absurd cc

pub guard_not : {A : Type 0} (b : Bool) (r : Result A DepsFault) (d : DepsFault) (y : A) → cond b (Err d) r ≡ Ok y → (b ≡ false) × (r ≡ Ok y)
guard_not true r d y e = absurd cc
guard_not false r d y e = (refl, e)

abbrev pub read_so : {A : Type 0} → A → Result A DepsFault
read_so a = Ok a

abbrev pub AreOk : {A : Type 0} → A → A → Type 0
AreOk a b = read_so a ≡ read_so b

pub ok_is : {A : Type 0} (a b : A) → AreOk a b → a ≡ b
ok_is a b e = cc

pub both : (a b : Bool) → a && b ≡ true → (a ≡ true) × (b ≡ true)
both true b e = (refl, e)
both false b e = absurd cc

pub or_fault_ok : {A : Type 0} (d : DepsFault) (o : Option A) (x : A) → or_fault d o ≡ Ok x → o ≡ Some x
or_fault_ok d (Some y) x e = ap Some (ok_is y x e)
or_fault_ok d None x e = absurd cc

pub none_is : {A : Type 0} (o : Option A) → is_none o ≡ true → o ≡ None
none_is (Some x) e = absurd cc
none_is None e = refl

pub one_op : (ops : List ℕ) → length ops ≡ 1 → ops ≡ slice_index ops 0 ∷ []
one_op [] e = absurd (omega (arith, e))
one_op (a ∷ []) e = refl
one_op (a ∷ b ∷ rest) e = absurd (omega (arith, e))

pub four_ops : (ops : List ℕ) → length ops ≡ 4 → ops ≡ slice_index ops 0 ∷ slice_index ops 1 ∷ slice_index ops 2 ∷ slice_index ops 3 ∷ []
four_ops [] e = absurd (omega (arith, e))
four_ops (a ∷ []) e = absurd (omega (arith, e))
four_ops (a ∷ b ∷ []) e = absurd (omega (arith, e))
four_ops (a ∷ b ∷ c ∷ []) e = absurd (omega (arith, e))
four_ops (a ∷ b ∷ c ∷ d ∷ []) e = refl
four_ops (a ∷ b ∷ c ∷ d ∷ f ∷ rest) e = absurd (omega (arith, e))

pub no_op : (ops : List ℕ) → length ops ≡ 0 → ops ≡ []
no_op [] e = refl
no_op (a ∷ rest) e = absurd (omega (arith, e))

kind_step : (n m : ℕ) (x kind : Kind) (more : Option Kind) → kind_number x ≡ m → (more ≡ Some kind → n ≡ kind_number kind) → cond (n == m) (Some x) more ≡ Some kind → n ≡ kind_number kind
kind_step n m x kind more h later e = by (n == m) refl e
  where
    by : (t : Bool) → t ≡ (n == m) → cond t (Some x) more ≡ Some kind → n ≡ kind_number kind
    by true t g = eqb-true n m (sym t) ∙ sym h ∙ ap kind_number (one x kind g)
      where
        one : (a b : Kind) → Some a ≡ Some b → a ≡ b
        one a b e = cc
    by false t g = later g

pub kind_is : (n : ℕ) (kind : Kind) → kind_at n ≡ Some kind → n ≡ kind_number kind
kind_is n kind =
    kind_step n 0 TopLevel kind _ refl (kind_step n 1 Nominal kind _ refl (kind_step n 2 PotentialMember kind _ refl (kind_step n 3 Member kind _ refl
    (kind_step n 4 DynamicLookup kind _ refl (kind_step n 5 ExternalDepend kind _ refl (kind_step n 6 SourceFileProvide kind None refl (λ e. absurd cc)))))))

aspect_step : (n m : ℕ) (x aspect : Aspect) (more : Option Aspect) → aspect_number x ≡ m → (more ≡ Some aspect → n ≡ aspect_number aspect) → cond (n == m) (Some x) more ≡ Some aspect → n ≡ aspect_number aspect
aspect_step n m x aspect more h later e = by (n == m) refl e
  where
    by : (t : Bool) → t ≡ (n == m) → cond t (Some x) more ≡ Some aspect → n ≡ aspect_number aspect
    by true t g = eqb-true n m (sym t) ∙ sym h ∙ ap aspect_number (one x aspect g)
      where
        one : (a b : Aspect) → Some a ≡ Some b → a ≡ b
        one a b e = cc
    by false t g = later g

pub aspect_is : (n : ℕ) (aspect : Aspect) → aspect_at n ≡ Some aspect → n ≡ aspect_number aspect
aspect_is n aspect = aspect_step n 0 Interface aspect _ refl (aspect_step n 1 Implementation aspect None refl (λ e. absurd cc))

pub text_read : (names : List (List ℕ)) (at n : ℕ) (text : List ℕ) → text_of names at n ≡ Ok text → text_at names n ≡ Some text
unfolding text_of
text_read names at n text e = or_fault_ok (faults.IdentifierNumber at n) (text_at names n) text e

-- What is told of a key that was read: its numbers, and that it is one that is spelled.
abbrev pub KeyRead : List (List ℕ) → List ℕ → Key → Type 0
KeyRead names ops key = (ops ≡ key_numbers names key) × IsSpelledKey names key

pub key_read : (names : List (List ℕ)) (at k a c n : ℕ) (key : Key) → AreIdentifiers names → key_of names at k a c n ≡ Ok key → KeyRead names (k ∷ a ∷ c ∷ n ∷ []) key
unfolding key_of
key_read names at k a c n key are e =
    let p = bind_ok (or_fault (faults.KindNumber at k) (kind_at k)) _ key e in
    let q = bind_ok (or_fault (faults.KindNumber at a) (aspect_at a)) _ key p.2 in
    let r = bind_ok (text_of names at c) _ key q.2 in
    let s = bind_ok (text_of names at n) _ key r.2 in
    let made : Key = record { kind = p.0; aspect = q.0; context = r.0; name = s.0 } in
    let g = guard_ok (has_shape made) (Ok made) (faults.KeyShape at) key s.2 in
    let kind = kind_is k p.0 (or_fault_ok _ _ _ p.1) in
    let aspect = aspect_is a q.0 (or_fault_ok _ _ _ q.1) in
    let context = text_read names at c r.0 r.1 in
    let name = text_read names at n s.0 s.1 in
    let c_is = number_again names c r.0 are context in
    let n_is = number_again names n s.0 are name in
    let numbers : k ∷ a ∷ c ∷ n ∷ [] ≡ key_numbers names made = λ i. kind i ∷ aspect i ∷ sym c_is i ∷ sym n_is i ∷ [] in
    let spelled : IsSpelledKey names made = record { shape = g.0; context = has_number names c r.0 are context; name = has_number names n s.0 are name } in
    subst (KeyRead names (k ∷ a ∷ c ∷ n ∷ [])) (ok_is made key g.1) (numbers, spelled)

pub key_in_read : (names : List (List ℕ)) (at : ℕ) (ops : List ℕ) (blob : Option (List ℕ)) (key : Key) → AreIdentifiers names → key_in names at ops blob ≡ Ok key → (blob ≡ None) × KeyRead names ops key
unfolding key_in
key_in_read names at ops blob key are e =
    let g = guard_ok (is_none blob && (length ops == 4)) _ (faults.RecordOrder at) key e in
    let b = both (is_none blob) (length ops == 4) g.0 in
    let four = four_ops ops (eqb-true _ _ b.1) in
    let r = key_read names at _ _ _ _ key are g.1 in
    (none_is blob b.0, (four ∙ r.0, r.1))

pub blob_read : (at : ℕ) (ops : List ℕ) (blob : Option (List ℕ)) (text : List ℕ) → blob_alone at ops blob ≡ Ok text → (ops ≡ []) × (blob ≡ Some text)
blob_read at ops blob text e =
    let g = guard_ok (length ops == 0) _ (faults.RecordOrder at) text e in
    (no_op ops (eqb-true _ _ g.0), or_fault_ok (faults.RecordOrder at) blob text g.1)

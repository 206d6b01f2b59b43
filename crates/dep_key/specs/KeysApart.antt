-- Keys that the order doesn't tell apart are the same.
use Rattle.std.proofs.Common.{◌≡◌, ℕ, List, [], ◌∷◌, nat_lt, refl, sym, ap, ◌∙◌, arith, cond, ◌==◌, Bool, true, false, Some}
use Rattle.std.proofs.lemmas.Bool.{eqb-true}
use Rattle.std.specs.Ordering.{nat_cmp, ordering_then}
use Rattle.std.specs.Cmp.Lexicographic.{slice_cmp}
use Rattle.std.specs.declared.cmp.Ordering.{Ordering}
use Rattle.std.specs.declared.cmp.Ordering.TheVariants.{Less, Equal, Greater}
use Rattle.dep_key.specs.declared.kind.Kind.{Kind}
use Rattle.dep_key.specs.declared.kind.Kind.TheVariants.{TopLevel, Nominal, PotentialMember, Member, DynamicLookup, ExternalDepend, SourceFileProvide}
use Rattle.dep_key.specs.declared.kind.Aspect.{Aspect}
use Rattle.dep_key.specs.declared.kind.Aspect.TheVariants.{Interface, Implementation}
use Rattle.dep_key.specs.declared.key.Key.{Key}
use Rattle.dep_key.specs.KeyOrder.{kind_number, kind_at, aspect_number, key_order}

both_equal : (a b : Ordering) → ordering_then a b ≡ Equal → (a ≡ Equal) × (b ≡ Equal)
both_equal Less b e = absurd cc
both_equal Equal b e = (refl, e)
both_equal Greater b e = absurd cc

numbers_apart : (m n : ℕ) → nat_cmp m n ≡ Equal → m ≡ n
numbers_apart m n e = by (nat_lt m n) (m == n) refl e
  where
    by : (b d : Bool) → d ≡ (m == n) → cond b Less (cond d Equal Greater) ≡ Equal → m ≡ n
    by true d t h = absurd cc
    by false true t h = eqb-true m n (sym t)
    by false false t h = absurd cc

pub texts_apart : (a b : List ℕ) → slice_cmp nat_cmp a b ≡ Equal → a ≡ b
texts_apart [] [] e = refl
texts_apart [] (y ∷ ys) e = absurd cc
texts_apart (x ∷ xs) [] e = absurd cc
texts_apart (x ∷ xs) (y ∷ ys) e =
    let b = both_equal (nat_cmp x y) (slice_cmp nat_cmp xs ys) e in
    let first = numbers_apart x y b.0 in
    let others = texts_apart xs ys b.1 in
    cc

pub kind_again : (k : Kind) → kind_at (kind_number k) ≡ Some k
kind_again TopLevel = refl
kind_again Nominal = refl
kind_again PotentialMember = refl
kind_again Member = refl
kind_again DynamicLookup = refl
kind_again ExternalDepend = refl
kind_again SourceFileProvide = refl

some_is : {A : Type 0} (a b : A) → Some a ≡ Some b → a ≡ b
some_is a b e = cc

pub kinds_apart : (a b : Kind) → kind_number a ≡ kind_number b → a ≡ b
kinds_apart a b e = some_is a b (sym (kind_again a) ∙ ap kind_at e ∙ kind_again b)

pub aspects_apart : (a b : Aspect) → aspect_number a ≡ aspect_number b → a ≡ b
aspects_apart Interface Interface e = refl
aspects_apart Interface Implementation e = absurd (omega (arith, e))
aspects_apart Implementation Interface e = absurd (omega (arith, e))
aspects_apart Implementation Implementation e = refl

pub keys_apart : (a b : Key) → key_order a b ≡ Equal → a ≡ b
keys_apart a b e =
    let p = both_equal (nat_cmp (kind_number a.kind) (kind_number b.kind)) _ e in
    let q = both_equal (nat_cmp (aspect_number a.aspect) (aspect_number b.aspect)) _ p.1 in
    let r = both_equal (slice_cmp nat_cmp a.context b.context) _ q.1 in
    let kind = kinds_apart a.kind b.kind (numbers_apart _ _ p.0) in
    let aspect = aspects_apart a.aspect b.aspect (numbers_apart _ _ q.0) in
    let context = texts_apart a.context b.context r.0 in
    let name = texts_apart a.name b.name r.1 in
    λ i. record { kind = kind i; aspect = aspect i; context = context i; name = name i }

-- Prints of types and parts of prints are read in one way.
use Rattle.std.proofs.Common.{◌≡◌, ℕ, true, false, List, [], ◌∷◌, refl, ap, sym, ◌∙◌, subst}
use Rattle.std.specs.Prelude.{◌==◌, nat_eq, codes, if◌then◌else◌}
use Rattle.std.specs.List.{AllByRecursion}
use Rattle.std.specs.Cmp.Lexicographic.{pointwise, bytes_decides}
use Rattle.std.proofs.lemmas.Bool.{eq-eqb}
use Rattle.type_rules.specs.declared.ty.Ty.{Ty}
use Rattle.type_rules.specs.declared.ty.Ty.TheVariants as ty
use Rattle.type_rules.specs.declared.meaning.Parameter.{Parameter}
use Rattle.type_infer.specs.Plain.{is_separator, is_word, is_context, IsPlainType, closing, comma, colon}
use Rattle.iface_print.specs.Prints.{type_text, more_params_text, params_text}
use Rattle.type_infer.proofs.ListFacts.{both-true}
use Rattle.iface_print.proofs.Cuts.{cut, Stops}

-- the type that a text shows
abbrev read_type : List ℕ → Ty
read_type text =
    if pointwise nat_eq text (codes "Swift.Int") then ty.Int else if pointwise nat_eq text (codes "Swift.String") then ty.String
    else if pointwise nat_eq text (codes "Swift.Bool") then ty.Bool else if pointwise nat_eq text (codes "Swift.Void") then ty.Void
    else ty.Struct text

-- a context isn't a text that is none
no-context : (c t : List ℕ) → is_context c ≡ true → is_context t ≡ false → pointwise nat_eq c t ≡ false
no-context c t h n = (elim (pointwise nat_eq c t) as (λ v. pointwise nat_eq c t ≡ v → v ≡ false) [
  | true ↦ λ e. (let same : c ≡ t = (bytes_decides c t).0 e in let no : is_context c ≡ false = subst (λ x. is_context x ≡ false) (sym same) n in absurd cc)
  | false ↦ λ e. refl
]) refl

read-type : (a : Ty) → IsPlainType a → read_type (type_text a) ≡ a
read-type ty.Int h = refl
read-type ty.String h = refl
read-type ty.Bool h = refl
read-type ty.Void h = refl
read-type (ty.Struct c) h =
    rw (no-context c (codes "Swift.Int") h refl, no-context c (codes "Swift.String") h refl, no-context c (codes "Swift.Bool") h refl, no-context c (codes "Swift.Void") h refl) refl

-- A type is fixed by its text.
pub same-types : (a b : Ty) → IsPlainType a → IsPlainType b → type_text a ≡ type_text b → a ≡ b
same-types a b pa pb h = sym (read-type a pa) ∙ ap read_type h ∙ read-type b pb

pub type-word : (a : Ty) → IsPlainType a → is_word (type_text a) ≡ true
type-word ty.Int h = refl
type-word ty.String h = refl
type-word ty.Bool h = refl
type-word ty.Void h = refl
type-word (ty.Struct c) h = (both-true _ _ h).0

more-stops : (ps : List Parameter) (after : List ℕ) → Stops is_separator (more_params_text ps after)
more-stops [] after = refl
more-stops (p ∷ ps) after = refl

abbrev pub PlainParameters : List Parameter → Type 0
PlainParameters ps = AllByRecursion (λ p. (is_word p.label ≡ true) × IsPlainType p.ty) ps

pub same-parameter : (p q : Parameter) → p.label ≡ q.label → p.ty ≡ q.ty → p ≡ q
same-parameter p q l t = λ i. record { label = l i; ty = t i }

-- lists that begin with different bytes differ
pub first-apart : (a b : ℕ) (xs ys : List ℕ) → (a == b) ≡ false → a ∷ xs ≡ b ∷ ys → ⊥
first-apart a b xs ys n h = (let same : a ≡ b = cc in let e : (a == b) ≡ true = eq-eqb a b same in absurd cc)

pub rest-same : (a : ℕ) (xs ys : List ℕ) → a ∷ xs ≡ a ∷ ys → xs ≡ ys
rest-same a xs ys h = cc

pub cons-same : {X : Type 0} (x y : X) (xs ys : List X) → x ≡ y → xs ≡ ys → x ∷ xs ≡ y ∷ ys
cons-same x y xs ys h g = λ i. h i ∷ g i

more-params : (ps qs : List Parameter) (r s : List ℕ) → PlainParameters ps → PlainParameters qs → more_params_text ps r ≡ more_params_text qs s → (ps ≡ qs) × (r ≡ s)
more-params [] [] r s pp pq h = (refl, rest-same closing r s h)
more-params [] (q ∷ qs) r s pp pq h = absurd (first-apart closing comma _ _ refl h)
more-params (p ∷ ps) [] r s pp pq h = absurd (first-apart comma closing _ _ refl h)
more-params (p ∷ ps) (q ∷ qs) r s pp pq h =
    let one = cut is_separator p.label q.label _ _ pp.0.0 pq.0.0 refl refl (rest-same comma _ _ h) in
    let two = cut is_separator (type_text p.ty) (type_text q.ty) _ _ (type-word p.ty pp.0.1) (type-word q.ty pq.0.1) (more-stops ps r) (more-stops qs s) (rest-same colon _ _ one.1) in
    let more : (ps ≡ qs) × (r ≡ s) = more-params ps qs r s pp.1 pq.1 two.1 in
    (cons-same p q ps qs (same-parameter p q one.0 (same-types p.ty q.ty pp.0.1 pq.0.1 two.0)) more.0, more.1)

-- Parameters are fixed by their text.
pub params : (ps qs : List Parameter) (r s : List ℕ) → PlainParameters ps → PlainParameters qs → params_text ps r ≡ params_text qs s → (ps ≡ qs) × (r ≡ s)
params [] [] r s pp pq h = (refl, rest-same closing r s h)
params [] (q ∷ qs) r s pp pq h = absurd (first-apart closing colon _ _ refl (cut is_separator [] q.label (closing ∷ r) _ refl pq.0.0 refl refl h).1)
params (p ∷ ps) [] r s pp pq h = absurd (first-apart colon closing _ _ refl (cut is_separator p.label [] _ (closing ∷ s) pp.0.0 refl refl refl h).1)
params (p ∷ ps) (q ∷ qs) r s pp pq h =
    let one = cut is_separator p.label q.label _ _ pp.0.0 pq.0.0 refl refl h in
    let two = cut is_separator (type_text p.ty) (type_text q.ty) _ _ (type-word p.ty pp.0.1) (type-word q.ty pq.0.1) (more-stops ps r) (more-stops qs s) (rest-same colon _ _ one.1) in
    let more : (ps ≡ qs) × (r ≡ s) = more-params ps qs r s pp.1 pq.1 two.1 in
    (cons-same p q ps qs (same-parameter p q one.0 (same-types p.ty q.ty pp.0.1 pq.0.1 two.0)) more.0, more.1)

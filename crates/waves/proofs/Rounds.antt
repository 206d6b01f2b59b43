-- What is due is a least set.
use Rattle.std.proofs.Common.{◌≡◌, ℕ, zero, suc, true, false, is_some, sym, ◌∙◌, subst, inl, inr}
use Rattle.waves.specs.Builds.{Change, IsFile, UsesMoved, IsDueAfter, IsDue, IsPlan, IsDecided, IsCause}

-- what a file of a larger set made due, the larger set makes due
pub uses-more : {F N K V : Type 0} (c : Change F N K V) (set more : F → Type 0) (f : F) → ((g : F) → set g → more g) → UsesMoved c set f → UsesMoved c more f
uses-more c set more f grow u = record {
  is_file = u.is_file;
  key = u.key;
  origin = u.origin;
  changed = elim u.changed [ inl r ↦ inl r | inr d ↦ inr (grow u.origin d) ];
  moved = u.moved;
  used = u.used;
}

-- a set that has the first files and those that its files make due has every file that is due
pub due-least : {F N K V : Type 0} (c : Change F N K V) (set : F → Type 0) → ((f : F) → c.first f ≡ true → set f) → ((f : F) → UsesMoved c set f → set f) →
    (n : ℕ) (f : F) → IsDueAfter c n f → set f
due-least c set first closed zero f d = first f d
due-least c set first closed (suc n) f d = elim d [
  | inl d ↦ due-least c set first closed n f d
  | inr u ↦ closed f (uses-more c (IsDueAfter c n) set f (due-least c set first closed n) u)
]

-- what a due file makes due is due
pub due-closed : {F N K V : Type 0} (c : Change F N K V) (f : F) → UsesMoved c (IsDue c) f → IsDue c f
due-closed c f u = elim u.changed [
  | inl r ↦ (suc zero, inr (record { is_file = u.is_file; key = u.key; origin = u.origin; changed = inl r; moved = u.moved; used = u.used }))
  | inr d ↦ (suc d.0, inr (record { is_file = u.is_file; key = u.key; origin = u.origin; changed = inr d.1; moved = u.moved; used = u.used }))
]

pub due-file : {F N K V : Type 0} (c : Change F N K V) → IsPlan c → (n : ℕ) (f : F) → IsDueAfter c n f → IsFile c f
due-file c p n f d = due-least c (IsFile c) p.first (λ g u. u.is_file) n f d

-- what is due beyond the first files used a key that moved in another file that is due, or in one that was removed
pub due-cause : {F N K V : Type 0} (c : Change F N K V) → IsDecided F → (n : ℕ) (f : F) → IsDueAfter c n f → c.first f ≡ false → (k : K) × IsCause c f k
due-cause c decide zero f d no-first = absurd (let e : true ≡ false = sym d ∙ no-first in cc)
due-cause {F} {N} {K} c decide (suc n) f d no-first = elim d [
  | inl d ↦ due-cause c decide n f d no-first
  | inr u ↦ elim (decide u.origin f) [
    | inr other ↦ (u.key, record { origin = u.origin; other = other; changed = elim u.changed [ inl r ↦ inl r | inr g ↦ inr (n, g) ]; moved = u.moved; used = u.used })
    | inl same ↦ elim u.changed [
      | inl r ↦ absurd (let gone : is_some (c.now f) ≡ false = subst (λ g. is_some (c.now g) ≡ false) same r.1 in let here : is_some (c.now f) ≡ true = u.is_file in cc)
      | inr g ↦ due-cause c decide n f (subst (IsDueAfter c n) same g) no-first
    ]
  ]
]

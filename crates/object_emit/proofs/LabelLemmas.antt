-- Each label of a piece of code is set once.
use Rattle.std.proofs.Common.{◌≡◌, ℕ, ◌<◌, ◌≤◌, ◌+◌, ◌⊎◌, inl, inr, List, [], ◌∷◌, ◌++◌, map, refl, sym, ap, subst, arith}
use Rattle.std.specs.Prelude.{true, false, ◌==◌, if◌then◌else◌, Option, Some, None}
use Rattle.std.proofs.lemmas.Bool.{cases_order, lt-ltb, le-ltb, eq-eqb, ne_eqb}
use Rattle.std.proofs.Math.Dec.{ltb}
use Rattle.dep_key.specs.declared.key.Key.{Key}
use Rattle.type_rules.specs.declared.meaning.Meaning.{Meaning}
use Rattle.typed_code.specs.declared.step.Step.{Step, Step-F, fold-roll-Step, map-Step, roll-Step, ind-Step}
use Rattle.typed_code.specs.declared.step.Branch.{Branch, Branch-F, fold-roll-Branch, map-Branch, roll-Branch}
use Rattle.typed_code.specs.declared.units.Initial.{Initial}
use Rattle.typed_code.specs.declared.units.Initial.TheVariants as initially
use Rattle.typed_code.specs.declared.units.Unit.{Unit as CodeUnit}
use Rattle.typed_code.specs.declared.units.Unit.TheVariants as unit
use Rattle.object_emit.specs.declared.instruction.Instruction.{Instruction}
use Rattle.object_emit.specs.declared.instruction.Instruction.TheVariants as op
use Rattle.object_emit.specs.Layouts.{words, struct_words, offset_of}
use Rattle.object_emit.specs.Pieces.{Emitted, Piece, plain, one, behind, joined, in_row, and_piece, or_piece, while_piece, branch_piece, branches_piece, if_piece}
use Rattle.object_emit.specs.Emission.{Site, site, property, dropped, step_layer, branch_layer, step_piece, branch_parts, steps_piece}
use Rattle.object_emit.specs.Objects.{code_of, bare_piece, stored_piece, body_piece, initial_piece, initials_piece, initializer_piece, given_words, unit_code}
use Rattle.object_emit.specs.Laws.{one_if, at, set_by, used_by, times_set, times_used, HasItsLabels}

-- 1 where a label is below a number, and else 0
unfoldable pub below : ℕ → ℕ → ℕ
below n k = one_if (ltb k n)

at_same : (k n : ℕ) → k ≡ n → at k n ≡ 1
unfolding at
at_same k n e = ap one_if (eq-eqb k n e)

at_other : (k n : ℕ) → n < k → at k n ≡ 0
unfolding at
at_other k n l = ap one_if (ne_eqb k n (λ e. absurd (omega (arith, l, e))))

at_before : (k n : ℕ) → k < n → at k n ≡ 0
unfolding at
at_before k n l = ap one_if (ne_eqb k n (λ e. absurd (omega (arith, l, e))))

below_yes : (n k : ℕ) → k < n → below n k ≡ 1
unfolding below
below_yes n k l = ap one_if (lt-ltb k n l)

below_no : (n k : ℕ) → n ≤ k → below n k ≡ 0
unfolding below
below_no n k l = ap one_if (le-ltb k n l)

below_next_by : (n k : ℕ) → (k ≡ n) ⊎ ((k < n) ⊎ (n < k)) → at k n + below n k ≡ below (n + 1) k
below_next_by n k (inl e) = omega (arith, at_same k n e, below_no n k (omega (arith, e)), below_yes (n + 1) k (omega (arith, e)))
below_next_by n k (inr (inl l)) = omega (arith, at_before k n l, below_yes n k l, below_yes (n + 1) k (omega (arith, l)))
below_next_by n k (inr (inr l)) = omega (arith, at_other k n l, below_no n k (omega (arith, l)), below_no (n + 1) k (omega (arith, l)))

-- one label more
below_next : (n k : ℕ) → at k n + below n k ≡ below (n + 1) k
below_next n k = below_next_by n k (cases_order k n)

below_two : (n k : ℕ) → at k (n + 1) + (at k n + below n k) ≡ below (n + 2) k
below_two n k =
    let two : below ((n + 1) + 1) k ≡ below (n + 2) k = ap (λ m. below m k) (omega arith) in
    omega (arith, below_next n k, below_next (n + 1) k, two)

set_append : (k : ℕ) (xs ys : List Instruction) → times_set k (xs ++ ys) ≡ times_set k xs + times_set k ys
set_append k [] ys = omega arith
set_append k (x ∷ xs) ys = omega (arith, set_append k xs ys)

used_append : (k : ℕ) (xs ys : List Instruction) → times_used k (xs ++ ys) ≡ times_used k xs + times_used k ys
used_append k [] ys = omega arith
used_append k (x ∷ xs) ys = omega (arith, used_append k xs ys)

-- Code that takes the labels from one number to the next free one: it sets each of them once and no other, and goes on at none that is free still.
pub record Takes (n : ℕ) (e : Emitted) : Type 0 where
  pub grows : n ≤ e.next
  pub set : (k : ℕ) → times_set k e.code + below n k ≡ below e.next k
  pub used : (k : ℕ) → e.next ≤ k → times_used k e.code ≡ 0

abbrev pub Closed : Piece → Type 0
Closed p = (n : ℕ) → Takes n (p n)

-- behind a label that was taken before
abbrev ClosedBehind : ℕ → Piece → Type 0
ClosedBehind end p = (n : ℕ) → end < n → Takes n (p n)

takes_joined : (n : ℕ) (e : Emitted) (q : Piece) → Takes n e → Takes e.next (q e.next) → Takes n (behind e q)
takes_joined n e q a b = record {
  grows = omega (arith, a.grows, b.grows);
  set = λ k. omega (arith, set_append k e.code (q e.next).code, a.set k, b.set k);
  used = λ k l. omega (arith, used_append k e.code (q e.next).code, a.used k (omega (arith, l, b.grows)), b.used k l);
}

joined_closed : (p q : Piece) → Closed p → Closed q → Closed (joined p q)
joined_closed p q cp cq n = takes_joined n (p n) q (cp n) (cq (p n).next)

none_closed : Closed (plain [])
none_closed n = record { grows = omega arith; set = λ k. omega arith; used = λ k l. refl }

-- an instruction that is about no label
one_closed : (i : Instruction) → ((k : ℕ) → set_by k i ≡ 0) → ((k : ℕ) → used_by k i ≡ 0) → Closed (one i)
one_closed i s u n = record { grows = omega arith; set = λ k. omega (arith, s k); used = λ k l. omega (arith, u k) }

and_closed : (right : Piece) → Closed right → Closed (and_piece right)
and_closed right c n =
    let r = c (n + 2) in
    let code = (right (n + 2)).code in
    let end : List Instruction = op.Jump (n + 1) ∷ op.Label n ∷ op.Bool false ∷ op.Label (n + 1) ∷ [] in record {
      grows = omega (arith, r.grows);
      set = λ k. omega (arith, set_append k code end, r.set k, below_two n k);
      used = λ k l. omega (arith, used_append k code end, r.used k l, at_other k n (omega (arith, r.grows, l)), at_other k (n + 1) (omega (arith, r.grows, l)));
    }

or_closed : (right : Piece) → Closed right → Closed (or_piece right)
or_closed right c n =
    let r = c (n + 2) in
    let code = (right (n + 2)).code in
    let end : List Instruction = op.Label (n + 1) ∷ [] in record {
      grows = omega (arith, r.grows);
      set = λ k. omega (arith, set_append k code end, r.set k, below_two n k);
      used = λ k l. omega (arith, used_append k code end, r.used k l, at_other k n (omega (arith, r.grows, l)), at_other k (n + 1) (omega (arith, r.grows, l)));
    }

while_closed : (condition block : Piece) → Closed condition → Closed block → Closed (while_piece condition block)
while_closed condition block cc_ cb n =
    let c = cc_ (n + 2) in
    let test = condition (n + 2) in
    let b = cb test.next in
    let body = block test.next in
    let end : List Instruction = op.Jump n ∷ op.Label (n + 1) ∷ [] in
    let last : List Instruction = op.Unless (n + 1) ∷ (body.code ++ end) in record {
      grows = omega (arith, c.grows, b.grows);
      set = λ k. omega (arith, set_append k test.code last, set_append k body.code end, c.set k, b.set k, below_two n k);
      used = λ k l.
          omega (
            arith,
            used_append k test.code last,
            used_append k body.code end,
            c.used k (omega (arith, b.grows, l)),
            b.used k l,
            at_other k n (omega (arith, c.grows, b.grows, l)),
            at_other k (n + 1) (omega (arith, c.grows, b.grows, l)),
          );
    }

branch_closed : (end : ℕ) (condition block : Piece) → Closed condition → Closed block → ClosedBehind end (branch_piece end (condition, block))
branch_closed end condition block cc_ cb n behind_end =
    let c = cc_ n in
    let test = condition n in
    let b = cb (test.next + 1) in
    let body = block (test.next + 1) in
    let tail : List Instruction = op.Jump end ∷ op.Label test.next ∷ [] in
    let last : List Instruction = op.Unless test.next ∷ (body.code ++ tail) in record {
      grows = omega (arith, c.grows, b.grows);
      set = λ k. omega (arith, set_append k test.code last, set_append k body.code tail, c.set k, b.set k, below_next test.next k);
      used = λ k l.
          omega (
            arith,
            used_append k test.code last,
            used_append k body.code tail,
            c.used k (omega (arith, b.grows, l)),
            b.used k l,
            at_other k end (omega (arith, behind_end, c.grows, b.grows, l)),
            at_other k test.next (omega (arith, b.grows, l)),
          );
    }

abbrev Parts : Type 0
Parts = Piece × Piece

abbrev ClosedParts : Piece × Piece → Type 0
ClosedParts b = Closed b.0 × Closed b.1

-- steps and branches beside that they are closed
abbrev WithStep : Site → Type 0
WithStep s = (x : Step) × Closed (step_piece s x)

abbrev WithBranch : Site → Type 0
WithBranch s = (b : Branch) × ClosedParts (branch_parts s b)

row_closed : (s : Site) (steps : List (WithStep s)) → Closed (in_row (map (step_piece s) (map (λ (e : WithStep s). e.0) steps)))
row_closed s [] = none_closed
row_closed s (e ∷ steps) = joined_closed (step_piece s e.0) (in_row (map (step_piece s) (map (λ (e : WithStep s). e.0) steps))) e.1 (row_closed s steps)

branches_closed : (end : ℕ) (s : Site) (branches : List (WithBranch s)) → ClosedBehind end (branches_piece end (map (branch_parts s) (map (λ (e : WithBranch s). e.0) branches)))
branches_closed end s [] n l = none_closed n
branches_closed end s (e ∷ branches) n l =
    let first = branch_closed end (branch_parts s e.0).0 (branch_parts s e.0).1 e.1.0 e.1.1 n l in
    takes_joined n (branch_piece end (branch_parts s e.0) n) (branches_piece end (map (branch_parts s) (map (λ (e : WithBranch s). e.0) branches))) first
    (branches_closed end s branches (branch_piece end (branch_parts s e.0) n).next (omega (arith, first.grows, l)))

if_closed : (branches : List (Piece × Piece)) (last : Piece) → ((end : ℕ) → ClosedBehind end (branches_piece end branches)) → Closed last → Closed (if_piece branches last)
if_closed branches last cs cl n =
    let b = cs n (n + 1) (omega arith) in
    let tests = branches_piece n branches (n + 1) in
    let l = cl tests.next in
    let code = (last tests.next).code in
    let end : List Instruction = op.Label n ∷ [] in record {
      grows = omega (arith, b.grows, l.grows);
      set = λ k. omega (arith, set_append k tests.code (code ++ end), set_append k code end, b.set k, l.set k, below_next n k);
      used = λ k m. omega (arith, used_append k tests.code (code ++ end), used_append k code end, b.used k (omega (arith, l.grows, m)), l.used k m);
    }

property_closed : (of : ℕ) (context name : List ℕ) (gives : ℕ) (offset : Option ℕ) → Closed (one (property of context name gives offset))
property_closed of context name gives (Some offset) = one_closed (op.Field offset gives of) (λ k. refl) (λ k. refl)
property_closed of context name gives None = one_closed (property of context name gives None) (λ k. refl) (λ k. refl)

dropped_closed : (w : ℕ) → Closed (plain (dropped w))
dropped_closed w = elim (w == 0) as (λ b. Closed (plain (if b then [] else op.Drop w ∷ []))) [ true ↦ none_closed | false ↦ one_closed (op.Drop w) (λ k. refl) (λ k. refl) ]

step_case : (s : Site) (y : Step-F (WithStep s) (WithBranch s)) →
    Closed (step_layer s (map-Step Step Branch Piece Parts (step_piece s) (branch_parts s) (map-Step (WithStep s) (WithBranch s) Step Branch (λ e. e.0) (λ e. e.0) y)))
step_case s (Step-F.Integer text) = one_closed _ (λ k. refl) (λ k. refl)
step_case s (Step-F.StringText text) = one_closed _ (λ k. refl) (λ k. refl)
step_case s (Step-F.Truth b) = one_closed _ (λ k. refl) (λ k. refl)
step_case s (Step-F.Local number of) = one_closed _ (λ k. refl) (λ k. refl)
step_case s (Step-F.SelfValue of) = one_closed _ (λ k. refl) (λ k. refl)
step_case s (Step-F.Global symbol of) = one_closed _ (λ k. refl) (λ k. refl)
step_case s (Step-F.Property context name of) = property_closed (struct_words s.answers context) context name (words s.answers of) (offset_of s.answers context name)
step_case s (Step-F.Call symbol takes gives) = one_closed _ (λ k. refl) (λ k. refl)
step_case s (Step-F.Print of) = one_closed _ (λ k. refl) (λ k. refl)
step_case s (Step-F.Operate operator of) = one_closed _ (λ k. refl) (λ k. refl)
step_case s Step-F.Negate = one_closed _ (λ k. refl) (λ k. refl)
step_case s Step-F.Not = one_closed _ (λ k. refl) (λ k. refl)
step_case s (Step-F.And right) = and_closed _ (row_closed s right)
step_case s (Step-F.Or right) = or_closed _ (row_closed s right)
step_case s (Step-F.SetLocal number members of) = one_closed _ (λ k. refl) (λ k. refl)
step_case s (Step-F.SetGlobal symbol members of) = one_closed _ (λ k. refl) (λ k. refl)
step_case s (Step-F.Return of) = one_closed _ (λ k. refl) (λ k. refl)
step_case s (Step-F.Drop of) = dropped_closed (words s.answers of)
step_case s (Step-F.While condition block) = while_closed _ _ (row_closed s condition) (row_closed s block)
step_case s (Step-F.If branches last) = if_closed (map (branch_parts s) (map (λ (e : WithBranch s). e.0) branches)) (in_row (map (step_piece s) (map (λ (e : WithStep s). e.0) last))) (λ end. branches_closed end s branches) (row_closed s last)

branch_case : (s : Site) (y : Branch-F (WithStep s) (WithBranch s)) →
    ClosedParts (branch_layer (map-Branch Step Branch Piece Parts (step_piece s) (branch_parts s) (map-Branch (WithStep s) (WithBranch s) Step Branch (λ e. e.0) (λ e. e.0) y)))
branch_case s y = (row_closed s y.condition, row_closed s y.block)

pub step_closed : (s : Site) (x : Step) → Closed (step_piece s x)
unfolding step_piece branch_parts
step_closed s = ind-Step (λ x. Closed (step_piece s x)) (λ b. ClosedParts (branch_parts s b))
    (λ x y is. subst (λ z. Closed (step_piece s (roll-Step z))) is
    (subst Closed (sym (fold-roll-Step Piece Parts (step_layer s) branch_layer (map-Step (WithStep s) (WithBranch s) Step Branch (λ e. e.0) (λ e. e.0) y))) (step_case s y)))
    (λ x y is. subst (λ z. ClosedParts (branch_parts s (roll-Branch z))) is
    (subst ClosedParts (sym (fold-roll-Branch Piece Parts (step_layer s) branch_layer (map-Branch (WithStep s) (WithBranch s) Step Branch (λ e. e.0) (λ e. e.0) y))) (branch_case s y)))

pub steps_closed : (s : Site) (steps : List Step) → Closed (steps_piece s steps)
unfolding steps_piece
steps_closed s [] = none_closed
steps_closed s (x ∷ steps) = joined_closed (step_piece s x) (in_row (map (step_piece s) steps)) (step_closed s x) (steps_closed s steps)

initial_closed : (answers : Key → Meaning) (slot : ℕ) (i : Initial) → Closed (initial_piece answers slot i)
initial_closed answers slot (initially.Given of) = one_closed _ (λ k. refl) (λ k. refl)
initial_closed answers slot (initially.Own steps) = steps_closed (site answers []) steps

initials_closed : (answers : Key → Meaning) (slot : ℕ) (initials : List Initial) → Closed (initials_piece answers slot initials)
initials_closed answers slot [] = none_closed
initials_closed answers slot (i ∷ initials) =
    joined_closed (initial_piece answers slot i) (initials_piece answers (slot + given_words answers i) initials) (initial_closed answers slot i) (initials_closed answers (slot + given_words answers i) initials)

closed_labelled : (p : Piece) → Closed p → HasItsLabels (code_of p)
closed_labelled p c =
    let all = c 0 in record {
      count = (p 0).next;
      once = λ k l. omega (arith, all.set k, below_no 0 k (omega arith), below_yes (p 0).next k l);
      no_other = λ k l. omega (arith, all.set k, below_no 0 k (omega arith), below_no (p 0).next k l);
      there = λ k l. all.used k l;
    }

two_closed : (i j : Instruction) → Closed (one i) → Closed (one j) → Closed (plain (i ∷ j ∷ []))
two_closed i j a b = joined_closed (one i) (one j) a b

pub units_labelled : (answers : Key → Meaning) (u : CodeUnit) → HasItsLabels (unit_code answers u)
units_labelled answers (unit.Global symbol of steps) =
    closed_labelled (stored_piece answers symbol (words answers of) steps)
    (joined_closed (bare_piece answers steps) _ (steps_closed (site answers []) steps)
    (two_closed (op.Store symbol 0 (words answers of)) (op.Return 0) (one_closed _ (λ k. refl) (λ k. refl)) (one_closed _ (λ k. refl) (λ k. refl))))
units_labelled answers (unit.Function symbol f) = closed_labelled (body_piece answers f) (steps_closed _ f.code)
units_labelled answers (unit.Initializer context initials) =
    closed_labelled (initializer_piece answers (struct_words answers context) initials)
    (joined_closed (initials_piece answers 0 initials) (one (op.Return (struct_words answers context))) (initials_closed answers 0 initials) (one_closed _ (λ k. refl) (λ k. refl)))

-- Where an assignment stands next: a name and members of it up to `=`.
use Rattle.std.proofs.Common.{◌≡◌, Bool, true, false, ◌&&◌, ◌||◌, List, [], ◌∷◌, ◌++◌, refl, sym, ◌∙◌, ap, subst}
use Rattle.std.proofs.lemmas.Bool.{and_parts, and_from, true≢false}
use Rattle.grammar.specs.Forms.{in_row, all_well_formed, row_on}
use Rattle.grammar.specs.Faults.{Stops, Parsed, FailsAt}
use Rattle.grammar.proofs.Basics.{or_true_left, or_true_right, both_false, not_true, head_of, tail_of, taken_not_refused}
use Rattle.swift_ast.specs.declared.terminals.Terminal.TheVariants as T
use Rattle.swift_ast.specs.declared.expressions.Postfix.{Postfix}
use Rattle.swift_ast.specs.declared.statements.Target.{Target}
use Rattle.swift_ast.specs.Leaves.{Leaf}
use Rattle.swift_ast.specs.Tests.{on, is}
use Rattle.swift_ast.specs.Expressions.{member_rule, postfix_form}
use Rattle.swift_ast.specs.Statements.{target_form}
use Rattle.swift_ast.proofs.TestFacts.{apart}
use Rattle.swift_ast.proofs.StatementShows.{is_target, target_of, named_back, target_tokens, target_right_back}
use Rattle.swift_ast.proofs.StatementExits.{target_one}

-- The test says of a list whether it is members of a name up to `=`.
pub record TellsAssign (tells : List Leaf → Bool) : Type 0 where
  pub none : tells [] ≡ false
  pub one : (t : Leaf) → tells (t ∷ []) ≡ on (is T.Assign) t
  pub more : (t u : Leaf) (ts : List Leaf) → tells (t ∷ (u ∷ ts)) ≡ (on (is T.Assign) t || (on (is T.Dot) t && (on (is T.Identifier) u && tells ts)))

-- members, and `=` behind them
pub record MembersStand (ts : List Leaf) : Type 0 where
  pub members : List (Leaf × Leaf)
  pub assign : Leaf
  pub rest : List Leaf
  pub spelled : ts ≡ in_row member_rule members ++ (assign ∷ rest)
  pub right : all_well_formed member_rule members ≡ true
  pub is_assign : on (is T.Assign) assign ≡ true

members_case : (t u : Leaf) (ts : List Leaf) (b more : Bool) → on (is T.Assign) t ≡ b → (b || (on (is T.Dot) t && (on (is T.Identifier) u && more))) ≡ true → (more ≡ true → MembersStand ts) → MembersStand (t ∷ (u ∷ ts))
members_case t u ts true more a h later = record { members = []; assign = t; rest = u ∷ ts; spelled = refl; right = refl; is_assign = a }
members_case t u ts false more a h later =
    let h2 = and_parts (on (is T.Dot) t) (on (is T.Identifier) u && more) h in
    let h3 = and_parts (on (is T.Identifier) u) more h2.1 in
    let m = later h3.1 in
    record { members = (t, u) ∷ m.members; assign = m.assign; rest = m.rest; spelled = ap (λ us. t ∷ (u ∷ us)) m.spelled; right = and_from (on (is T.Dot) t && on (is T.Identifier) u) _ (and_from (on (is T.Dot) t) (on (is T.Identifier) u) h2.0 h3.0) m.right; is_assign = m.is_assign }

pub members_stand : (tells : List Leaf → Bool) → TellsAssign tells → (ts : List Leaf) → tells ts ≡ true → MembersStand ts
members_stand tells says [] h = absurd (true≢false (sym h ∙ says.none))
members_stand tells says (t ∷ []) h = record { members = []; assign = t; rest = []; spelled = refl; right = refl; is_assign = sym (says.one t) ∙ h }
members_stand tells says (t ∷ (u ∷ ts)) h = members_case t u ts (on (is T.Assign) t) (tells ts) refl (sym (says.more t u ts) ∙ h) (members_stand tells says ts)

-- A target stands at the front, and `=` behind it.
pub record TargetStands (ts : List Leaf) : Type 0 where
  pub target : Target
  pub assign : Leaf
  pub rest : List Leaf
  pub taken : Parsed target_form target (target_form.continues target) ts (assign ∷ rest)
  pub is_assign : on (is T.Assign) assign ≡ true

assign_ends : (ms : List (Leaf × Leaf)) (a : Leaf) (rest : List Leaf) → on (is T.Assign) a ≡ true → Stops (row_on (on (is T.Dot)) member_rule (λ t. false) ms) (a ∷ rest)
assign_ends [] a rest m = apart (is T.Assign) (is T.Dot) refl a m
assign_ends (x ∷ ms) a rest m = assign_ends ms a rest m

pub target_stands : (tells : List Leaf → Bool) → TellsAssign tells → (t : Leaf) (ts : List Leaf) → on (is T.Identifier) t ≡ true → tells ts ≡ true → TargetStands (t ∷ ts)
target_stands tells says t ts m h =
    let s = members_stand tells says ts h in
    record {
      target = record { root = t; members = s.members };
      assign = s.assign;
      rest = s.rest;
      taken = record { spelled = ap (λ us. t ∷ us) s.spelled; right = and_from (on (is T.Identifier) t) (all_well_formed member_rule s.members) m s.right; stops = assign_ends s.members s.assign s.rest s.is_assign };
      is_assign = s.is_assign;
    }

-- where a target stands before `=`, it is not refused
pub stands_not_refused : (ts new : List Leaf) → TargetStands ts → FailsAt target_form ts new → ⊥
stands_not_refused ts new s r = taken_not_refused s.taken r

-- and behind the target that was taken there is `=`
pub stands_before : (t : Target) (ts mid : List Leaf) → TargetStands ts → Parsed target_form t (target_form.continues t) ts mid → (a : Leaf) × (rest : List Leaf) × (mid ≡ a ∷ rest) × (on (is T.Assign) a ≡ true)
stands_before t ts mid s u = (s.assign, s.rest, (target_one t s.target mid (s.assign ∷ s.rest) u.right s.taken.right u.stops s.taken.stops (sym u.spelled ∙ s.taken.spelled)).1, s.is_assign)

-- ---- a target before `=` is told

members_told : (tells : List Leaf → Bool) → TellsAssign tells → (ms : List (Leaf × Leaf)) (a : Leaf) (rest : List Leaf) → all_well_formed member_rule ms ≡ true → on (is T.Assign) a ≡ true → tells (in_row member_rule ms ++ (a ∷ rest)) ≡ true
members_told tells says [] a [] r m = says.one a ∙ m
members_told tells says [] a (u ∷ rest) r m = says.more a u rest ∙ or_true_left (on (is T.Assign) a) _ m
members_told tells says (x ∷ ms) a rest r m =
    let r2 = and_parts (on (is T.Dot) x.0 && on (is T.Identifier) x.1) (all_well_formed member_rule ms) r in
    let r3 = and_parts (on (is T.Dot) x.0) (on (is T.Identifier) x.1) r2.0 in
    says.more x.0 x.1 (in_row member_rule ms ++ (a ∷ rest)) ∙ or_true_right (on (is T.Assign) x.0) _ (and_from (on (is T.Dot) x.0) _ r3.0 (and_from (on (is T.Identifier) x.1) _ r3.1 (members_told tells says ms a rest r2.1 m)))

told : (tells : List Leaf → Bool) → TellsAssign tells → (x : Target) (t : Leaf) (ts : List Leaf) (a : Leaf) (new : List Leaf) → t ∷ ts ≡ target_form.tokens x ++ (a ∷ new) → target_form.is_well_formed x ≡ true → on (is T.Assign) a ≡ true → (on (is T.Identifier) t && tells ts) ≡ true
told tells says x t ts a new e r m =
    let r2 = and_parts (on (is T.Identifier) x.root) (all_well_formed member_rule x.members) r in
    and_from (on (is T.Identifier) t) (tells ts) (subst (λ z. on (is T.Identifier) z ≡ true) (sym (head_of t x.root ts (in_row member_rule x.members ++ (a ∷ new)) e)) r2.0)
    (subst (λ us. tells us ≡ true) (sym (tail_of t x.root ts (in_row member_rule x.members ++ (a ∷ new)) e)) (members_told tells says x.members a new r2.1 m))

target_spelled : (p : Postfix) (t : Leaf) (ts new : List Leaf) → t ∷ ts ≡ postfix_form.tokens p ++ new → is_target p ≡ true → t ∷ ts ≡ target_form.tokens (target_of p) ++ new
target_spelled p t ts new e m = e ∙ ap (λ us. us ++ new) (ap (λ z. postfix_form.tokens z) (sym (named_back p m)) ∙ target_tokens (target_of p))

target_right_of : (p : Postfix) → postfix_form.is_well_formed p ≡ true → is_target p ≡ true → target_form.is_well_formed (target_of p) ≡ true
target_right_of p r m = target_right_back (target_of p) (ap (λ z. postfix_form.is_well_formed z) (named_back p m) ∙ r)

-- where no assignment stands, a target that was taken as a postfix has no `=` behind it
pub no_assign_behind : (tells : List Leaf → Bool) → TellsAssign tells → (p : Postfix) {e : Leaf → Bool} (t : Leaf) (ts new : List Leaf) → Parsed postfix_form p e (t ∷ ts) new → (on (is T.Identifier) t && tells ts) ≡ false → is_target p ≡ true → Stops (on (is T.Assign)) new
no_assign_behind tells says p {e} t ts [] u h m = tt
no_assign_behind tells says p {e} t ts (a ∷ new) u h m = not_true (on (is T.Assign) a) (λ k. both_false (on (is T.Identifier) t && tells ts) h (told tells says (target_of p) t ts a new (target_spelled p t ts (a ∷ new) u.spelled m) (target_right_of p u.right m) k))

-- The members of a target, one by one.
use Rattle.std.proofs.Common.{◌≡◌, ℕ, ◌+◌, ◌<◌, ◌≤◌, List, [], ◌∷◌, length, drop, get_or, Option, Some, None, refl, sym, ap, ◌∙◌}
use Rattle.std.proofs.lemmas.List.{drop_more, drop_all}
use Rattle.dep_key.specs.declared.key.Key.{Key}
use Rattle.type_rules.specs.declared.meaning.Meaning.{Meaning}
use Rattle.swift_ast.specs.Leaves.{Leaf}
use Rattle.swift_ast.specs.declared.statements.Target.{Target}
use Rattle.checks.specs.Checks.{◌>>=◌, found}
use Rattle.checks.specs.Logs.{Logged, made}
use Rattle.checks.specs.Strictness.{IsStrict}
use Rattle.checks.proofs.Strict.{strict_itself, strict_bind}
use Rattle.expr_check.specs.declared.line.Line.{Line}
use Rattle.expr_check.specs.declared.scope.Scope.{Scope}
use Rattle.expr_check.specs.Messages.{orders}
use Rattle.expr_check.specs.Types.{CheckOf}
use Rattle.expr_check.proofs.CheckLaws.{bind}
use Rattle.body_check.specs.Statements.{Destination, member_destination, members_destination, root_destination, target_destination}
use Rattle.body_check.specs.Targets.{member_behind, members_behind}

-- what stands before the members is made first
strict_members : (m : Key → Meaning) (s : Scope) (root : Leaf) (members : List (Leaf × Leaf)) (whole : CheckOf Destination → CheckOf Destination) → IsStrict orders m whole → IsStrict orders m (λ part. members_destination s root (whole part) members)
strict_members m s root [] whole h = record { at = h.at }
strict_members m s root ((dot, name) ∷ members) whole h =
    let one = strict_members m s root members (λ part. whole part >>= member_destination s root name) (strict_bind orders m whole (member_destination s root name) h) in
    record { at = one.at }

front_first : (m : Key → Meaning) (s : Scope) (root : Leaf) (members : List (Leaf × Leaf)) (front : CheckOf Destination) (got : Option Destination) (log new : Logged Key Line) → (got, new) ≡ made orders m front log →
    made orders m (members_destination s root front members) log ≡ made orders m (members_destination s root (found got) members) new
front_first m s root members front got log new h =
    (strict_members m s root members (λ part. part) (strict_itself orders m)).at front log ∙ ap (λ r. made orders m (members_destination s root (found r.0) members) r.1) (sym h)

pub target_made : (m : Key → Meaning) (s : Scope) (t : Target) (front got : Option Destination) (log mid new : Logged Key Line) → (front, mid) ≡ made orders m (root_destination s t.root) log →
    (got, new) ≡ made orders m (members_behind s t.root front t.members) mid → (got, new) ≡ made orders m (target_destination s t) log
target_made m s t front got log mid new h g = g ∙ sym (front_first m s t.root t.members (root_destination s t.root) front log mid h)

-- a member of what was found
behind_found : (m : Key → Meaning) (s : Scope) (root name : Leaf) (got : Option Destination) (log : Logged Key Line) → made orders m (found got >>= member_destination s root name) log ≡ made orders m (member_behind s root name got) log
behind_found m s root name None log = refl
behind_found m s root name (Some d) log = bind orders m (found (Some d)) (member_destination s root name) log

-- one member more, and none
pub member_turn : (m : Key → Meaning) (s : Scope) (root : Leaf) (members : List (Leaf × Leaf)) (i : ℕ) (d : Leaf × Leaf) (got next : Option Destination) (log new : Logged Key Line) → i < length members →
    (next, new) ≡ made orders m (member_behind s root (get_or members i d).1 got) log →
    made orders m (members_behind s root got (drop i members)) log ≡ made orders m (members_behind s root next (drop (i + 1) members)) new
member_turn m s root members i d got next log new lt h =
    ap (λ l. made orders m (members_destination s root (found got) l) log) (drop_more members i d lt)
    ∙ front_first m s root (drop (i + 1) members) (found got >>= member_destination s root (get_or members i d).1) next log new (h ∙ sym (behind_found m s root (get_or members i d).1 got log))

pub members_end : (m : Key → Meaning) (s : Scope) (root : Leaf) (members : List (Leaf × Leaf)) (i : ℕ) (got : Option Destination) (log : Logged Key Line) → length members ≤ i →
    made orders m (members_behind s root got (drop i members)) log ≡ (got, log)
members_end m s root members i got log le = ap (λ l. made orders m (members_destination s root (found got) l) log) (drop_all i members le)

-- What is made of a member of a value that was made, also where it is called.
use Rattle.std.proofs.Common.{◌≡◌, Option, Some, sym, ap, ◌∙◌}
use Rattle.dep_key.specs.declared.key.Key.{Key}
use Rattle.type_rules.specs.declared.meaning.Meaning.{Meaning}
use Rattle.swift_ast.specs.Leaves.{Leaf}
use Rattle.checks.specs.Checks.{go_on, on_value, found}
use Rattle.checks.specs.Logs.{Orders, Logged, made}
use Rattle.checks.proofs.Made.{made_bind}
use Rattle.expr_check.specs.declared.line.Line.{Line}
use Rattle.expr_check.specs.declared.place.Place.{Place}
use Rattle.expr_check.specs.declared.typed.Typed.{Typed}
use Rattle.expr_check.specs.declared.scope.Scope.{Scope}
use Rattle.expr_check.specs.Messages.{place_of}
use Rattle.expr_check.specs.Expressions.{Callee, member_named, member_value, method_meant}
use Rattle.expr_check.specs.Phrases.{MemberOf, as_value, as_callee}
use Rattle.expr_tree.proofs.Chains.{then_value, callee_of_member}

pub member_is_made : (o : Orders Key Line) (meanings : Key → Meaning) (s : Scope) (first m : Leaf) (at : Place) (base : Option Typed) (got : Option Typed) (old new : Logged Key Line) → at ≡ place_of first →
    (got, new) ≡ made o meanings (on_value base (λ base. go_on (member_named s base.ty m) (λ found. member_value s at m base found))) old → (got, new) ≡ made o meanings (as_value s first (MemberOf (found base) m)) old
member_is_made o meanings s first m at base got old new e h =
    h
    ∙ ap (λ at. made o meanings (on_value base (λ base. go_on (member_named s base.ty m) (λ found. member_value s at m base found))) old) e
    ∙ sym (then_value o meanings base (λ base. go_on (member_named s base.ty m) (λ found. member_value s (place_of first) m base found)) old)
    ∙ sym (made_bind o meanings (found base) (λ base. go_on (member_named s base.ty m) (λ found. member_value s (place_of first) m base found)) old)

pub callee_is_made : (o : Orders Key Line) (meanings : Key → Meaning) (s : Scope) (first m : Leaf) (at : Place) (base : Typed) (got : Option Callee) (old new : Logged Key Line) → at ≡ place_of first →
    (got, new) ≡ made o meanings (go_on (member_named s base.ty m) (λ found. method_meant s at base found)) old → (got, new) ≡ made o meanings (as_callee s first (MemberOf (found (Some base)) m)) old
callee_is_made o meanings s first m at base got old new e h =
    callee_of_member o meanings s first m base got old new (h ∙ ap (λ at. made o meanings (go_on (member_named s base.ty m) (λ found. method_meant s at base found)) old) e)

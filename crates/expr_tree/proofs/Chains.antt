-- What is made of chains and of what stands behind an atom, part by part.
use Rattle.std.proofs.Common.{◌≡◌, List, [], ◌∷◌, Option, Some, None, refl, sym, ap, ◌∙◌}
use Rattle.dep_key.specs.declared.key.Key.{Key}
use Rattle.type_rules.specs.declared.meaning.Meaning.{Meaning}
use Rattle.swift_ast.specs.Leaves.{Leaf}
use Rattle.checks.specs.Checks.{◌>>=◌, go_on, both, on_value, paired, found, sure, grouped}
use Rattle.checks.specs.Logs.{Orders, Logged, made, made_then, made_both}
use Rattle.checks.specs.Strictness.{IsStrict}
use Rattle.checks.proofs.Made.{made_bind, made_of_both}
use Rattle.checks.proofs.Strict.{strict_itself, strict_bind, strict_both, strict_grouped}
use Rattle.expr_check.specs.declared.line.Line.{Line}
use Rattle.expr_check.specs.declared.typed.Typed.{Typed}
use Rattle.expr_check.specs.declared.scope.Scope.{Scope}
use Rattle.expr_check.specs.Types.{CheckOf}
use Rattle.expr_check.specs.Messages.{place_of}
use Rattle.expr_check.specs.Expressions.{Callee, IsValue, Given, binary, call, value_callee, member_named, member_value, method_named, method_meant}
use Rattle.expr_check.specs.Phrases.{Phrase, Front, Value, MemberOf, Argument, Part, Member, Call, chain, givens, as_value, as_callee, callee_name, extended}
use Rattle.expr_tree.specs.Fronts.{call_check, checks_in}

-- a value that was made is made at once
pub then_value : {X Y : Type 0} (o : Orders Key Line) (meanings : Key → Meaning) (value : Option X) (f : X → CheckOf Y) (log : Logged Key Line) →
    made_then (value, log) (λ x log. made o meanings (f x) log) ≡ made o meanings (on_value value f) log
then_value o meanings None f log = refl
then_value o meanings (Some x) f log = refl

-- what is made of two operands and the operator between them
operands_made : (o : Orders Key Line) (meanings : Key → Meaning) (t : Leaf) (check : CheckOf Typed) (left right next : Option Typed) (old mid new : Logged Key Line) →
    (right, mid) ≡ made o meanings check old → (next, new) ≡ made o meanings (on_value (paired left right) (binary t)) mid →
    made o meanings (both (found left) check >>= binary t) old ≡ (next, new)
operands_made o meanings t check left right next old mid new h g =
    made_bind o meanings (both (found left) check) (binary t) old
    ∙ ap (λ m. made_then m (λ x log. made o meanings (binary t x) log)) (made_of_both o meanings (found left) check old)
    ∙ ap (λ m. made_then (paired left m.0, m.1) (λ x log. made o meanings (binary t x) log)) (sym h)
    ∙ then_value o meanings (paired left right) (binary t) mid
    ∙ sym g

-- an operand and the others behind it
pub operand_goes_on : (o : Orders Key Line) (meanings : Key → Meaning) (t : Leaf) (check : CheckOf Typed) (more : List (Leaf × CheckOf Typed)) (left right next : Option Typed) (old mid new : Logged Key Line) →
    (right, mid) ≡ made o meanings check old → (next, new) ≡ made o meanings (on_value (paired left right) (binary t)) mid →
    made o meanings (grouped binary (found left) ((t, check) ∷ more)) old ≡ made o meanings (grouped binary (found next) more) new
operand_goes_on o meanings t check more left right next old mid new h g =
    (strict_grouped o meanings binary (λ part. part) more (strict_itself o meanings)).at (both (found left) check >>= binary t) old
    ∙ ap (λ m. made o meanings (grouped binary (found m.0) more) m.1) (operands_made o meanings t check left right next old mid new h g)

-- a chain by its first operand
pub chain_made : (o : Orders Key Line) (meanings : Key → Meaning) (s : Scope) (whole first : Phrase) (more : List (Leaf × Phrase)) (left got : Option Typed) (old mid new : Logged Key Line) →
    whole ≡ chain first more → (left, mid) ≡ made o meanings (first.check s) old → (got, new) ≡ made o meanings (grouped binary (found left) (checks_in s more)) mid →
    (got, new) ≡ made o meanings (whole.check s) old
chain_made o meanings s whole first more left got old mid new e h g =
    g
    ∙ ap (λ m. made o meanings (grouped binary (found m.0) (checks_in s more)) m.1) h
    ∙ sym ((strict_grouped o meanings binary (λ part. part) (checks_in s more) (strict_itself o meanings)).at (first.check s) old)
    ∙ ap (λ (p : Phrase). made o meanings (p.check s) old) (sym e)

-- ---- behind an atom

strict_in : {X Y Z : Type 0} (o : Orders Key Line) (meanings : Key → Meaning) (outer : CheckOf Y → CheckOf Z) (inner : CheckOf X → CheckOf Y) → IsStrict o meanings outer → IsStrict o meanings inner → IsStrict o meanings (λ part. outer (inner part))
strict_in o meanings outer inner s r = record {
  at = λ part log. s.at (inner part) log ∙ ap (λ m. made o meanings (outer (found m.0)) m.1) (r.at part log)
      ∙ sym (s.at (inner (found (made o meanings part log).0)) (made o meanings part log).1);
}

member_read : Scope → Leaf → Leaf → Typed → CheckOf Typed
member_read s first m base = member_named s base.ty m >>= member_value s (place_of first) m base

mutual
  pub strict_value : (o : Orders Key Line) (meanings : Key → Meaning) (s : Scope) (first : Leaf) (parts : List Part) → IsStrict o meanings (λ v. extended s first (Value v) parts)
  strict_value o meanings s first [] = record { at = λ part log. refl }
  strict_value o meanings s first (Member m ∷ parts) = record { at = (strict_member o meanings s first m parts).at }
  strict_value o meanings s first (Call args ∷ parts) =
      let f : Callee × List Given → CheckOf Typed = call s (place_of first) first in
      let one = strict_in o meanings (λ v. extended s first (Value v) parts) (λ v. both (value_callee v) (givens s args) >>= f) (strict_value o meanings s first parts)
      (strict_bind o meanings (λ v. both (value_callee v) (givens s args)) f (strict_both o meanings (λ v. value_callee v) (givens s args) (strict_bind o meanings (λ v. v) _ (strict_itself o meanings)))) in
      record { at = one.at }

  pub strict_member : (o : Orders Key Line) (meanings : Key → Meaning) (s : Scope) (first m : Leaf) (parts : List Part) → IsStrict o meanings (λ v. extended s first (MemberOf v m) parts)
  strict_member o meanings s first m [] = record { at = (strict_bind o meanings (λ v. v) _ (strict_itself o meanings)).at }
  strict_member o meanings s first m (Member next ∷ parts) =
      let one = strict_in o meanings (λ v. extended s first (MemberOf v next) parts) (λ v. as_value s first (MemberOf v m)) (strict_member o meanings s first next parts) (strict_bind o meanings (λ v. v) _ (strict_itself o meanings)) in
      record { at = one.at }
  strict_member o meanings s first m (Call args ∷ parts) =
      let f : Callee × List Given → CheckOf Typed = call s (place_of first) m in
      let one = strict_in o meanings (λ v. extended s first (Value v) parts) (λ v. both (method_named s (place_of first) m v) (givens s args) >>= f) (strict_value o meanings s first parts)
      (strict_bind o meanings (λ v. both (method_named s (place_of first) m v) (givens s args)) f (strict_both o meanings (λ v. method_named s (place_of first) m v) (givens s args) (strict_bind o meanings (λ v. v) _ (strict_itself o meanings)))) in
      record { at = one.at }

-- the value that stands before the name of a member
pub member_goes_on : (o : Orders Key Line) (meanings : Key → Meaning) (s : Scope) (first : Leaf) (front : Front) (m : Leaf) (parts : List Part) (value : Option Typed) (old new : Logged Key Line) →
    (value, new) ≡ made o meanings (as_value s first front) old →
    made o meanings (extended s first (MemberOf (found value) m) parts) new ≡ made o meanings (extended s first front (Member m ∷ parts)) old
member_goes_on o meanings s first front m parts value old new h =
    ap (λ v. made o meanings (extended s first (MemberOf (found v.0) m) parts) v.1) h ∙ sym ((strict_member o meanings s first m parts).at (as_value s first front) old)

-- the value of a call
pub call_goes_on : (o : Orders Key Line) (meanings : Key → Meaning) (s : Scope) (first : Leaf) (front : Front) (args : List Argument) (parts : List Part) (value : Option Typed) (old new : Logged Key Line) →
    (value, new) ≡ made o meanings (both (as_callee s first front) (givens s args) >>= call s (place_of first) (callee_name first front)) old →
    made o meanings (extended s first (Value (found value)) parts) new ≡ made o meanings (extended s first front (Call args ∷ parts)) old
call_goes_on o meanings s first front args parts value old new h =
    ap (λ v. made o meanings (extended s first (Value (found v.0)) parts) v.1) h
    ∙ sym ((strict_value o meanings s first parts).at (both (as_callee s first front) (givens s args) >>= call s (place_of first) (callee_name first front)) old)

-- the value of an atom that is no name
pub value_goes_on : (o : Orders Key Line) (meanings : Key → Meaning) (s : Scope) (first : Leaf) (check : CheckOf Typed) (parts : List Part) (value : Option Typed) (old new : Logged Key Line) →
    (value, new) ≡ made o meanings check old → made o meanings (extended s first (Value (found value)) parts) new ≡ made o meanings (extended s first (Value check) parts) old
value_goes_on o meanings s first check parts value old new h =
    ap (λ v. made o meanings (extended s first (Value (found v.0)) parts) v.1) h ∙ sym ((strict_value o meanings s first parts).at check old)

-- a value that is called
pub callee_of_value : (o : Orders Key Line) (meanings : Key → Meaning) (s : Scope) (first : Leaf) (value : Option Typed) (old : Logged Key Line) →
    made o meanings (as_callee s first (Value (found value))) old ≡ made_then (value, old) (λ v log. (Some (IsValue v.ty), log))
callee_of_value o meanings s first value old = made_bind o meanings (found value) (λ v. sure (IsValue v.ty)) old

-- a member that is called, of a value that was made
pub callee_of_member : (o : Orders Key Line) (meanings : Key → Meaning) (s : Scope) (first m : Leaf) (base : Typed) (got : Option Callee) (old new : Logged Key Line) →
    (got, new) ≡ made o meanings (go_on (member_named s base.ty m) (λ found. method_meant s (place_of first) base found)) old → (got, new) ≡ made o meanings (as_callee s first (MemberOf (found (Some base)) m)) old
callee_of_member o meanings s first m base got old new h = h ∙ sym (made_bind o meanings (found (Some base)) (λ base. member_named s base.ty m >>= (λ found. method_meant s (place_of first) base found)) old)

-- what is called, its arguments, and the call
pub call_made : (o : Orders Key Line) (meanings : Key → Meaning) (s : Scope) (first name : Leaf) (front : Front) (args : List Argument) (callee : Option Callee) (values : Option (List Given)) (got : Option Typed) (old mid end new : Logged Key Line) →
    name ≡ callee_name first front → (callee, mid) ≡ made o meanings (as_callee s first front) old → (values, end) ≡ made o meanings (givens s args) mid →
    (got, new) ≡ made o meanings (on_value (paired callee values) (call s (place_of first) name)) end → (got, new) ≡ made o meanings (call_check s first front args) old
call_made o meanings s first name front args callee values got old mid end new e h v g =
    let f : Leaf → Callee × List Given → Logged Key Line → Option Typed × Logged Key Line = λ name x log. made o meanings (call s (place_of first) name x) log in
    g
    ∙ sym (then_value o meanings (paired callee values) (call s (place_of first) name) end)
    ∙ ap (λ (m : Option (List Given) × Logged Key Line). made_then (paired callee m.0, m.1) (f name)) v
    ∙ ap (λ (m : Option Callee × Logged Key Line). made_then (made_both m (λ log. made o meanings (givens s args) log)) (f name)) h
    ∙ ap (λ m. made_then m (f name)) (sym (made_of_both o meanings (as_callee s first front) (givens s args) old))
    ∙ ap (λ name. made_then (made o meanings (both (as_callee s first front) (givens s args)) old) (f name)) e
    ∙ sym (made_bind o meanings (both (as_callee s first front) (givens s args)) (call s (place_of first) (callee_name first front)) old)

-- Locals, step by step.
use Rattle.std.proofs.Common.{◌≡◌, Bool, List, Option, Some, sym, ap, ◌∙◌}
use Rattle.dep_key.specs.declared.key.Key.{Key}
use Rattle.type_rules.specs.declared.meaning.Meaning.{Meaning}
use Rattle.type_rules.specs.declared.ty.Ty.{Ty}
use Rattle.swift_ast.specs.Leaves.{Leaf}
use Rattle.swift_ast.specs.declared.statements.TypeName.{TypeName}
use Rattle.typed_code.specs.declared.step.Step.{Step}
use Rattle.checks.specs.Checks.{sure, tried, ◌>>=◌}
use Rattle.checks.specs.Logs.{Logged, made}
use Rattle.expr_check.specs.declared.line.Line.{Line}
use Rattle.expr_check.specs.declared.typed.Typed.{Typed}
use Rattle.expr_check.specs.declared.scope.Scope.{Scope}
use Rattle.expr_check.specs.Messages.{orders}
use Rattle.expr_check.specs.Scopes.{declaring}
use Rattle.expr_check.specs.Phrases.{Phrase}
use Rattle.body_check.specs.Statements.{Read, annotated, binding_type, set_local, local_read}
use Rattle.body_check.proofs.Making.{tried_then}

pub local_made : (m : Key → Meaning) (mutable : Bool) (name : Leaf) (annotation : Option (Leaf × TypeName)) (value : Phrase) (s t : Scope) (wanted : Option (Option Ty)) (found : Option Typed) (of : Option Ty) (code : Option (List Step)) (log a b new : Logged Key Line) →
    (wanted, a) ≡ made orders m (annotated s annotation) log → (found, b) ≡ made orders m (value.check s) a → (code, new) ≡ made orders m (set_local s name value.first wanted found) b → of ≡ binding_type wanted found → t ≡ declaring s name.text of mutable →
    (Some (t, code), new) ≡ made orders m (local_read mutable name annotation value s) log
local_made m mutable name annotation value s t wanted found of code log a b new h g k e d =
    let behind : Option (List Step) → Read = λ code. sure (declaring s name.text (binding_type wanted found) mutable, code) in
    let coded : Option Typed → Read = λ found. tried (set_local s name value.first wanted found) >>= (λ code. sure (declaring s name.text (binding_type wanted found) mutable, code)) in
    ap (λ x. (Some (x, code), new)) (d ∙ ap (λ o. declaring s name.text o mutable) e)
    ∙ sym (tried_then m (annotated s annotation) (λ wanted. tried (value.check s) >>= (λ found. tried (set_local s name value.first wanted found) >>= (λ code. sure (declaring s name.text (binding_type wanted found) mutable, code)))) wanted log a h
    ∙ tried_then m (value.check s) coded found a b g
    ∙ tried_then m (set_local s name value.first wanted found) behind code b new k)

-- What is read of queries that are put together.
use Rattle.std.proofs.Common.{◌≡◌, ℕ, List, Option, refl, sym, ap, ◌∙◌}
use Rattle.std.specs.Option.{option_map}
use Rattle.std.specs.BTreeSet.{insert_key}
use Rattle.queries.specs.Queries.{Done, Fetch, ◌>>=◌, value_with, dependencies}
use Rattle.dep_key.specs.declared.key.Key.{Key}
use Rattle.dep_key.specs.KeyOrder.{key_order}
use Rattle.swift_ast.specs.declared.expressions.Expr.{Expr}
use Rattle.swift_ast.specs.declared.statements.TypeName.{TypeName}
use Rattle.type_rules.specs.declared.ty.Ty.{Ty}
use Rattle.type_rules.specs.declared.meaning.Meaning.{Meaning}
use Rattle.checks.specs.Logs.{Logged, entered, made}
use Rattle.expr_check.specs.declared.line.Line.{Line}
use Rattle.expr_check.specs.declared.typed.Typed.{Typed}
use Rattle.expr_check.specs.Messages.{orders}
use Rattle.expr_check.specs.Phrases.{expr_phrase}
use Rattle.expr_check.specs.Types.{CheckOf, type_named}
use Rattle.type_infer.specs.Readings.{Query, at_file, written_type, value_type}
use Rattle.decl_meaning.specs.Asking.{read}

pub read_bind : {X Y : Type 0} (m : Key → Meaning) (q : Query X) (f : X → Query Y) (asked : List Key) → read m (q >>= f) asked ≡ read m (f (read m q asked).0) (read m q asked).1
read_bind m (Done x) f asked = refl
read_bind m (Fetch k g) f asked = read_bind m (g (m k)) f (insert_key key_order asked k)

-- what is read is the value, and what was asked before with what the query asks
pub read_is : {X : Type 0} (m : Key → Meaning) (q : Query X) (asked : List Key) → read m q asked ≡ (value_with m q, entered key_order asked (dependencies m q))
read_is m (Done x) asked = refl
read_is m (Fetch k g) asked = read_is m (g (m k)) (insert_key key_order asked k)

-- what a check asks while nothing that it says counts
pub made_read : {X : Type 0} (m : Key → Meaning) (check : CheckOf X) (log : Logged Key Line) →
    ((made orders m check log).0 ≡ (read m check log.asked).0.value) × ((made orders m check log).1.asked ≡ (read m check log.asked).1)
made_read m (Done c) log = (refl, refl)
made_read m (Fetch k g) log = made_read m (g (m k)) (record { errors = log.errors; asked = insert_key key_order log.asked k; muted = log.muted })

pub read_written : (m : Key → Meaning) (path : List ℕ) (t : TypeName) (got : Option Ty) (log after : Logged Key Line) → (got, after) ≡ made orders m (type_named path t.name) log → (got, after.asked) ≡ read m (written_type path t) log.asked
unfolding written_type
read_written m path t got log after h = let both = made_read m (type_named path t.name) log in ap (λ r. (r.0, r.1.asked)) h ∙ (λ i. (both.0 i, both.1 i)) ∙ sym (read_bind m (type_named path t.name) (λ c. Done c.value) log.asked)

pub read_value : (m : Key → Meaning) (path : List ℕ) (e : Expr) (got : Option Typed) (log after : Logged Key Line) → (got, after) ≡ made orders m ((expr_phrase e).check (at_file path)) log →
    (option_map (λ v. v.ty) got, after.asked) ≡ read m (value_type path e) log.asked
unfolding value_type
read_value m path e got log after h =
    let check = (expr_phrase e).check (at_file path) in
    let both = made_read m check log in
    ap (λ r. (option_map (λ v. v.ty) r.0, r.1.asked)) h ∙ (λ i. (option_map (λ v. v.ty) (both.0 i), both.1 i)) ∙ sym (read_bind m check (λ c. Done (option_map (λ v. v.ty) c.value)) log.asked)

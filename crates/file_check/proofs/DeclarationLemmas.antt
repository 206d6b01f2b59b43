-- What is made of globals and aliases.
use Rattle.std.proofs.Common.{◌≡◌, ℕ, true, false, List, [], Option, Some, None, refl, ap, ◌∙◌}
use Rattle.queries.specs.Queries.{Fetch, value_with}
use Rattle.dep_key.specs.declared.key.Key.{Key}
use Rattle.dep_key.specs.KeyBuilders.{top_level, key_name}
use Rattle.type_rules.specs.declared.ty.Ty.{Ty}
use Rattle.type_rules.specs.declared.meaning.Meaning.{Meaning}
use Rattle.type_rules.specs.declared.meaning.Meaning.TheVariants as means
use Rattle.swift_ast.specs.Leaves.{Leaf}
use Rattle.swift_ast.specs.declared.declarations.Access.{Access}
use Rattle.swift_ast.specs.declared.declarations.Global.{Global}
use Rattle.swift_ast.specs.declared.declarations.Alias.{Alias}
use Rattle.checks.specs.Checks.{behind, sure, ◌>>=◌, noting}
use Rattle.checks.specs.Logs.{Logged, made, made_then, saying}
use Rattle.checks.specs.OwnKeys.{owned}
use Rattle.checks.proofs.Owned.{owned_unasked}
use Rattle.expr_check.specs.declared.line.Line.{Line}
use Rattle.expr_check.specs.Messages.{orders}
use Rattle.expr_check.specs.Phrases.{expr_phrase}
use Rattle.expr_check.specs.Scopes.{or_else}
use Rattle.expr_check.specs.Types.{CheckOf, provided, look_up, built_in_as, built_in_type, type_found, type_named}
use Rattle.body_check.specs.Declarations.{Site, declared, name_in_keys, value_check, global_units, global_check, alias_check}
use Rattle.file_check.specs.OwnTypes.{meant, first_meant, built_in_lines, type_lines}
use Rattle.file_check.specs.Runs.{run, behind_standing}
use Rattle.file_check.proofs.FunctionLemmas.{run_stood}
use Rattle.file_check.proofs.RunLaws.{run_bind, run_noting}

pub global_run : (meanings : Key → Meaning) (f : Site) (access : Option Access) (d : Global) (log : Logged Key Line) →
    run meanings (global_check f access d) log
    ≡ made_then (run meanings (value_check f (top_level (name_in_keys f access d.name)) d.annotation (expr_phrase d.value)) (behind_standing meanings f (declared [] access d.name) (top_level (name_in_keys f access d.name)) d.name log))
    (λ v log. (Some (global_units (name_in_keys f access d.name) v), log))
unfolding run
global_run meanings f access d log =
    let name = name_in_keys f access d.name in
    let check = value_check f (top_level name) d.annotation (expr_phrase d.value) in
    run_stood meanings f (declared [] access d.name) (top_level name) d.name (check >>= (λ v. sure (global_units name v))) log
    ∙ run_bind meanings check (λ v. sure (global_units name v)) (behind_standing meanings f (declared [] access d.name) (top_level name) d.name log)

-- a look-up that is no use
pub run_owned : {X : Type 0} (meanings : Key → Meaning) (check : CheckOf X) (log : Logged Key Line) →
    run meanings (owned check) log ≡ ((value_with meanings check).value, saying orders log (value_with meanings check).errors)
unfolding run
run_owned meanings check log = ap (λ c. made orders meanings c log) (owned_unasked meanings check)

built_in_said : (meanings : Key → Meaning) (t : Leaf) (of : Option Ty) → (value_with meanings (behind [] (built_in_as t of))).errors ≡ built_in_lines t of
built_in_said meanings t None = refl
built_in_said meanings t (Some of) = refl

found_said : (meanings : Key → Meaning) (t : Leaf) (key : Key) (m : Meaning) → (value_with meanings (provided key m (sure None) >>= type_found t)).errors ≡ type_lines t (meant m)
found_said meanings t key means.NoProvider = built_in_said meanings t (built_in_type t.text)
found_said meanings t key means.Ambiguous = refl
found_said meanings t key means.Broken = refl
found_said meanings t key means.Circular = refl
found_said meanings t key (means.Value mutable of) = refl
found_said meanings t key (means.Function params result) = refl
found_said meanings t key (means.Struct context) = refl
found_said meanings t key (means.Alias of) = refl
found_said meanings t key (means.Fields fields words) = refl

first_said : (meanings : Key → Meaning) (t : Leaf) (key other : Key) (m : Meaning) →
    (value_with meanings (provided key m (Fetch other (λ meaning. provided other meaning (sure None))) >>= type_found t)).errors ≡ type_lines t (or_else (meant m) (meant (meanings other)))
first_said meanings t key other means.NoProvider = found_said meanings t other (meanings other)
first_said meanings t key other means.Ambiguous = refl
first_said meanings t key other means.Broken = refl
first_said meanings t key other means.Circular = refl
first_said meanings t key other (means.Value mutable of) = refl
first_said meanings t key other (means.Function params result) = refl
first_said meanings t key other (means.Struct context) = refl
first_said meanings t key other (means.Alias of) = refl
first_said meanings t key other (means.Fields fields words) = refl

type_said : (meanings : Key → Meaning) (path : List ℕ) (t : Leaf) → (value_with meanings (type_named path t)).errors ≡ type_lines t (first_meant meanings path t.text)
unfolding look_up
type_said meanings path t =
    let own = top_level (key_name path true t.text) in
    first_said meanings t own (top_level (key_name path false t.text)) (meanings own)

pub alias_run : (meanings : Key → Meaning) (f : Site) (access : Option Access) (d : Alias) (log : Logged Key Line) →
    run meanings (alias_check f access d) log
    ≡ (Some [], saying orders (behind_standing meanings f (declared [] access d.name) (top_level (name_in_keys f access d.name)) d.name log) (type_lines d.type_name.name (first_meant meanings f.path d.type_name.name.text)))
unfolding run
alias_run meanings f access d log =
    let t = d.type_name.name in
    let key = top_level (name_in_keys f access d.name) in
    let stood = behind_standing meanings f (declared [] access d.name) key d.name log in
    run_stood meanings f (declared [] access d.name) key d.name (noting (owned (type_named f.path t)) (sure [])) log
    ∙ run_noting meanings (owned (type_named f.path t)) (sure []) stood
    ∙ ap (λ m. (Some [], m.1)) (run_owned meanings (type_named f.path t) stood)
    ∙ ap (λ ls. (Some [], saying orders stood ls)) (type_said meanings f.path t)

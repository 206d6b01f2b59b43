-- What is made of initial values.
use Rattle.std.proofs.Common.{◌≡◌, true, Option, ap, ◌∙◌}
use Rattle.dep_key.specs.declared.key.Key.{Key}
use Rattle.type_rules.specs.declared.ty.Ty.{Ty}
use Rattle.type_rules.specs.declared.meaning.Meaning.{Meaning}
use Rattle.swift_ast.specs.Leaves.{Leaf}
use Rattle.swift_ast.specs.declared.statements.TypeName.{TypeName}
use Rattle.checks.specs.Checks.{◌>>=◌, hushed, tried}
use Rattle.checks.specs.Logs.{Orders, Logged, made, made_then, made_tried, muting}
use Rattle.checks.specs.OwnKeys.{used}
use Rattle.checks.proofs.Made.{made_bind, made_of_tried, made_of_hushed}
use Rattle.expr_check.specs.declared.line.Line.{Line}
use Rattle.expr_check.specs.declared.scope.Scope.{Scope}
use Rattle.expr_check.specs.Messages.{orders}
use Rattle.expr_check.specs.Types.{CheckOf}
use Rattle.expr_check.specs.Phrases.{Phrase}
use Rattle.body_check.specs.Statements.{annotated, fitting}
use Rattle.body_check.specs.Declarations.{FileCheck, Site, outside, fitting_value, unless_circular, value_check}
use Rattle.file_check.specs.Runs.{run, valued_by}
use Rattle.file_check.proofs.RunLaws.{run_bind, run_used, run_own_meaning}

pub fitting_made : (o : Orders Key Line) (meanings : Key → Meaning) (s : Scope) (wanted : Option (Option Ty)) (value : Phrase) (log : Logged Key Line) →
    made o meanings (fitting_value s wanted value) log ≡ made o meanings (fitting value.first wanted (made o meanings (value.check s) log).0) (made o meanings (value.check s) log).1
fitting_made o meanings s wanted value log =
    made_bind o meanings (tried (value.check s)) (λ v. fitting value.first wanted v) log
    ∙ ap (λ m. made_then m (λ v log. made o meanings (fitting value.first wanted v) log)) (made_of_tried o meanings (value.check s) log)

pub hushed_made : {X : Type 0} (o : Orders Key Line) (meanings : Key → Meaning) (check : CheckOf X) (log : Logged Key Line) →
    made o meanings (hushed check) log ≡ ((made o meanings check (muting true log)).0, muting log.muted (made o meanings check (muting true log)).1)
hushed_made o meanings check log = made_of_hushed o meanings check log

-- a check that is used, and goes on in any case
pub run_tried : {X : Type 0} (meanings : Key → Meaning) (check : CheckOf X) (log : Logged Key Line) → run meanings (used (tried check)) log ≡ made_tried (made orders meanings check log)
run_tried meanings check log = run_used meanings (tried check) log ∙ made_of_tried orders meanings check log

-- and then another one
pub run_behind_tried : {X Y : Type 0} (meanings : Key → Meaning) (check : CheckOf X) (f : Option X → FileCheck Y) (log : Logged Key Line) →
    run meanings (used (tried check) >>= f) log ≡ run meanings (f (made orders meanings check log).0) (made orders meanings check log).1
run_behind_tried meanings check f log =
    run_bind meanings (used (tried check)) f log ∙ ap (λ m. made_then m (λ x log. run meanings (f x) log)) (run_tried meanings check log)

pub valued_run : (meanings : Key → Meaning) (f : Site) (key : Key) (wanted : Option (Option Ty)) (value : Phrase) (log : Logged Key Line) →
    run meanings (valued_by f key wanted value) log ≡ made_tried (made orders meanings (unless_circular (meanings key) (fitting_value (outside f) wanted value)) log)
valued_run meanings f key wanted value log =
    run_own_meaning meanings key (λ meaning. used (tried (unless_circular meaning (fitting_value (outside f) wanted value)))) log
    ∙ run_tried meanings (unless_circular (meanings key) (fitting_value (outside f) wanted value)) log

pub value_run : (meanings : Key → Meaning) (f : Site) (key : Key) (annotation : Option (Leaf × TypeName)) (value : Phrase) (log : Logged Key Line) →
    run meanings (value_check f key annotation value) log
    ≡ run meanings (valued_by f key (made orders meanings (annotated (outside f) annotation) log).0 value) (made orders meanings (annotated (outside f) annotation) log).1
value_run meanings f key annotation value log = run_behind_tried meanings (annotated (outside f) annotation) (λ wanted. valued_by f key wanted value) log

-- What is made of members.
use Rattle.std.proofs.Common.{◌≡◌, ℕ, List, [], ◌∷◌, ◌++◌, Option, Some, None, refl, ap, ◌∙◌}
use Rattle.dep_key.specs.declared.key.Key.{Key}
use Rattle.dep_key.specs.KeyBuilders.{member}
use Rattle.type_rules.specs.declared.meaning.Meaning.{Meaning}
use Rattle.swift_ast.specs.Leaves.{Leaf}
use Rattle.swift_ast.specs.declared.declarations.Access.{Access}
use Rattle.swift_ast.specs.declared.declarations.Stored.{Stored}
use Rattle.swift_ast.specs.declared.statements.TypeName.{TypeName}
use Rattle.checks.specs.Checks.{sure, go_on, tried}
use Rattle.checks.specs.Logs.{Logged, made, made_then}
use Rattle.checks.specs.OwnKeys.{used}
use Rattle.expr_check.specs.declared.line.Line.{Line}
use Rattle.expr_check.specs.Messages.{orders}
use Rattle.expr_check.specs.Phrases.{Phrase}
use Rattle.expr_check.specs.Types.{type_written}
use Rattle.body_check.specs.Declarations.{FileCheck, Site, declared, outside, name_in_keys, handed_in, own_code, value_check, stored_check, stored_member}
use Rattle.file_check.specs.Members.{code_of, written_value}
use Rattle.file_check.specs.Runs.{run, valued_by, behind_standing}
use Rattle.file_check.proofs.FunctionLemmas.{run_stood}
use Rattle.file_check.proofs.RunLaws.{run_bind}
use Rattle.file_check.proofs.ValueLemmas.{run_behind_tried, value_run}

pub nothing_more : {X : Type 0} (xs : List X) → xs ≡ xs ++ []
nothing_more [] = refl
nothing_more (x ∷ xs) = ap (λ ys. x ∷ ys) (nothing_more xs)

-- a function of what a check gives
pub mapped_run : {X Y : Type 0} (meanings : Key → Meaning) (h : X → Y) (check : FileCheck X) (log : Logged Key Line) →
    run meanings (go_on check (λ x. sure (h x))) log ≡ made_then (run meanings check log) (λ x log. (Some (h x), log))
unfolding run
mapped_run meanings h check log = run_bind meanings check (λ x. sure (h x)) log

pub handed_run : (meanings : Key → Meaning) (f : Site) (t : Leaf) (log : Logged Key Line) →
    run meanings (go_on (used (tried (type_written (outside f) t))) (λ of. sure (handed_in of))) log
    ≡ (Some (handed_in (made orders meanings (type_written (outside f) t) log).0), (made orders meanings (type_written (outside f) t) log).1)
unfolding run
handed_run meanings f t log = run_behind_tried meanings (type_written (outside f) t) (λ of. sure (handed_in of)) log

pub written_run : (meanings : Key → Meaning) (f : Site) (key : Key) (t : TypeName) (value : Phrase) (log : Logged Key Line) →
    run meanings (written_value f key t value) log
    ≡ run meanings (valued_by f key (made orders meanings (go_on (type_written (outside f) t.name) (λ of. sure (Some of))) log).0 value) (made orders meanings (go_on (type_written (outside f) t.name) (λ of. sure (Some of))) log).1
written_run meanings f key t value log = run_behind_tried meanings (go_on (type_written (outside f) t.name) (λ of. sure (Some of))) (λ wanted. valued_by f key wanted value) log

pub inferred_run : (meanings : Key → Meaning) (f : Site) (key : Key) (value : Phrase) (log : Logged Key Line) →
    run meanings (go_on (value_check f key None value) (λ v. sure (own_code v))) log ≡ made_then (run meanings (valued_by f key (Some None) value) log) (λ v log. (Some (own_code v), log))
inferred_run meanings f key value log =
    mapped_run meanings own_code (value_check f key None value) log
    ∙ ap (λ m. made_then m (λ v log. (Some (own_code v), log))) (value_run meanings f key None value log)

pub stored_run : (meanings : Key → Meaning) (f : Site) (context : List ℕ) (access : Option Access) (d : Stored) (log : Logged Key Line) →
    run meanings (stored_member f context access d) log
    ≡ made_then (run meanings (stored_check f (member context (name_in_keys f access d.name)) d.value) (behind_standing meanings f (declared context access d.name) (member context (name_in_keys f access d.name)) d.name log))
    (λ i log. (Some (code_of (i ∷ []) []), log))
stored_run meanings f context access d log =
    let key = member context (name_in_keys f access d.name) in
    let check = stored_check f key d.value in
    run_stood meanings f (declared context access d.name) key d.name (go_on check (λ i. sure (code_of (i ∷ []) []))) log
    ∙ mapped_run meanings (λ i. code_of (i ∷ []) []) check (behind_standing meanings f (declared context access d.name) key d.name log)

-- What is made of functions.
use Rattle.std.proofs.Common.{◌≡◌, ℕ, List, ◌++◌, ap, ◌∙◌}
use Rattle.dep_key.specs.declared.key.Key.{Key}
use Rattle.type_rules.specs.declared.ty.Ty.{Ty}
use Rattle.type_rules.specs.declared.meaning.Meaning.{Meaning}
use Rattle.swift_ast.specs.Leaves.{Leaf}
use Rattle.swift_ast.specs.declared.declarations.Param.{Param}
use Rattle.swift_ast.specs.declared.statements.Block.{Block}
use Rattle.checks.specs.Checks.{noting, tried}
use Rattle.checks.specs.Logs.{Orders, Logged, made, made_then}
use Rattle.checks.specs.OwnKeys.{used}
use Rattle.checks.proofs.Made.{made_bind, made_of_tried}
use Rattle.expr_check.specs.declared.line.Line.{Line}
use Rattle.expr_check.specs.declared.scope.Scope.{Scope}
use Rattle.expr_check.specs.Messages.{orders}
use Rattle.expr_check.specs.Types.{CheckOf}
use Rattle.body_check.specs.Declarations.{FileCheck, Site, Declared, standing, redeclaration, circle, lines_of, function_check, function_giving}
use Rattle.file_check.specs.Runs.{run, behind_standing}
use Rattle.file_check.proofs.RunLaws.{run_noting, run_used, run_own_meaning, run_lines, saying_both}

-- a function, behind its result
pub function_made : (o : Orders Key Line) (meanings : Key → Meaning) (s : Scope) (symbol : List ℕ) (name : Leaf) (params : List Param) (result : CheckOf Ty) (body : Block) (log : Logged Key Line) →
    made o meanings (function_check s symbol name params result body) log ≡ made o meanings (function_giving s symbol name params body (made o meanings result log).0) (made o meanings result log).1
function_made o meanings s symbol name params result body log =
    made_bind o meanings (tried result) (λ gives. function_giving s symbol name params body gives) log
    ∙ ap (λ m. made_then m (λ gives log. made o meanings (function_giving s symbol name params body gives) log)) (made_of_tried o meanings result log)

run_standing : (meanings : Key → Meaning) (f : Site) (d : Declared) (key : Key) (name : Leaf) (log : Logged Key Line) → (run meanings (standing f d key name) log).1 ≡ behind_standing meanings f d key name log
run_standing meanings f d key name log =
    ap (λ m. m.1) (run_own_meaning meanings key (λ meaning. lines_of (redeclaration f d name meaning ++ circle name meaning)) log ∙ run_lines meanings (redeclaration f d name (meanings key) ++ circle name (meanings key)) log)
    ∙ saying_both (redeclaration f d name (meanings key)) (circle name (meanings key)) log

-- a check behind what is said of a name
pub run_stood : {X : Type 0} (meanings : Key → Meaning) (f : Site) (d : Declared) (key : Key) (name : Leaf) (check : FileCheck X) (log : Logged Key Line) →
    run meanings (noting (standing f d key name) check) log ≡ run meanings check (behind_standing meanings f d key name log)
run_stood meanings f d key name check log = run_noting meanings (standing f d key name) check log ∙ ap (λ l. run meanings check l) (run_standing meanings f d key name log)

-- one that uses all that it asks
pub standing_used : {X : Type 0} (meanings : Key → Meaning) (f : Site) (d : Declared) (key : Key) (name : Leaf) (check : CheckOf X) (log : Logged Key Line) →
    run meanings (noting (standing f d key name) (used check)) log ≡ made orders meanings check (behind_standing meanings f d key name log)
standing_used meanings f d key name check log = run_stood meanings f d key name (used check) log ∙ run_used meanings check (behind_standing meanings f d key name log)

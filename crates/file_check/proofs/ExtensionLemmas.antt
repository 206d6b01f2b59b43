-- What is made of extensions and of files.
use Rattle.std.proofs.Common.{◌≡◌, ℕ, List, [], ◌∷◌, ◌++◌, Some, None, flat_map, ap, ◌∙◌}
use Rattle.dep_key.specs.declared.key.Key.{Key}
use Rattle.type_rules.specs.declared.ty.Ty.TheVariants as ty
use Rattle.type_rules.specs.declared.meaning.Meaning.{Meaning}
use Rattle.swift_ast.specs.declared.declarations.Extension.{Extension}
use Rattle.typed_code.specs.declared.units.Unit.{Unit as CodeUnit}
use Rattle.checks.specs.Checks.{hushed}
use Rattle.checks.specs.Logs.{Logged, made, saying}
use Rattle.checks.specs.OwnKeys.{used}
use Rattle.expr_check.specs.declared.line.Line.{Line}
use Rattle.expr_check.specs.Message as is
use Rattle.expr_check.specs.Messages.{line, place_of, orders}
use Rattle.expr_check.specs.Types.{laid_out}
use Rattle.body_check.specs.Declarations.{UnitCheck, Site, in_order, lines_of, extension_members}
use Rattle.file_check.specs.Extensions.{extension_of_struct, extension_of_none}
use Rattle.file_check.specs.Runs.{run, gathered}
use Rattle.file_check.proofs.RunLaws.{run_gathered, run_noting, run_used, run_lines}
use Rattle.file_check.proofs.StructLemmas.{flat_more}

-- checks in order, and the code of all
pub order_run : (meanings : Key → Meaning) (checks : List UnitCheck) (log : Logged Key Line) → run meanings (in_order checks) log ≡ gathered (λ us vs. us ++ vs) meanings (Some []) checks log
order_run meanings checks log = run_gathered meanings (λ (us vs : List CodeUnit). us ++ vs) (flat_map (λ (us : List CodeUnit). us)) (flat_more (λ (us : List CodeUnit). us)) checks log

pub of_struct_run : (meanings : Key → Meaning) (f : Site) (context : List ℕ) (d : Extension) (log : Logged Key Line) →
    run meanings (extension_of_struct f context d) log ≡ run meanings (extension_members f context (Some (ty.Struct context)) d) (made orders meanings (laid_out (place_of d.name) (ty.Struct context)) log).1
of_struct_run meanings f context d log =
    let members = extension_members f context (Some (ty.Struct context)) d in
    run_noting meanings (used (laid_out (place_of d.name) (ty.Struct context))) members log
    ∙ ap (λ m. run meanings members m.1) (run_used meanings (laid_out (place_of d.name) (ty.Struct context)) log)

pub of_none_run : (meanings : Key → Meaning) (f : Site) (context : List ℕ) (d : Extension) (log : Logged Key Line) →
    run meanings (extension_of_none f context d) log ≡ run meanings (hushed (extension_members f context None d)) (saying orders log (line (place_of d.name) (is.NotAStruct d.name.text) ∷ []))
of_none_run meanings f context d log =
    let lines = line (place_of d.name) (is.NotAStruct d.name.text) ∷ [] in
    let members = hushed (extension_members f context None d) in
    run_noting meanings (lines_of lines) members log ∙ ap (λ m. run meanings members m.1) (run_lines meanings lines log)

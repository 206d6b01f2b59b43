-- What is made of structs.
use Rattle.std.proofs.Common.{◌≡◌, ℕ, List, [], ◌∷◌, ◌++◌, ◌+◌, Option, Some, None, map, flat_map, refl, sym, ap, ◌∙◌, append_assoc}
use Rattle.queries.specs.Queries.{Done, Fetch, value_with}
use Rattle.dep_key.specs.declared.key.Key.{Key}
use Rattle.type_rules.specs.declared.meaning.Meaning.{Meaning}
use Rattle.type_rules.specs.declared.meaning.Meaning.TheVariants as means
use Rattle.swift_ast.specs.declared.declarations.Access.{Access}
use Rattle.swift_ast.specs.declared.declarations.Struct.{Struct}
use Rattle.swift_ast.specs.declared.declarations.StructMember.{StructMember}
use Rattle.swift_ast.specs.declared.declarations.StructMember.TheVariants as part
use Rattle.checks.specs.Checks.{behind, on_value, sure, go_on, both, and_then, paired, noting, all}
use Rattle.checks.specs.Logs.{Logged, made_then, saying}
use Rattle.checks.specs.OwnKeys.{owned}
use Rattle.expr_check.specs.declared.line.Line.{Line}
use Rattle.expr_check.specs.Messages.{orders}
use Rattle.expr_check.specs.Types.{CheckOf}
use Rattle.type_rules.specs.declared.ty.Ty.{Ty}
use Rattle.type_rules.specs.declared.ty.Ty.TheVariants as ty
use Rattle.dep_key.specs.KeyBuilders.{member}
use Rattle.body_check.specs.Declarations.{Site, name_in_keys, MemberCode, circle, lines_of, too_large, words, property_words, member_words, stored_words, size_check, struct_member_check, struct_units}
use Rattle.file_check.specs.StructSizes.{added, all_words, size_lines, sized}
use Rattle.file_check.specs.Members.{code_of, more, mapped, struct_code, struct_fields}
use Rattle.file_check.specs.Runs.{Made, run, gathered}
use Rattle.file_check.proofs.DeclarationLemmas.{run_owned}
use Rattle.file_check.proofs.MemberLemmas.{nothing_more}
use Rattle.file_check.proofs.RunLaws.{run_bind, run_noting, run_lines, all_gathered}

-- ---- sizes

-- a task that says nothing, and its value
pub record IsQuiet (meanings : Key → Meaning) (check : CheckOf ℕ) (value : Option ℕ) : Type 0 where
  pub errors : (value_with meanings check).errors ≡ []
  pub value_is : (value_with meanings check).value ≡ value

quiet_words : (meanings : Key → Meaning) (of : Ty) → (value_with meanings (words of)).errors ≡ []
quiet_words meanings ty.Int = refl
quiet_words meanings ty.String = refl
quiet_words meanings ty.Bool = refl
quiet_words meanings ty.Void = refl
quiet_words meanings (ty.Struct context) = refl

quiet_property : (meanings : Key → Meaning) (m : Meaning) → (value_with meanings (property_words m)).errors ≡ []
quiet_property meanings means.NoProvider = refl
quiet_property meanings means.Ambiguous = refl
quiet_property meanings means.Broken = refl
quiet_property meanings means.Circular = refl
quiet_property meanings (means.Value mutable of) = quiet_words meanings of
quiet_property meanings (means.Function params result) = refl
quiet_property meanings (means.Struct context) = refl
quiet_property meanings (means.Alias of) = refl
quiet_property meanings (means.Fields fields words) = refl

quiet_member : (meanings : Key → Meaning) (f : Site) (context : List ℕ) (m : Option Access × StructMember) → (value_with meanings (member_words f context m)).errors ≡ []
quiet_member meanings f context (access, part.Stored d) = quiet_property meanings (meanings (member context (name_in_keys f access d.name)))
quiet_member meanings f context (access, part.Computed d) = refl
quiet_member meanings f context (access, part.Func d) = refl

sum_done : (meanings : Key → Meaning) (before : List Line) (one other : Option ℕ) →
    value_with meanings (behind {X = ℕ} before (on_value (paired one other) (λ p. sure (p.0 + p.1)))) ≡ record { errors = before ++ []; value = added one other }
sum_done meanings before None other = refl
sum_done meanings before (Some x) None = refl
sum_done meanings before (Some x) (Some y) = refl

-- what a sum gives
sum_behind : (meanings : Key → Meaning) (before : List Line) (one : Option ℕ) (rest : CheckOf ℕ) →
    value_with meanings (go_on (behind before (and_then one rest)) (λ p. sure (p.0 + p.1))) ≡ record { errors = (before ++ (value_with meanings rest).errors) ++ []; value = added one (value_with meanings rest).value }
sum_behind meanings before one (Done c) = sum_done meanings (before ++ c.errors) one c.value
sum_behind meanings before one (Fetch k g) = sum_behind meanings before one (g (meanings k))

sum_of : (meanings : Key → Meaning) (one rest : CheckOf ℕ) →
    value_with meanings (go_on (both one rest) (λ p. sure (p.0 + p.1)))
    ≡ record { errors = ((value_with meanings one).errors ++ (value_with meanings rest).errors) ++ []; value = added (value_with meanings one).value (value_with meanings rest).value }
sum_of meanings (Done c) rest = sum_behind meanings c.errors c.value rest
sum_of meanings (Fetch k g) rest = sum_of meanings (g (meanings k)) rest

stored_quiet : (meanings : Key → Meaning) (f : Site) (context : List ℕ) (members : List (Option Access × StructMember)) → IsQuiet meanings (stored_words f context members) (all_words meanings f context members)
stored_quiet meanings f context [] = record { errors = refl; value_is = refl }
stored_quiet meanings f context (m ∷ members) =
    let rest = stored_quiet meanings f context members in
    let sum = sum_of meanings (member_words f context m) (stored_words f context members) in
    record {
      errors = ap (λ c. c.errors) sum ∙ ap (λ es. (es ++ (value_with meanings (stored_words f context members)).errors) ++ []) (quiet_member meanings f context m) ∙ ap (λ es. es ++ []) rest.errors;
      value_is = ap (λ c. c.value) sum ∙ ap (λ v. added (value_with meanings (member_words f context m)).value v) rest.value_is;
    }

size_log : (meanings : Key → Meaning) (d : Struct) (words : Option ℕ) (log : Logged Key Line) →
    (made_then (words, log) (λ w log. run meanings (lines_of (too_large d.name w)) log)).1 ≡ saying orders log (size_lines d.name words)
size_log meanings d None log = refl
size_log meanings d (Some w) log = ap (λ m. m.1) (run_lines meanings (too_large d.name w) log)

owned_size : (meanings : Key → Meaning) (f : Site) (context : List ℕ) (d : Struct) (log : Logged Key Line) →
    (run meanings (go_on (owned (stored_words f context d.members)) (λ w. lines_of (too_large d.name w))) log).1 ≡ saying orders log (size_lines d.name (all_words meanings f context d.members))
owned_size meanings f context d log =
    let quiet = stored_quiet meanings f context d.members in
    ap (λ m. m.1) (run_bind meanings (owned (stored_words f context d.members)) (λ w. lines_of (too_large d.name w)) log)
    ∙ ap (λ m. (made_then m (λ w log. run meanings (lines_of (too_large d.name w)) log)).1) (run_owned meanings (stored_words f context d.members) log ∙ (λ i. (quiet.value_is i, saying orders log (quiet.errors i))))
    ∙ size_log meanings d (all_words meanings f context d.members) log

size_run : (meanings : Key → Meaning) (f : Site) (context : List ℕ) (d : Struct) (m : Meaning) (log : Logged Key Line) → (run meanings (size_check f context d m) log).1 ≡ saying orders log (sized meanings f context d m)
unfolding run
size_run meanings f context d means.Ambiguous log = refl
size_run meanings f context d means.NoProvider log = owned_size meanings f context d log
size_run meanings f context d means.Broken log = owned_size meanings f context d log
size_run meanings f context d means.Circular log = owned_size meanings f context d log
size_run meanings f context d (means.Value mutable of) log = owned_size meanings f context d log
size_run meanings f context d (means.Function params result) log = owned_size meanings f context d log
size_run meanings f context d (means.Struct other) log = owned_size meanings f context d log
size_run meanings f context d (means.Alias of) log = owned_size meanings f context d log
size_run meanings f context d (means.Fields fields words) log = owned_size meanings f context d log

-- ---- members

-- one more of a list, flattened
pub flat_more : {X Y : Type 0} (f : X → List Y) (xs : List X) (x : X) → flat_map f (xs ++ x ∷ []) ≡ flat_map f xs ++ f x
flat_more f [] x = sym (nothing_more (f x))
flat_more f (y ∷ xs) x = ap (λ zs. f y ++ zs) (flat_more f xs x) ∙ sym (append_assoc (f y) (flat_map f xs) (f x))

abbrev members_code : List MemberCode → MemberCode
members_code ms = code_of (flat_map (λ m. m.initials) ms) (flat_map (λ m. m.units) ms)

mapped_then : {X Y Z : Type 0} (h : Y → Z) (w : X → Y) (made : Made X) → made_then made (λ x log. (Some (h (w x)), log)) ≡ mapped h (made_then made (λ x log. (Some (w x), log)))
mapped_then h w (None, log) = refl
mapped_then h w (Some x, log) = refl

members_run : (meanings : Key → Meaning) (f : Site) (context : List ℕ) (d : Struct) (log : Logged Key Line) →
    run meanings (go_on (all (map (struct_member_check f context) d.members)) (λ members. sure (struct_units context members))) log
    ≡ mapped (struct_code context) (gathered more meanings (Some (code_of [] [])) (map (struct_member_check f context) d.members) log)
unfolding run
members_run meanings f context d log =
    let checks = map (struct_member_check f context) d.members in
    run_bind meanings (all checks) (λ members. sure (struct_units context members)) log
    ∙ mapped_then (struct_code context) members_code (run meanings (all checks) log)
    ∙ ap (λ m. mapped (struct_code context) m)
    (all_gathered meanings more members_code (λ ms m i. code_of (flat_more (λ m. m.initials) ms m i) (flat_more (λ m. m.units) ms m i)) (Some []) checks log)

pub fields_run : (meanings : Key → Meaning) (f : Site) (context : List ℕ) (d : Struct) (fields : Meaning) (log : Logged Key Line) →
    run meanings (struct_fields f context d fields) log
    ≡ mapped (struct_code context) (gathered more meanings (Some (code_of [] [])) (map (struct_member_check f context) d.members) (saying orders (saying orders log (circle d.name fields)) (sized meanings f context d fields)))
fields_run meanings f context d fields log =
    let members = go_on (all (map (struct_member_check f context) d.members)) (λ members. sure (struct_units context members)) in
    run_noting meanings (lines_of (circle d.name fields)) (noting (size_check f context d fields) members) log
    ∙ ap (λ m. run meanings (noting (size_check f context d fields) members) m.1) (run_lines meanings (circle d.name fields) log)
    ∙ run_noting meanings (size_check f context d fields) members (saying orders log (circle d.name fields))
    ∙ ap (λ l. run meanings members l) (size_run meanings f context d fields (saying orders log (circle d.name fields)))
    ∙ members_run meanings f context d (saying orders (saying orders log (circle d.name fields)) (sized meanings f context d fields))

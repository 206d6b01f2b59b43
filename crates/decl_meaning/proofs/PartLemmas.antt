-- Parameters and stored properties that are read one after another.
use Rattle.std.proofs.Common.{◌≡◌, ℕ, Bool, List, [], ◌∷◌, Option, Some, None, refl, sym, ap, ◌∙◌}
use Rattle.std.specs.Option.{option_map}
use Rattle.std.proofs.lemmas.List.{append_assoc, append-nil}
use Rattle.queries.specs.Queries.{Done, ◌>>=◌}
use Rattle.dep_key.specs.declared.key.Key.{Key}
use Rattle.swift_ast.specs.declared.declarations.Param.{Param}
use Rattle.type_rules.specs.declared.ty.Ty.{Ty}
use Rattle.type_rules.specs.declared.meaning.Meaning.{Meaning}
use Rattle.type_rules.specs.declared.meaning.Meaning.TheVariants as means
use Rattle.type_rules.specs.declared.meaning.Parameter.{Parameter}
use Rattle.checks.specs.Checks.{appended}
use Rattle.type_infer.specs.Readings.{Query, written_type, parameter, label_of, cons_known, params_query, StoredName, Measured, measured, words_query, measured_query, all_measured}
use Rattle.decl_meaning.specs.Asking.{read, joined, behind}
use Rattle.decl_meaning.specs.Parts.{one_param, one_measured}
use Rattle.decl_meaning.proofs.ReadLemmas.{read_bind}

joined_one : {X : Type 0} (before : Option (List X)) (one : Option X) (rest : Option (List X)) → joined (appended before one) rest ≡ joined before (cons_known one rest)
joined_one None one rest = refl
joined_one (Some xs) None rest = refl
joined_one (Some xs) (Some x) None = refl
joined_one (Some xs) (Some x) (Some ys) = ap Some (append_assoc xs (x ∷ []) ys)

pub behind_nothing : {X : Type 0} (found : Option (List X)) (asked : List Key) → behind (Some []) (found, asked) ≡ (found, asked)
behind_nothing None asked = refl
behind_nothing (Some xs) asked = refl

pub behind_end : {X : Type 0} (before : Option (List X)) (asked : List Key) → behind before (Some [], asked) ≡ (before, asked)
behind_end None asked = refl
behind_end (Some xs) asked = ap (λ l. (Some l, asked)) (append-nil xs)

-- one behind what was found, and then the rest
goes_on : {X : Type 0} (m : Key → Meaning) (before : Option (List X)) (one : Option X) (rest : Query (Option (List X))) (asked : List Key) →
    behind (appended before one) (read m rest asked) ≡ behind before (read m (rest >>= (λ more. Done (cons_known one more))) asked)
goes_on m before one rest asked = (λ i. (joined_one before one (read m rest asked).0 i, (read m rest asked).1)) ∙ ap (behind before) (sym (read_bind m rest (λ more. Done (cons_known one more)) asked))

pub param_read : (m : Key → Meaning) (path : List ℕ) (p : Param) (of : Option Ty) (asked after : List Key) → (of, after) ≡ read m (written_type path p.type_name) asked → (option_map (parameter (label_of p)) of, after) ≡ read m (one_param path p) asked
unfolding one_param
param_read m path p of asked after h = ap (λ r. (option_map (parameter (label_of p)) r.0, r.1)) h ∙ sym (read_bind m (written_type path p.type_name) (λ of. Done (option_map (parameter (label_of p)) of)) asked)

pub param_step : (m : Key → Meaning) (path : List ℕ) (p : Param) (before : Option (List Parameter)) (one : Option Parameter) (asked after : List Key) → (one, after) ≡ read m (one_param path p) asked →
    (rest : List Param) → behind (appended before one) (read m (params_query path rest) after) ≡ behind before (read m (params_query path (p ∷ rest)) asked)
unfolding one_param
param_step m path p before one asked after h rest =
    let w : Option Ty × List Key = read m (written_type path p.type_name) asked in
    let got : (one, after) ≡ (option_map (parameter (label_of p)) w.0, w.1) = h ∙ read_bind m (written_type path p.type_name) (λ of. Done (option_map (parameter (label_of p)) of)) asked in
    ap (λ r. behind (appended before r.0) (read m (params_query path rest) r.1)) got
    ∙ goes_on m before (option_map (parameter (label_of p)) w.0) (params_query path rest) w.1
    ∙ ap (behind before) (sym (read_bind m (written_type path p.type_name) (λ of. params_query path rest >>= (λ more. Done (cons_known (option_map (parameter (label_of p)) of) more))) asked))

pub measured_read : (m : Key → Meaning) (s : StoredName) (mutable : Bool) (of : Ty) (words : Option ℕ) (asked after : List Key) → (words, after) ≡ read m (words_query of) asked →
    (option_map (measured s mutable of) words, after) ≡ read m (measured_query s (means.Value mutable of)) asked
measured_read m s mutable of words asked after h = ap (λ r. (option_map (measured s mutable of) r.0, r.1)) h ∙ sym (read_bind m (words_query of) (λ words. Done (option_map (measured s mutable of) words)) asked)

pub measured_step : (m : Key → Meaning) (context : List ℕ) (s : StoredName) (before : Option (List Measured)) (one : Option Measured) (asked after : List Key) → (one, after) ≡ read m (one_measured context s) asked →
    (rest : List StoredName) → behind (appended before one) (read m (all_measured context rest) after) ≡ behind before (read m (all_measured context (s ∷ rest)) asked)
unfolding one_measured
measured_step m context s before one asked after h rest =
    ap (λ r. behind (appended before r.0) (read m (all_measured context rest) r.1)) h
    ∙ goes_on m before (read m (one_measured context s) asked).0 (all_measured context rest) (read m (one_measured context s) asked).1
    ∙ ap (behind before) (sym (read_bind m (one_measured context s) (λ one. all_measured context rest >>= (λ more. Done (cons_known one more))) asked))

-- The names of a build's outputs are those that are asked for.
use Rattle.std.proofs.Common.{◌≡◌, ℕ, ◌+◌, ◌≤◌, Bool, true, false, ◌||◌, cond, List, [], ◌∷◌, ◌++◌, nat_eq, arith, refl, sym, ap, subst, ◌∙◌, All, append_assoc}
use Rattle.std.specs.Prelude.{flat_map}
use Rattle.std.specs.List.{AllByRecursion, list_all, list_any, count_by}
use Rattle.std.specs.Ordering.{nat_cmp, eq_by_cmp}
use Rattle.std.specs.Cmp.{eq_by_cmp_equiv}
use Rattle.std.specs.Cmp.Lexicographic.{slice_cmp, pointwise, nat_list_cmp_total, texts_ties}
use Rattle.std.proofs.lemmas.List.Elements.{All-from_recursion, recursion_from_All}
use Rattle.dep_key.specs.declared.graph.FileGraph.{FileGraph}
use Rattle.disk_commit.specs.Change.{opened_folder}
use Rattle.disk_commit.specs.Files.{is_named}
use Rattle.disk_commit.specs.declared.files.File.{File}
use Rattle.disk_images.specs.Laws.{TrustsByGate}
use Rattle.drv_outside.specs.Disk.{Folder, Durably}
use Rattle.drv_outside.specs.TreeState.{TreeState, disk_of}
use Rattle.file_map.specs.Assigned.{all_names, names_of_file}
use Rattle.file_map.specs.Repeated.{AreDistinct}
use Rattle.file_map.specs.declared.names.FileNames.{FileNames}
use Rattle.file_map.specs.declared.names.Names.{Names}
use Rattle.ordered_lists.specs.Repeats.{times}
use Rattle.ordered_lists.proofs.RepeatsLemmas.{times-push}
use Rattle.std.proofs.lemmas.List.Sums.{sum_by-cons}
use Rattle.module_compile.specs.declared.compiled.Outcome.{Outcome}
use Rattle.module_compile.specs.declared.compiled.Outcome.TheVariants.{Texts, Errors}
use Rattle.driver_build.specs.Outputs.{AreOutputs, AreOutputsOfFiles, AreFileOutputs, AreOutcomeOutputs, AreModuleOutputsIf}
use Rattle.driver_build.specs.Results.{is_clean}
use Rattle.driver_build.specs.Wanted.{Wanted}
use Rattle.driver_build.specs.declared.results.FileResult.{FileResult}
use Rattle.driver_build.specs.declared.results.FileResult.TheVariants.{Compiled, Kept}
use Rattle.driver_build.proofs.ReplacingLemmas.{MayReplace}

-- all names but the gate's
abbrev pub output_names : Names → List (List ℕ)
output_names names = flat_map names_of_file names.files ++ names.«module» ∷ names.image ∷ names.priors ∷ names.build_record ∷ []

module _ (X : Type 0) (Q : X → Type 0) where
  both : (xs ys : List X) → AllByRecursion Q xs → AllByRecursion Q ys → AllByRecursion Q (xs ++ ys)
  both [] ys a b = b
  both (x ∷ xs) ys a b = (a.0, both xs ys a.1 b)

  first : (xs ys : List X) → AllByRecursion Q (xs ++ ys) → AllByRecursion Q xs
  first [] ys all = tt
  first (x ∷ xs) ys all = (all.0, first xs ys all.1)

  second : (xs ys : List X) → AllByRecursion Q (xs ++ ys) → AllByRecursion Q ys
  second [] ys all = all
  second (x ∷ xs) ys all = second xs ys all.1

-- a file has a name that is so
abbrev Named : (List ℕ → Type 0) → File → Type 0
Named P file = P file.name

outcome_named : (P : List ℕ → Type 0) (names : FileNames) (graph : FileGraph) (outcome : Outcome) (made : List File) → AllByRecursion P (names_of_file names) → AreOutcomeOutputs names graph outcome made → AllByRecursion (Named P) made
outcome_named P names graph (Texts texts) made all are =
    subst (λ m. AllByRecursion (Named P) m) (sym are.2) (all.0, (all.1.0, (subst P (sym are.1.0) all.1.1.0, tt)))
outcome_named P names graph (Errors errors) made all are = subst (λ m. AllByRecursion (Named P) m) (sym are) tt

file_named : (P : List ℕ → Type 0) (names : FileNames) (file : FileResult) (made : List File) → AllByRecursion P (names_of_file names) → AreFileOutputs names file made → AllByRecursion (Named P) made
file_named P names (Compiled compiled) made all are = outcome_named P names compiled.graph compiled.outcome made all are
file_named P names (Kept texts) made all are = subst (λ m. AllByRecursion (Named P) m) (sym are) tt

files_named : (P : List ℕ → Type 0) (names : List FileNames) (files : List FileResult) (made : List File) → AllByRecursion P (flat_map names_of_file names) → AreOutputsOfFiles names files made → AllByRecursion (Named P) made
files_named P [] files made all are = subst (λ m. AllByRecursion (Named P) m) (sym are) tt
files_named P (names ∷ more) [] made all are = subst (λ m. AllByRecursion (Named P) m) (sym are) tt
files_named P (names ∷ more) (file ∷ files) made all are =
    subst (λ m. AllByRecursion (Named P) m) (sym are.4) (both File (Named P) are.0 are.1
    (file_named P names file are.0 (first (List ℕ) P (names_of_file names) (flat_map names_of_file more) all) are.2)
    (files_named P more files are.1 (second (List ℕ) P (names_of_file names) (flat_map names_of_file more) all) are.3))

module_named : (P : List ℕ → Type 0) (linked : Bool) (wanted : Wanted) (files : List FileResult) (made : List File) → P wanted.names.«module» → P wanted.names.image → AreModuleOutputsIf linked wanted files made → AllByRecursion (Named P) made
module_named P true wanted files made one two are = subst (λ m. AllByRecursion (Named P) m) (sym are.4) (subst P (sym are.2.0) one, (subst P (sym are.3.0) two, tt))
module_named P false wanted files made one two are = subst (λ m. AllByRecursion (Named P) m) (sym are) tt

-- What is so of all names that are asked for is so of the outputs' names.
outputs_named : (P : List ℕ → Type 0) (wanted : Wanted) (files : List FileResult) (graphs : List FileGraph) (made : List File) → AllByRecursion P (output_names wanted.names) → AreOutputs wanted files graphs made → AllByRecursion (Named P) made
outputs_named P wanted files graphs made all are =
    let names = flat_map names_of_file wanted.names.files in
    let of_module = wanted.names.«module» ∷ wanted.names.image ∷ wanted.names.priors ∷ wanted.names.build_record ∷ [] in
    let last = second (List ℕ) P names of_module all in
    subst (λ m. AllByRecursion (Named P) m) (sym are.is) (both File (Named P) are.of_files _
    (files_named P wanted.names.files files are.of_files (first (List ℕ) P names of_module all) are.are_of_files)
    (both File (Named P) are.of_module _
    (module_named P (list_all is_clean files) wanted files are.of_module last.0 last.1.0 are.are_of_module)
    (subst P (sym are.are_priors.0) last.1.1.0, (last.1.1.1.0, tt))))

-- all names, with the gate's at the end
split : (names : Names) → all_names names ≡ output_names names ++ names.gate ∷ []
split names = sym (append_assoc (flat_map names_of_file names.files) (names.«module» ∷ names.image ∷ names.priors ∷ names.build_record ∷ []) (names.gate ∷ []))

pub outputs_have_names : (P : List ℕ → Type 0) (wanted : Wanted) (files : List FileResult) (graphs : List FileGraph) (made : List File) → All P (all_names wanted.names) → AreOutputs wanted files graphs made → All (λ (file : File). P file.name) made
outputs_have_names P wanted files graphs made all are =
    All-from_recursion (λ (file : File). P file.name) made (outputs_named P wanted files graphs made
    (first (List ℕ) P (output_names wanted.names) (wanted.names.gate ∷ []) (subst (λ ns. AllByRecursion P ns) (split wanted.names) (recursion_from_All P (all_names wanted.names) all))) are)

-- ---- the gate

-- another name than this one
abbrev IsOther : List ℕ → List ℕ → Type 0
IsOther gate name = pointwise nat_eq name gate ≡ false

is-pointwise : (q name : List ℕ) → pointwise nat_eq name q ≡ eq_by_cmp (slice_cmp nat_cmp) q name
is-pointwise q name = texts_ties name q ∙ (eq_by_cmp_equiv nat_list_cmp_total).symm name q

swapped : (name gate : List ℕ) → pointwise nat_eq name gate ≡ false → pointwise nat_eq gate name ≡ false
swapped name gate e = texts_ties gate name ∙ sym (is-pointwise gate name) ∙ e

no_one : (b : Bool) → ◌≡◌ {A = ℕ} (cond b 1 0) 0 → b ≡ false
no_one true e = cc
no_one false e = refl

abbrev one_of : List ℕ → ℕ
one_of name = cond (eq_by_cmp (slice_cmp nat_cmp) name name) 1 0

-- a name that stands no time among others is another than each
none_is : (gate : List ℕ) (names : List (List ℕ)) → times (slice_cmp nat_cmp) gate names ≡ 0 → AllByRecursion (IsOther gate) names
none_is gate [] none = tt
none_is gate (name ∷ names) none =
    let parts : times (slice_cmp nat_cmp) gate (name ∷ names) ≡ cond (eq_by_cmp (slice_cmp nat_cmp) gate name) 1 0 + times (slice_cmp nat_cmp) gate names = sum_by-cons (λ n. cond (eq_by_cmp (slice_cmp nat_cmp) gate n) 1 0) name names in
    let rest : times (slice_cmp nat_cmp) gate names ≡ 0 = omega (arith, parts, none) in
    let here : cond (eq_by_cmp (slice_cmp nat_cmp) gate name) 1 0 ≡ 0 = omega (arith, parts, none) in
    (is-pointwise gate name ∙ no_one (eq_by_cmp (slice_cmp nat_cmp) gate name) here, none_is gate names rest)

-- The gate's name is none of the others.
gate_apart : (names : Names) → AreDistinct (all_names names) → AllByRecursion (IsOther names.gate) (output_names names)
gate_apart names distinct =
    let order = slice_cmp nat_cmp in
    let split_times : times order names.gate (all_names names) ≡ times order names.gate (output_names names) + one_of names.gate = ap (times order names.gate) (split names) ∙ times-push nat_list_cmp_total names.gate names.gate (output_names names) in
    let itself : one_of names.gate ≡ 1 = ap (λ b. cond b 1 0) ((eq_by_cmp_equiv nat_list_cmp_total).refl names.gate) in
    let most : times order names.gate (all_names names) ≤ 1 = distinct names.gate in
    none_is names.gate (output_names names) (omega (arith, split_times, itself, most))

none_named : (gate : List ℕ) (made : List File) → AllByRecursion (Named (IsOther gate)) made → is_named made gate ≡ false
none_named gate [] all = refl
none_named gate (file ∷ made) all = λ i. all.0 i || none_named gate made all.1 i

pub may_replace : (P : Folder → Type 0) (wanted : Wanted) (files : List FileResult) (graphs : List FileGraph) (outputs : List File) (t : TreeState) → AreDistinct (all_names wanted.names) → AreOutputs wanted files graphs outputs
    → TrustsByGate wanted.names.gate wanted.names.build_record P → P (opened_folder wanted.names.gate outputs) → Durably P (disk_of t) → MayReplace wanted.names outputs P t
may_replace P wanted files graphs outputs t distinct are trusts changed trusted =
    let apart = gate_apart wanted.names distinct in
    let of_module = wanted.names.«module» ∷ wanted.names.image ∷ wanted.names.priors ∷ wanted.names.build_record ∷ [] in
    let last = second (List ℕ) (IsOther wanted.names.gate) (flat_map names_of_file wanted.names.files) of_module apart in
    record {
      trusts = trusts;
      apart = swapped wanted.names.build_record wanted.names.gate last.1.1.1.0;
      no_gate = none_named wanted.names.gate outputs (outputs_named (IsOther wanted.names.gate) wanted files graphs outputs apart are);
      changed = changed;
      trusted = trusted;
    }

-- What is so of all names is so of the gate's and of the record's.
pub gate_has_name : (P : List ℕ → Type 0) (names : Names) → All P (all_names names) → P names.gate
gate_has_name P names all = (second (List ℕ) P (output_names names) (names.gate ∷ []) (subst (λ ns. AllByRecursion P ns) (split names) (recursion_from_All P (all_names names) all))).0

pub record_has_name : (P : List ℕ → Type 0) (names : Names) → All P (all_names names) → P names.build_record
record_has_name P names all =
    (second (List ℕ) P (flat_map names_of_file names.files) (names.«module» ∷ names.image ∷ names.priors ∷ names.build_record ∷ [])
    (first (List ℕ) P (output_names names) (names.gate ∷ []) (subst (λ ns. AllByRecursion P ns) (split names) (recursion_from_All P (all_names names) all)))).1.1.1.0

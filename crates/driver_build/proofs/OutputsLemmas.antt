-- Outputs that are made one after another.
use Rattle.std.proofs.Common.{◌≡◌, ℕ, ◌+◌, Bool, true, All, ◌&&◌, List, [], ◌∷◌, ◌++◌, drop, length, refl, sym, ap, subst, ◌∙◌, append_assoc, append-nil}
use Rattle.std.specs.List.{list_all}
use Rattle.std.specs.Prelude.{IsTrue}
use Rattle.std.proofs.lemmas.Bool.{and_parts}
use Rattle.std.proofs.lemmas.List.Elements.{All-nil, All-cons}
use Rattle.build_record.specs.declared.record.FileState.{FileState}
use Rattle.disk_commit.specs.declared.files.File.{File}
use Rattle.drv_outside.specs.declared.types.Entry.{Entry}
use Rattle.file_map.specs.declared.names.FileNames.{FileNames}
use Rattle.driver_build.specs.Outputs.{AreFileOutputs, AreOutputsOfFiles, file_states}
use Rattle.driver_build.specs.Results.{is_clean}
use Rattle.driver_build.specs.declared.results.FileResult.{FileResult}

states_of_none : (entries : List Entry) → file_states entries [] ≡ []
states_of_none [] = refl
states_of_none (entry ∷ entries) = refl

-- nothing is left
pub all_states : (entries : List Entry) (files : List FileResult) (place : ℕ) (states : List FileState) → drop place files ≡ []
    → states ++ file_states (drop place entries) (drop place files) ≡ file_states entries files → states ≡ file_states entries files
all_states entries files place states none so_far =
    sym (append-nil states) ∙ ap (λ s. states ++ s) (sym (ap (file_states (drop place entries)) none ∙ states_of_none (drop place entries))) ∙ so_far

no_outputs : (names : List FileNames) → AreOutputsOfFiles names [] []
no_outputs [] = refl
no_outputs (names ∷ more) = refl

-- no file is left
pub all_outputs : (names : List FileNames) (place : ℕ) (files left : List FileResult) (made : List File) → length left ≡ 0
    → ((rest : List File) → AreOutputsOfFiles (drop place names) left rest → AreOutputsOfFiles names files (made ++ rest)) → AreOutputsOfFiles names files made
all_outputs names place files [] made none so_far = subst (λ m. AreOutputsOfFiles names files m) (append-nil made) (so_far [] (no_outputs (drop place names)))
all_outputs names place files (file ∷ left) made none so_far = cc

-- the outputs of one file more
pub outputs_step : (names : List FileNames) (place : ℕ) (own_names : FileNames) (files : List FileResult) (file : FileResult) (others : List FileResult) (made own more : List File) → drop place names ≡ own_names ∷ drop (place + 1) names
    → AreFileOutputs own_names file own → more ≡ made ++ own
    → ((rest : List File) → AreOutputsOfFiles (drop place names) (file ∷ others) rest → AreOutputsOfFiles names files (made ++ rest))
    → (rest : List File) → AreOutputsOfFiles (drop (place + 1) names) others rest → AreOutputsOfFiles names files (more ++ rest)
outputs_step names place own_names files file others made own more here are pushed so_far = λ rest left.
    let whole : AreOutputsOfFiles (drop place names) (file ∷ others) (own ++ rest) = subst (λ ns. AreOutputsOfFiles ns (file ∷ others) (own ++ rest)) (sym here) (own, rest, are, left, refl) in
    let same : more ++ rest ≡ made ++ (own ++ rest) = ap (λ m. m ++ rest) pushed ∙ append_assoc made own rest in
    subst (λ m. AreOutputsOfFiles names files m) (sym same) (so_far (own ++ rest) whole)

-- what passes a test is so
pub all_of : {X : Type 0} (p : X → Bool) (xs : List X) → list_all p xs ≡ true → All (λ x. IsTrue (p x)) xs
all_of p [] passes = All-nil (λ x. IsTrue (p x))
all_of p (x ∷ xs) passes = All-cons (λ y. IsTrue (p y)) x xs (and_parts (p x) (list_all p xs) passes).0 (all_of p xs (and_parts (p x) (list_all p xs) passes).1)

-- A memo with the answers of all keys has what each key means.
use Rattle.std.proofs.Common.{◌≡◌, true, false, cond, List, [], ◌∷◌, ◌++◌, Option, Some, refl, sym, ap, ◌∙◌, subst, ◌⊎◌, inl, inr, map}
use Rattle.std.specs.Prelude.{flat_map}
use Rattle.std.proofs.lemmas.List.{append_assoc}
use Rattle.std.proofs.lemmas.Grind.{flat_map-append}
use Rattle.queries.specs.Queries.{Among, IsBelow, seen, solution, known_or}
use Rattle.queries.proofs.Solution.{solution-nothing}
use Rattle.query_evaluator.specs.Memos.{kept, known}
use Rattle.dep_key.specs.declared.key.Key.{Key}
use Rattle.swift_ast.specs.declared.declarations.FileTree.{FileTree}
use Rattle.decl_index.specs.Declarations.{Declaration, declarations_in, file_keys}
use Rattle.type_rules.specs.declared.meaning.Meaning.{Meaning}
use Rattle.type_rules.specs.declared.meaning.Meaning.TheVariants as means
use Rattle.type_infer.specs.Meanings.{rules, module_keys, meaning_in}
use Rattle.type_infer.proofs.Ending.{listing}
use Rattle.decl_meaning.specs.Settled.{AreAnswered, IsSettled}

pub settled : (files : List FileTree) (memo : Key → Option (Option Meaning)) → AreAnswered files memo (module_keys files) → IsSettled files memo
unfolding meaning_in
settled files memo answered = record {
  at = λ key.
      let same : seen (rules files) (known memo) key ≡ solution (rules files) (module_keys files) key =
      (elim ((rules files).has key) as (λ v. (rules files).has key ≡ v → cond v (known memo key) (Some means.NoProvider) ≡ solution (rules files) (module_keys files) key) [
        | true ↦ λ e. ap kept (answered.at key ((listing files).listed key e))
        | false ↦ λ e. sym (solution-nothing (rules files) (module_keys files) (listing files) key e)
      ]) refl in
      ap (known_or means.Circular) same;
}

keys_among : (ds : List Declaration) → flat_map (λ one. one) (map (λ d. d.keys) ds) ≡ flat_map (λ d. d.keys) ds
keys_among [] = refl
keys_among (d ∷ ds) = ap (λ l. d.keys ++ l) (keys_among ds)

-- the keys of a file, and then those of the others
pub keys_first : (file : FileTree) (files : List FileTree) (before : List Key) → (before ++ flat_map (λ one. one) (file_keys file)) ++ module_keys files ≡ before ++ module_keys (file ∷ files)
keys_first file files before =
    append_assoc before (flat_map (λ one. one) (file_keys file)) (module_keys files)
    ∙ ap (λ l. before ++ l) (ap (λ l. l ++ module_keys files) (keys_among (declarations_in file)) ∙ sym (flat_map-append (λ d. d.keys) (declarations_in file) (flat_map declarations_in files)))

-- of the keys of a list, those that are left are answered later
abbrev pub AreAnsweredBut : List FileTree → (Key → Option (Option Meaning)) → List Key → List Key → Type 0
AreAnsweredBut files memo keys rest = (key : Key) → Among keys key → (memo key ≡ Some (solution (rules files) (module_keys files) key)) ⊎ Among rest key

pub answered_one : (files : List FileTree) (memo after : Key → Option (Option Meaning)) (keys rest more : List Key) (key : Key) → AreAnsweredBut files memo keys rest → rest ≡ key ∷ more → IsBelow memo after →
    after key ≡ Some (solution (rules files) (module_keys files) key) → AreAnsweredBut files after keys more
answered_one files memo after keys rest more key so_far first kept here = λ k n. elim (so_far k n) [
  | inl e ↦ inl (kept.at k _ e)
  | inr left ↦ elim (subst (λ l. Among l k) first left) [ inl e ↦ inl (subst (λ z. after z ≡ Some (solution (rules files) (module_keys files) z)) e here) | inr later ↦ inr later ]
]

pub answered_all : (files : List FileTree) (memo : Key → Option (Option Meaning)) (keys rest : List Key) → AreAnsweredBut files memo keys rest → rest ≡ [] → AreAnswered files memo keys
answered_all files memo keys rest so_far none = record { at = λ key n. elim (so_far key n) [ inl e ↦ e | inr left ↦ absurd (subst (λ l. Among l key) none left) ] }

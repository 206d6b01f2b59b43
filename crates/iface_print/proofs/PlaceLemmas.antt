-- What the declarations of a file give, one place after another.
use Rattle.std.proofs.Common.{◌≡◌, ℕ, zero, suc, ◌+◌, List, [], ◌∷◌, ◌++◌, drop, Option, Some, None, refl, sym, ap, ◌∙◌, arith}
use Rattle.std.specs.Prelude.{flat_map, slice_get}
use Rattle.std.specs.Option.{option_and_then}
use Rattle.std.proofs.lemmas.List.{append_assoc}
use Rattle.swift_ast.specs.declared.declarations.FileTree.{FileTree}
use Rattle.decl_index.specs.Declarations.{Declaration, declarations_in}
use Rattle.decl_index.specs.Found.{declaration_at}
use Rattle.decl_index.specs.Providers.{reference}
use Rattle.iface_print.specs.Places.{declarations_if, declarations_of}

at-place : (files : List FileTree) (number place : ℕ) → declaration_at files (reference number place) ≡ slice_get (declarations_of files number) place
at-place files number place = elim (slice_get files number) as (λ (o : Option FileTree). option_and_then (λ (f : FileTree). slice_get (declarations_in f) place) o ≡ slice_get (declarations_if o) place) [ None ↦ refl | Some f ↦ refl ]

left-some : {X : Type 0} (xs : List X) (i : ℕ) (x : X) → slice_get xs i ≡ Some x → drop i xs ≡ x ∷ drop (i + 1) xs
left-some [] i x e = absurd cc
left-some (y ∷ xs) zero x e = let same : y ≡ x = cc in ap (λ z. z ∷ xs) same
left-some (y ∷ xs) (suc i) x e = let same : suc (i + 1) ≡ suc i + 1 = omega arith in left-some xs i x e ∙ ap (λ n. x ∷ drop n (y ∷ xs)) same

left-none : {X : Type 0} (xs : List X) (i : ℕ) → slice_get xs i ≡ None → drop i xs ≡ []
left-none [] zero e = refl
left-none [] (suc i) e = refl
left-none (y ∷ xs) zero e = absurd cc
left-none (y ∷ xs) (suc i) e = left-none xs i e

append-none : {X : Type 0} (xs : List X) → xs ++ [] ≡ xs
append-none [] = refl
append-none (x ∷ xs) = ap (λ l. x ∷ l) (append-none xs)

-- one more declaration
pub next_place : {X : Type 0} (g : Declaration → List X) (files : List FileTree) (number place : ℕ) (d : Declaration) (made after whole : List X) → declaration_at files (reference number place) ≡ Some d → after ≡ made ++ g d →
    made ++ flat_map g (drop place (declarations_of files number)) ≡ whole → after ++ flat_map g (drop (place + 1) (declarations_of files number)) ≡ whole
next_place g files number place d made after whole here grown so_far =
    let ds = declarations_of files number in
    let left : drop place ds ≡ d ∷ drop (place + 1) ds = left-some ds place d (sym (at-place files number place) ∙ here) in
    ap (λ l. l ++ flat_map g (drop (place + 1) ds)) grown ∙ append_assoc made (g d) (flat_map g (drop (place + 1) ds)) ∙ ap (λ l. made ++ flat_map g l) (sym left) ∙ so_far

-- and behind the last one
pub last_place : {X : Type 0} (g : Declaration → List X) (files : List FileTree) (number place : ℕ) (made whole : List X) → declaration_at files (reference number place) ≡ None →
    made ++ flat_map g (drop place (declarations_of files number)) ≡ whole → made ≡ whole
last_place g files number place made whole none so_far =
    let ds = declarations_of files number in
    let left : drop place ds ≡ [] = left-none ds place (sym (at-place files number place) ∙ none) in
    sym (append-none made) ∙ ap (λ l. made ++ flat_map g l) (sym left) ∙ so_far

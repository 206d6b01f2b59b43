-- The references of a key into a file stand for the declarations of the file that have it.
use Rattle.std.proofs.Common.{◌≡◌, ◌<◌, ℕ, zero, suc, ◌+◌, true, false, cond, List, [], ◌∷◌, ◌++◌, map, Some, refl, sym, ap, ◌∙◌, arith}
use Rattle.std.specs.Prelude.{◌==◌, flat_map, slice_get}
use Rattle.std.specs.List.{filter}
use Rattle.std.proofs.lemmas.Bool.Decides.{nat_tests}
use Rattle.std.proofs.lemmas.Grind.{flat_map-append}
use Rattle.queries.specs.Queries.{dependencies, value_with}
use Rattle.checks.specs.Logs.{set_of}
use Rattle.dep_key.specs.declared.key.Key.{Key}
use Rattle.dep_key.specs.KeyOrder.{key_order}
use Rattle.swift_ast.specs.declared.declarations.FileTree.{FileTree}
use Rattle.decl_index.specs.declared.index.DeclRef.{DeclRef}
use Rattle.decl_index.specs.Declarations.{Declaration, declarations_in, file_keys}
use Rattle.decl_index.specs.Found.{declaration_at}
use Rattle.decl_index.specs.Providers.{Entry, entries_at, entries_from, entries_of, found, is_key, providers, reference}
use Rattle.type_rules.specs.declared.meaning.Meaning.{Meaning}
use Rattle.type_infer.specs.Plain.{line_feed}
use Rattle.type_infer.specs.Meanings.{has_key, having}
use Rattle.type_infer.proofs.ListFacts.{filter-append}
use Rattle.type_infer.proofs.Indexed.{indexed}
use Rattle.iface_print.specs.Prints.{print_of, lines_of}
use Rattle.iface_print.specs.Nodes.{node_query}
use Rattle.iface_print.proofs.FileNodes.{node-value}
use Rattle.file_nodes.specs.Own.{own_at, from_own, from_all_own, joined, own_node}
use Rattle.file_nodes.specs.Graphs.{declaring, text_or_empty, node_print, node_uses, node_of}

same_number : (n : ℕ) → (n == n) ≡ true
same_number n = grind (arith, nat_tests)

map-append : {X Y : Type 0} (f : X → Y) (xs ys : List X) → map f (xs ++ ys) ≡ map f xs ++ map f ys
map-append f [] ys = refl
map-append f (x ∷ xs) ys = ap (λ l. f x ∷ l) (map-append f xs ys)

append-none : {X : Type 0} (xs : List X) → xs ++ [] ≡ xs
append-none [] = refl
append-none (x ∷ xs) = ap (λ l. x ∷ l) (append-none xs)

found-append : (key : Key) (xs ys : List Entry) → found key (xs ++ ys) ≡ found key xs ++ found key ys
found-append key xs ys = ap (map (λ (e : Entry). e.1)) (filter-append (λ (e : Entry). is_key key e.0) xs ys) ∙ map-append (λ (e : Entry). e.1) (filter (λ (e : Entry). is_key key e.0) xs) (filter (λ (e : Entry). is_key key e.0) ys)

from-append : {X : Type 0} (g : Declaration → List X) (files : List FileTree) (n : ℕ) (rs ss : List DeclRef) → from_all_own g files n (rs ++ ss) ≡ from_all_own g files n rs ++ from_all_own g files n ss
from-append g files n rs ss = flat_map-append (λ (r : DeclRef). from_own g (own_at files n r)) rs ss

-- References into other files give nothing.

others-at : {X : Type 0} (g : Declaration → List X) (files : List FileTree) (n : ℕ) (key : Key) (at : DeclRef) (keys : List Key) → (at.file == n) ≡ false → from_all_own g files n (found key (entries_at at keys)) ≡ []
others-at g files n key at [] other = refl
others-at g files n key at (k ∷ keys) other = elim (is_key key k) as (λ v. from_all_own g files n (map (λ (e : Entry). e.1) (cond v ((k, at) ∷ filter (λ (e : Entry). is_key key e.0) (entries_at at keys)) (filter (λ (e : Entry). is_key key e.0) (entries_at at keys)))) ≡ []) [
  | true ↦ rw other (others-at g files n key at keys other)
  | false ↦ others-at g files n key at keys other
]

others-from : {X : Type 0} (g : Declaration → List X) (files : List FileTree) (n : ℕ) (key : Key) (number from : ℕ) (declared : List (List Key)) → (number == n) ≡ false → from_all_own g files n (found key (entries_from number from declared)) ≡ []
others-from g files n key number from [] other = refl
others-from g files n key number from (keys ∷ more) other =
    ap (from_all_own g files n) (found-append key (entries_at (reference number from) keys) (entries_from number (from + 1) more))
    ∙ from-append g files n (found key (entries_at (reference number from) keys)) (found key (entries_from number (from + 1) more))
    ∙ ap (λ l. l ++ from_all_own g files n (found key (entries_from number (from + 1) more))) (others-at g files n key (reference number from) keys other)
    ∙ others-from g files n key number (from + 1) more other

past : {X : Type 0} (g : Declaration → List X) (files : List FileTree) (n : ℕ) (key : Key) (number : ℕ) (fs : List FileTree) → n < number → from_all_own g files n (found key (entries_of number fs)) ≡ []
past g files n key number [] above = refl
past g files n key number (f ∷ fs) above =
    let other : (number == n) ≡ false = grind (arith, nat_tests) in
    let later : n < number + 1 = omega arith in
    ap (from_all_own g files n) (found-append key (entries_from number 0 (file_keys f)) (entries_of (number + 1) fs))
    ∙ from-append g files n (found key (entries_from number 0 (file_keys f))) (found key (entries_of (number + 1) fs))
    ∙ ap (λ l. l ++ from_all_own g files n (found key (entries_of (number + 1) fs))) (others-from g files n key number 0 (file_keys f) other)
    ∙ past g files n key (number + 1) fs later

-- Those into the file stand for what they would stand for in a module of this file alone.

alone-at : (files : List FileTree) (n : ℕ) (f : FileTree) (key : Key) (place : ℕ) (keys : List Key) → slice_get files n ≡ Some f →
    map (declaration_at (f ∷ [])) (found key (entries_at (reference 0 place) keys)) ≡ map (own_at files n) (found key (entries_at (reference n place) keys))
alone-at files n f key place [] here = refl
alone-at files n f key place (k ∷ keys) here =
    let one : declaration_at (f ∷ []) (reference 0 place) ≡ own_at files n (reference n place) = rw (same_number n) (rw here refl) in
    let rest : map (declaration_at (f ∷ [])) (found key (entries_at (reference 0 place) keys)) ≡ map (own_at files n) (found key (entries_at (reference n place) keys)) = alone-at files n f key place keys here in
    elim (is_key key k) as (λ v. map (declaration_at (f ∷ [])) (map (λ (e : Entry). e.1) (cond v ((k, reference 0 place) ∷ filter (λ (e : Entry). is_key key e.0) (entries_at (reference 0 place) keys)) (filter (λ (e : Entry). is_key key e.0) (entries_at (reference 0 place) keys))))
    ≡ map (own_at files n) (map (λ (e : Entry). e.1) (cond v ((k, reference n place) ∷ filter (λ (e : Entry). is_key key e.0) (entries_at (reference n place) keys)) (filter (λ (e : Entry). is_key key e.0) (entries_at (reference n place) keys))))) [
      | true ↦ (λ i. one i ∷ rest i)
      | false ↦ rest
    ]

alone-from : (files : List FileTree) (n : ℕ) (f : FileTree) (key : Key) (from : ℕ) (declared : List (List Key)) → slice_get files n ≡ Some f →
    map (declaration_at (f ∷ [])) (found key (entries_from 0 from declared)) ≡ map (own_at files n) (found key (entries_from n from declared))
alone-from files n f key from [] here = refl
alone-from files n f key from (keys ∷ more) here =
    ap (map (declaration_at (f ∷ []))) (found-append key (entries_at (reference 0 from) keys) (entries_from 0 (from + 1) more))
    ∙ map-append (declaration_at (f ∷ [])) (found key (entries_at (reference 0 from) keys)) (found key (entries_from 0 (from + 1) more))
    ∙ (λ i. alone-at files n f key from keys here i ++ alone-from files n f key (from + 1) more here i)
    ∙ sym (map-append (own_at files n) (found key (entries_at (reference n from) keys)) (found key (entries_from n (from + 1) more)))
    ∙ ap (map (own_at files n)) (sym (found-append key (entries_at (reference n from) keys) (entries_from n (from + 1) more)))

-- the module of this file alone
having-alone : (f : FileTree) (key : Key) → having (f ∷ []) key ≡ declaring f key
unfolding having
having-alone f key = ap (filter (has_key key)) (append-none (declarations_in f))

providers-alone : (f : FileTree) (key : Key) → providers (f ∷ []) key ≡ found key (entries_from 0 0 (file_keys f))
unfolding providers
providers-alone f key = ap (found key) (append-none (entries_from 0 0 (file_keys f)))

given-some : {X : Type 0} (g : Declaration → List X) (ds : List Declaration) → flat_map (from_own g) (map Some ds) ≡ flat_map g ds
given-some g [] = refl
given-some g (d ∷ ds) = ap (λ l. g d ++ l) (given-some g ds)

flat-map : {X Y Z : Type 0} (g : Y → List Z) (h : X → Y) (xs : List X) → flat_map g (map h xs) ≡ flat_map (λ x. g (h x)) xs
flat-map g h [] = refl
flat-map g h (x ∷ xs) = ap (λ l. g (h x) ++ l) (flat-map g h xs)

here-are : {X : Type 0} (g : Declaration → List X) (files : List FileTree) (n : ℕ) (f : FileTree) (key : Key) → slice_get files n ≡ Some f →
    from_all_own g files n (found key (entries_from n 0 (file_keys f))) ≡ flat_map g (declaring f key)
here-are g files n f key here =
    let refs = found key (entries_from n 0 (file_keys f)) in
    let stand : map (own_at files n) refs ≡ map Some (declaring f key) =
    sym (alone-from files n f key 0 (file_keys f) here) ∙ ap (map (declaration_at (f ∷ []))) (sym (providers-alone f key)) ∙ sym (indexed (f ∷ []) key) ∙ ap (map Some) (having-alone f key) in
    sym (flat-map (from_own g) (own_at files n) refs) ∙ ap (flat_map (from_own g)) stand ∙ given-some g (declaring f key)

up-to : {X : Type 0} (g : Declaration → List X) (files : List FileTree) (n : ℕ) (f : FileTree) (key : Key) → slice_get files n ≡ Some f →
    (number : ℕ) (fs : List FileTree) (j : ℕ) → number + j ≡ n → slice_get fs j ≡ Some f → from_all_own g files n (found key (entries_of number fs)) ≡ flat_map g (declaring f key)
up-to g files n f key here number [] j at look = absurd cc
up-to g files n f key here number (x ∷ fs) zero at look =
    let is : x ≡ f = cc in
    let first : number ≡ n = omega (arith, at) in
    let above : n < number + 1 = omega (arith, at) in
    ap (from_all_own g files n) (found-append key (entries_from number 0 (file_keys x)) (entries_of (number + 1) fs))
    ∙ from-append g files n (found key (entries_from number 0 (file_keys x))) (found key (entries_of (number + 1) fs))
    ∙ ap (λ l. from_all_own g files n (found key (entries_from number 0 (file_keys x))) ++ l) (past g files n key (number + 1) fs above)
    ∙ append-none (from_all_own g files n (found key (entries_from number 0 (file_keys x))))
    ∙ (λ i. from_all_own g files n (found key (entries_from (first i) 0 (file_keys (is i)))))
    ∙ here-are g files n f key here
up-to g files n f key here number (x ∷ fs) (suc j) at look =
    let other : (number == n) ≡ false = grind (arith, nat_tests) in
    let next : (number + 1) + j ≡ n = omega (arith, at) in
    ap (from_all_own g files n) (found-append key (entries_from number 0 (file_keys x)) (entries_of (number + 1) fs))
    ∙ from-append g files n (found key (entries_from number 0 (file_keys x))) (found key (entries_of (number + 1) fs))
    ∙ ap (λ l. l ++ from_all_own g files n (found key (entries_of (number + 1) fs))) (others-from g files n key number 0 (file_keys x) other)
    ∙ up-to g files n f key here (number + 1) fs j next look

own-are : {X : Type 0} (g : Declaration → List X) (files : List FileTree) (n : ℕ) (f : FileTree) (key : Key) → slice_get files n ≡ Some f → from_all_own g files n (providers files key) ≡ flat_map g (declaring f key)
unfolding providers
own-are g files n f key here = (let at : 0 + n ≡ n = omega arith in up-to g files n f key here 0 files n at here)

-- Prints and uses.

more-lines : (m : Key → Meaning) (key : Key) (ds : List Declaration) →
    joined true (flat_map (λ d. print_of key (m key) d ∷ []) ds) ≡ flat_map (λ text. line_feed ∷ text) (map (λ d. value_with m (node_query key d)) ds)
more-lines m key [] = refl
more-lines m key (d ∷ ds) = let e = node-value m key d in let rest = more-lines m key ds in λ i. line_feed ∷ (sym e i ++ rest i)

all-lines : (m : Key → Meaning) (key : Key) (ds : List Declaration) →
    joined false (flat_map (λ d. print_of key (m key) d ∷ []) ds) ≡ text_or_empty (lines_of (map (λ d. value_with m (node_query key d)) ds))
all-lines m key [] = refl
all-lines m key (d ∷ ds) = let e = node-value m key d in let rest = more-lines m key ds in λ i. sym e i ++ rest i

node-is : (m : Key → Meaning) (files : List FileTree) (n : ℕ) (f : FileTree) → slice_get files n ≡ Some f → (key : Key) → own_node m files n key ≡ node_of m f key
unfolding own_node node_print node_uses
node-is m files n f here key =
    let print = ap (joined false) (own-are (λ d. print_of key (m key) d ∷ []) files n f key here) ∙ all-lines m key (declaring f key) in
    let uses = ap (set_of key_order) (own-are (λ d. dependencies m (node_query key d)) files n f key here) in
    λ i. record { key = key; print = print i; uses = uses i }

-- the nodes of these keys
pub nodes_are : (m : Key → Meaning) (files : List FileTree) (n : ℕ) (f : FileTree) (keys : List Key) → slice_get files n ≡ Some f → map (own_node m files n) keys ≡ map (node_of m f) keys
nodes_are m files n f [] here = refl
nodes_are m files n f (key ∷ keys) here = let first = node-is m files n f here key in let rest = nodes_are m files n f keys here in λ i. first i ∷ rest i

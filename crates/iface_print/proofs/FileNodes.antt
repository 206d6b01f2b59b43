-- Prints of files that haven't changed.
use Rattle.std.proofs.Common.{◌≡◌, ℕ, Bool, true, false, cond, List, [], ◌∷◌, map, refl, ap, sym, ◌∙◌, inl, inr}
use Rattle.std.specs.Prelude.{not}
use Rattle.std.specs.List.{filter}
use Rattle.std.specs.Cmp.Lexicographic.{bytes_decides}
use Rattle.dep_key.specs.declared.key.Key.{Key}
use Rattle.dep_key.specs.declared.kind.Kind.TheVariants.{TopLevel, Nominal, PotentialMember, Member, DynamicLookup, ExternalDepend, SourceFileProvide}
use Rattle.queries.specs.Queries.{Done, Among, value_with}
use Rattle.queries.proofs.Values.{value-bind}
use Rattle.swift_ast.specs.declared.declarations.FileTree.{FileTree}
use Rattle.decl_index.specs.Declarations.{Declaration}
use Rattle.type_rules.specs.declared.meaning.Meaning.{Meaning}
use Rattle.type_infer.specs.Readings.{definition_query}
use Rattle.type_infer.specs.Meanings.{having, meaning_in}
use Rattle.type_infer.proofs.ListFacts.{kept-from}
use Rattle.iface_print.specs.Prints.{print_of, print_in, lines_of, is_in, text_for_kind}
use Rattle.iface_print.specs.Nodes.{node_query, node_by_kind}
use Rattle.iface_print.specs.Coverage.{CoversChanges, NodesAgree, PrintsAgree}
use Rattle.iface_print.proofs.Covering.{having-outside, in-file, file-path}

-- the value of a node is the print
pub node-value : (m : Key → Meaning) (key : Key) (d : Declaration) → value_with m (node_query key d) ≡ print_of key (m key) d
node-value m key d = (elim key.kind as (λ kind. key.kind ≡ kind → value_with m (node_by_kind kind key d) ≡ text_for_kind key.kind d (m key)) [
  | TopLevel ↦ λ e. value-bind m (definition_query d.path key d.item) (λ _. Done (print_of key (m key) d))
  | Nominal ↦ λ e. value-bind m (definition_query d.path key d.item) (λ _. Done (print_of key (m key) d))
  | Member ↦ λ e. value-bind m (definition_query d.path key d.item) (λ _. Done (print_of key (m key) d))
  | PotentialMember ↦ λ e. sym (ap (λ k. text_for_kind k d (m key)) e)
  | DynamicLookup ↦ λ e. sym (ap (λ k. text_for_kind k d (m key)) e)
  | ExternalDepend ↦ λ e. sym (ap (λ k. text_for_kind k d (m key)) e)
  | SourceFileProvide ↦ λ e. sym (ap (λ k. text_for_kind k d (m key)) e)
]) refl

-- a filter that passes only what another passes
narrower : {X : Type 0} (t u : X → Bool) (xs : List X) → ((x : X) → t x ≡ true → u x ≡ true) → filter t xs ≡ filter t (filter u xs)
narrower t u [] h = refl
narrower t u (x ∷ xs) h = (elim (u x) as (λ v. u x ≡ v → cond (t x) (x ∷ filter t xs) (filter t xs) ≡ filter t (cond v (x ∷ filter u xs) (filter u xs))) [
  | true ↦ λ e. (elim (t x) as (λ w. cond w (x ∷ filter t xs) (filter t xs) ≡ cond w (x ∷ filter t (filter u xs)) (filter t (filter u xs))) [ true ↦ ap (λ l. x ∷ l) (narrower t u xs h) | false ↦ narrower t u xs h ])
  | false ↦ λ e. (elim (t x) as (λ w. t x ≡ w → cond w (x ∷ filter t xs) (filter t xs) ≡ filter t (filter u xs)) [
    | true ↦ λ f. absurd (let g : u x ≡ true = h x f in cc)
    | false ↦ λ f. narrower t u xs h
  ]) refl
]) refl

map-same : {X Y : Type 0} (f g : X → Y) (xs : List X) → ((x : X) → Among xs x → f x ≡ g x) → map f xs ≡ map g xs
map-same f g [] h = refl
map-same f g (x ∷ xs) h =
    let head : f x ≡ g x = h x (inl refl) in
    let tail : map f xs ≡ map g xs = map-same f g xs (λ y m. h y (inr m)) in
    λ i. head i ∷ tail i

-- Each key has the same print in a file that hasn't changed.
pub prints-agree : (implementation : FileTree → List Key) (changed : List ℕ → Bool) (p s : List FileTree) → CoversChanges implementation changed p s → NodesAgree changed p s → PrintsAgree changed p s
unfolding print_in
prints-agree implementation changed p s c nodes path free key =
    let t = is_in path in
    let out = λ (d : Declaration). not (changed d.path) in
    let kept : (d : Declaration) → t d ≡ true → out d ≡ true = λ d h. (let same : d.path ≡ path = (bytes_decides d.path path).0 h in ap not (ap changed same ∙ free)) in
    let lists : filter t (having p key) ≡ filter t (having s key) = narrower t out (having p key) kept ∙ ap (filter t) (having-outside changed p s c.same key) ∙ sym (narrower t out (having s key) kept) in
    let maps : map (print_of key (meaning_in p key)) (filter t (having p key)) ≡ map (print_of key (meaning_in s key)) (filter t (having p key)) =
    map-same (print_of key (meaning_in p key)) (print_of key (meaning_in s key)) (filter t (having p key)) (λ d m.
    let k = kept-from t (having p key) d m in
    let r = in-file p key d k.0 in
    let at : d.path ≡ path = (bytes_decides d.path path).0 k.1 in
    let clear : changed r.0.path ≡ false = ap changed (sym (file-path r.0 d r.2) ∙ at) ∙ free in
    sym (node-value (meaning_in p) key d) ∙ (nodes r.0 r.1 clear d r.2 key r.3).0 ∙ node-value (meaning_in s) key d) in
    ap lines_of (maps ∙ ap (map (print_of key (meaning_in s key))) lists)

-- Keys outside of the files that may have changed mean the same, by the law of coverage of queries.
use Rattle.std.proofs.Common.{◌≡◌, ℕ, Bool, true, false, cond, List, [], ◌∷◌, ◌++◌, map, Option, None, refl, ap, sym, ◌∙◌, subst, ◌⊎◌, inl, inr}
use Rattle.std.specs.Prelude.{not, ◌&&◌, flat_map}
use Rattle.std.specs.List.{filter, list_all}
use Rattle.std.specs.Cmp.Lexicographic.{bytes_decides}
use Rattle.dep_key.specs.declared.key.Key.{Key}
use Rattle.dep_key.specs.declared.kind.Kind.TheVariants.{TopLevel, Nominal, PotentialMember, Member, DynamicLookup, ExternalDepend, SourceFileProvide}
use Rattle.queries.specs.Queries.{Done, Fetch, ◌>>=◌, Among, dependencies, value_with, AgreesOutside, seen, solution, known_or}
use Rattle.queries.proofs.Coverage.{covered}
use Rattle.queries.proofs.Solution.{solution-seen}
use Rattle.queries.proofs.Values.{dependencies-bind}
use Rattle.swift_ast.specs.declared.declarations.FileTree.{FileTree}
use Rattle.swift_ast.specs.declared.declarations.Access.{Access}
use Rattle.swift_ast.specs.declared.declarations.Decl.{Decl}
use Rattle.swift_ast.specs.declared.declarations.Decl.TheVariants.{Named, Extension as Extended}
use Rattle.swift_ast.specs.declared.declarations.NamedDecl.{NamedDecl}
use Rattle.swift_ast.specs.declared.declarations.NamedDecl.TheVariants as named
use Rattle.decl_index.specs.Declarations.{Item, Declaration, declarations_in, decl_declarations, named_declarations, struct_member_declaration, extension_member_declaration}
use Rattle.type_rules.specs.declared.meaning.Meaning.{Meaning}
use Rattle.type_rules.specs.declared.meaning.Meaning.TheVariants as means
use Rattle.type_infer.specs.Readings.{Query, item_query, query_by_kind, definition_query}
use Rattle.type_infer.specs.Meanings.{has_key, having, given_by, is_filled, rules, module_keys, meaning_in}
use Rattle.type_infer.specs.Kinds.{known_answer}
use Rattle.type_infer.specs.Plain.{IsPlain}
use Rattle.type_infer.specs.Sound.{Anything, AsksKeys, ReadingsAskKeys, is_asked_kind}
use Rattle.type_infer.proofs.ListFacts.{filter-append, filter-swap, filter-all, filter-none, filter-each, both-true, kept-from, among-left, among-flat, among-map, all-in, one-in, kept-some, filled-some}
use Rattle.type_infer.proofs.Ending.{listing, solution-meaning, meaning-known, has-among}
use Rattle.type_infer.proofs.Combining.{sound-then}
use Rattle.iface_print.specs.Prints.{print_of, print_in, lines_of, is_in, PrintsFixMeanings, PrintsAreLines}
use Rattle.iface_print.specs.Nodes.{defined, node_by_kind, node_query}
use Rattle.iface_print.specs.Coverage.{CoversChanges, is_kept, IsUnmoved, KeptKeysMeanTheSame, QueriesAgree, NodesAgree}
use Rattle.iface_print.proofs.Cuts.{first-line}

-- the declarations of a file have its path
named-path : (path : List ℕ) (access : Option Access) (x : NamedDecl) (d : Declaration) → Among (named_declarations path access x) d → d.path ≡ path
named-path path access (named.Global x) d m = elim m [ inl e ↦ ap (λ (d : Declaration). d.path) (sym e) | inr n ↦ absurd n ]
named-path path access (named.Func x) d m = elim m [ inl e ↦ ap (λ (d : Declaration). d.path) (sym e) | inr n ↦ absurd n ]
named-path path access (named.Alias x) d m = elim m [ inl e ↦ ap (λ (d : Declaration). d.path) (sym e) | inr n ↦ absurd n ]
named-path path access (named.Struct x) d m = elim m [ inl e ↦ ap (λ (d : Declaration). d.path) (sym e) | inr n ↦ (let r = among-map (struct_member_declaration path _) x.members d n in ap (λ (d : Declaration). d.path) (sym r.2)) ]

decl-path : (path : List ℕ) (own : List (List ℕ)) (x : Decl) (d : Declaration) → Among (decl_declarations path own x) d → d.path ≡ path
decl-path path own (Named access x) d m = named-path path access x d m
decl-path path own (Extended x) d m = elim m [ inl e ↦ ap (λ (d : Declaration). d.path) (sym e) | inr n ↦ (let r = among-map (extension_member_declaration path _) x.members d n in ap (λ (d : Declaration). d.path) (sym r.2)) ]

pub file-path : (f : FileTree) (d : Declaration) → Among (declarations_in f) d → d.path ≡ f.path
file-path f d m = let r = among-flat (decl_declarations f.path _) f.decls d m in decl-path f.path _ r.0 d r.2

-- a filter of declarations by their files is one of files
by-files : (t : List ℕ → Bool) (fs : List FileTree) → filter (λ (d : Declaration). t d.path) (flat_map declarations_in fs) ≡ flat_map declarations_in (filter (λ (f : FileTree). t f.path) fs)
by-files t [] = refl
by-files t (f ∷ fs) =
    filter-append (λ (d : Declaration). t d.path) (declarations_in f) (flat_map declarations_in fs)
    ∙ (elim (t f.path) as (λ v. t f.path ≡ v → filter (λ (d : Declaration). t d.path) (declarations_in f) ++ filter (λ (d : Declaration). t d.path) (flat_map declarations_in fs) ≡ flat_map declarations_in (cond v (f ∷ filter (λ (f : FileTree). t f.path) fs) (filter (λ (f : FileTree). t f.path) fs))) [
      | true ↦ λ e. ap (λ l. l ++ filter (λ (d : Declaration). t d.path) (flat_map declarations_in fs)) (filter-each (λ (d : Declaration). t d.path) (declarations_in f) (λ d m. ap t (file-path f d m) ∙ e)) ∙ ap (λ l. declarations_in f ++ l) (by-files t fs)
      | false ↦ λ e. ap (λ l. l ++ filter (λ (d : Declaration). t d.path) (flat_map declarations_in fs)) (filter-none (λ (d : Declaration). t d.path) (declarations_in f) (λ d m. ap t (file-path f d m) ∙ e)) ∙ by-files t fs
    ]) refl

-- the declarations outside that have a key are the same in both
pub having-outside : (changed : List ℕ → Bool) (p s : List FileTree) → filter (λ (f : FileTree). not (changed f.path)) p ≡ filter (λ (f : FileTree). not (changed f.path)) s →
    (key : Key) → filter (λ (d : Declaration). not (changed d.path)) (having p key) ≡ filter (λ (d : Declaration). not (changed d.path)) (having s key)
unfolding having
having-outside changed p s same key =
    filter-swap (λ (d : Declaration). not (changed d.path)) (has_key key) (flat_map declarations_in p)
    ∙ ap (filter (has_key key)) (by-files (λ path. not (changed path)) p ∙ ap (flat_map declarations_in) same ∙ sym (by-files (λ path. not (changed path)) s))
    ∙ sym (filter-swap (λ (d : Declaration). not (changed d.path)) (has_key key) (flat_map declarations_in s))

-- a kept key has the same declarations in both
pub having-same : (implementation : FileTree → List Key) (changed : List ℕ → Bool) (p s : List FileTree) → CoversChanges implementation changed p s → (key : Key) → is_kept changed p s key ≡ true → having p key ≡ having s key
having-same implementation changed p s c key k =
    let both : (list_all (λ (d : Declaration). not (changed d.path)) (having p key) ≡ true) × (list_all (λ (d : Declaration). not (changed d.path)) (having s key) ≡ true) = both-true _ _ k in
    sym (filter-all _ (having p key) both.0) ∙ having-outside changed p s c.same key ∙ filter-all _ (having s key) both.1

-- what is asked has one of the kinds of keys that are asked
pub asked-kind : {X : Type 0} (answers : Key → Meaning) → ((k : Key) → IsPlain (answers k)) → (q : Query X) → AsksKeys q → (u : Key) → Among (dependencies answers q) u → is_asked_kind u.kind ≡ true
asked-kind answers plain (Done x) a u m = absurd m
asked-kind answers plain (Fetch k g) a u m = elim m [ inl e ↦ subst (λ (w : Key). is_asked_kind w.kind ≡ true) e a.0 | inr m ↦ asked-kind answers plain (g (answers k)) (a.1 (answers k) (plain k)) u m ]

-- declarations of a key in both with the same print
abbrev Paired : List FileTree → List FileTree → Key → Type 0
Paired p s u = (d : Declaration) × (e : Declaration) × Among (having p u) d × Among (having s u) e × (print_of u (meaning_in p u) d ≡ print_of u (meaning_in s u) e)

-- Where a key has a declaration in a file in which it is unmoved, the prints of its first declarations there are the same.
unmoved-pair : (p s : List FileTree) (path : List ℕ) (u : Key) → PrintsAreLines p → PrintsAreLines s → is_asked_kind u.kind ≡ true → print_in p path u ≡ print_in s path u →
    (is_filled (filter (is_in path) (having p u)) ≡ true) ⊎ (is_filled (filter (is_in path) (having s u)) ≡ true) →
    Paired p s u
unfolding print_in
unmoved-pair p s path u lp ls a h filled =
    let t = is_in path in
    (elim (filter t (having p u)) as (λ ds. ((d : Declaration) → Among ds d → Among (having p u) d × (t d ≡ true)) → lines_of (map (print_of u (meaning_in p u)) ds) ≡ lines_of (map (print_of u (meaning_in s u)) (filter t (having s u))) → (is_filled ds ≡ true) ⊎ (is_filled (filter t (having s u)) ≡ true) →
    Paired p s u) [
      | [] ↦ λ from h filled.
          (elim (filter t (having s u)) as (λ es. None ≡ lines_of (map (print_of u (meaning_in s u)) es) → (false ≡ true) ⊎ (is_filled es ≡ true) → Paired p s u) [
            | [] ↦ λ h f. absurd (elim f [ inl n ↦ (let no : false ≡ true = n in cc) | inr n ↦ (let no : false ≡ true = n in cc) ])
            | e ∷ es ↦ λ h f. absurd cc
          ]) h filled
      | d ∷ ds ↦ λ from h filled.
          (elim (filter t (having s u)) as (λ es. ((e : Declaration) → Among es e → Among (having s u) e × (t e ≡ true)) → lines_of (map (print_of u (meaning_in p u)) (d ∷ ds)) ≡ lines_of (map (print_of u (meaning_in s u)) es) →
          Paired p s u) [
            | [] ↦ λ from2 h. absurd cc
            | e ∷ es ↦ λ from2 h.
                let md = (from d (inl refl)).0 in
                let me = (from2 e (inl refl)).0 in
                (d, e, md, me, first-line _ _ _ _ (lp.at u a d md) (ls.at u a e me) h)
          ]) (λ e m. kept-from t (having s u) e m) h
    ]) (λ d m. kept-from t (having p u) d m) h filled

same-text : (x : List ℕ) (d : Declaration) → d.path ≡ x → is_in x d ≡ true
same-text x d h = (bytes_decides d.path x).1 h

-- A key that isn't kept and is unmoved means the same in both.
unmoved-same : (changed : List ℕ → Bool) (p s : List FileTree) → PrintsFixMeanings p s → PrintsAreLines p → PrintsAreLines s → (u : Key) → is_asked_kind u.kind ≡ true →
    IsUnmoved changed p s u → is_kept changed p s u ≡ false → meaning_in p u ≡ meaning_in s u
unmoved-same changed p s fix lp ls u a unmoved not_kept =
    let outside = λ (d : Declaration). not (changed d.path) in
    let changed-is : (b : Bool) → not b ≡ false → b ≡ true = λ b h. (elim b as (λ b. not b ≡ false → b ≡ true) [ true ↦ λ h. refl | false ↦ λ h. absurd cc ]) h in
    let done : (path : List ℕ) → changed path ≡ true → (is_filled (filter (is_in path) (having p u)) ≡ true) ⊎ (is_filled (filter (is_in path) (having s u)) ≡ true) → meaning_in p u ≡ meaning_in s u =
    λ path c f. (let r = unmoved-pair p s path u lp ls a (unmoved.at path c) f in fix.at u a r.0 r.1 r.2 r.3 r.4) in
    (elim (list_all outside (having p u)) as (λ v. list_all outside (having p u) ≡ v → v && list_all outside (having s u) ≡ false → meaning_in p u ≡ meaning_in s u) [
      | true ↦ λ e h. (let x = one-in outside (having s u) h in
          done x.0.path (changed-is _ x.2) (inr (filled-some _ x.0 (kept-some _ (having s u) x.0 x.1 (same-text x.0.path x.0 refl)))))
      | false ↦ λ e h. (let x = one-in outside (having p u) e in
          done x.0.path (changed-is _ x.2) (inl (filled-some _ x.0 (kept-some _ (having p u) x.0 x.1 (same-text x.0.path x.0 refl)))))
    ]) refl not_kept

-- what the reading of a kept key asks, and isn't kept, means the same in both
traced-given : (changed : List ℕ → Bool) (p s : List FileTree) → ((k : Key) → IsPlain (meaning_in p k)) → ReadingsAskKeys → PrintsFixMeanings p s → PrintsAreLines p → PrintsAreLines s → (k : Key) (ds : List Declaration) →
    ((d : Declaration) → Among ds d → (u : Key) → Among (dependencies (meaning_in p) (item_query d.path k d.item)) u → IsUnmoved changed p s u) →
    (u : Key) → Among (dependencies (meaning_in p) (given_by k ds)) u → is_kept changed p s u ≡ false → meaning_in p u ≡ meaning_in s u
traced-given changed p s plain asks fix lp ls k [] t u m n = absurd m
traced-given changed p s plain asks fix lp ls k (d ∷ []) t u m n =
    unmoved-same changed p s fix lp ls u (asked-kind (meaning_in p) plain (item_query d.path k d.item) (asks d.path k d.item) u m) (t d (inl refl) u m) n
traced-given changed p s plain asks fix lp ls k (d ∷ e ∷ ds) t u m n = absurd m

-- what a declaration's reading asks is a use of its node
pub reading-used : (m : Key → Meaning) (k : Key) (d : Declaration) (u : Key) → Among (dependencies m (item_query d.path k d.item)) u → Among (dependencies m (node_query k d)) u
reading-used m k d u w = (elim k.kind as (λ kind. Among (dependencies m (query_by_kind kind d.path k d.item)) u → Among (dependencies m (node_by_kind kind k d)) u) [
  | TopLevel ↦ λ w. used w
  | Nominal ↦ λ w. used w
  | Member ↦ λ w. used w
  | PotentialMember ↦ λ w. absurd w
  | DynamicLookup ↦ λ w. absurd w
  | ExternalDepend ↦ λ w. absurd w
  | SourceFileProvide ↦ λ w. absurd w
]) w
  where
    used : Among (dependencies m (definition_query d.path k d.item)) u → Among (dependencies m (defined k d)) u
    used w = inr (subst (λ l. Among l u) (sym (dependencies-bind m (definition_query d.path k d.item) (λ _. Done (print_of k (m k) d)))) (among-left (dependencies m (definition_query d.path k d.item)) [] u w))

-- a declaration that has a key stands in a file
pub in-file : (p : List FileTree) (k : Key) (d : Declaration) → Among (having p k) d → (f : FileTree) × Among p f × Among (declarations_in f) d × Among d.keys k
unfolding having
in-file p k d m =
    let kept = kept-from (has_key k) (flat_map declarations_in p) d m in
    let r = among-flat declarations_in p d kept.0 in
    (r.0, r.1, r.2, has-among k d kept.1)

not-false : (b : Bool) → not b ≡ true → b ≡ false
not-false true h = absurd cc
not-false false h = refl

traced-same : (implementation : FileTree → List Key) (changed : List ℕ → Bool) (p s : List FileTree) → ((k : Key) → IsPlain (meaning_in p k)) → ReadingsAskKeys → PrintsFixMeanings p s → PrintsAreLines p → PrintsAreLines s → CoversChanges implementation changed p s →
    (k : Key) → list_all (λ (d : Declaration). not (changed d.path)) (having p k) ≡ true → (u : Key) → Among (dependencies (meaning_in p) (given_by k (having p k))) u → is_kept changed p s u ≡ false → meaning_in p u ≡ meaning_in s u
traced-same implementation changed p s plain asks fix lp ls c k o u m n =
    traced-given changed p s plain asks fix lp ls k (having p k) (λ d md.
    let r = in-file p k d md in
    let free : changed d.path ≡ false = not-false _ (all-in (λ (d : Declaration). not (changed d.path)) (having p k) o d md) in
    λ u w. c.traced r.0 r.1 (ap changed (sym (file-path r.0 d r.2)) ∙ free) u (inl (record { declaration = d; declared = r.2; key = k; has = r.3; uses = reading-used (meaning_in p) k d u w }))) u m n

-- the rules of both projects agree on the kept keys
agrees : (implementation : FileTree → List Key) (changed : List ℕ → Bool) (p s : List FileTree) → ((k : Key) → IsPlain (meaning_in p k)) → ReadingsAskKeys → PrintsFixMeanings p s → PrintsAreLines p → PrintsAreLines s → CoversChanges implementation changed p s →
    AgreesOutside (rules p) (rules s) (module_keys p) (module_keys s) (meaning_in p) (λ k. is_kept changed p s k ≡ true)
agrees implementation changed p s plain asks fix lp ls c = record {
  nothing = refl;
  has = λ k o. ap is_filled (having-same implementation changed p s c k o);
  means = λ k o. ap (given_by k) (having-same implementation changed p s c k o);
  answered = meaning-known p;
  uses = λ k o u m.
      (elim (is_kept changed p s u) as (λ v. is_kept changed p s u ≡ v → (is_kept changed p s u ≡ true) ⊎ (seen (rules p) (solution (rules p) (module_keys p)) u ≡ seen (rules s) (solution (rules s) (module_keys s)) u)) [
        | true ↦ λ e. inl e
        | false ↦ λ e. inr (solution-meaning p u ∙ ap known_answer (traced-same implementation changed p s plain asks fix lp ls c k (both-true _ _ o).0 u m e) ∙ sym (solution-meaning s u))
      ]) refl;
}

-- Coverage of meanings.
pub kept-means : (implementation : FileTree → List Key) (changed : List ℕ → Bool) (p s : List FileTree) → ((k : Key) → IsPlain (meaning_in p k)) → ReadingsAskKeys → PrintsFixMeanings p s → PrintsAreLines p → PrintsAreLines s → CoversChanges implementation changed p s → KeptKeysMeanTheSame changed p s
unfolding meaning_in
kept-means implementation changed p s plain asks fix lp ls c k o =
    ap (known_or means.Circular) (sym (solution-seen (rules p) (module_keys p) (listing p) k)
    ∙ covered (rules p) (rules s) (module_keys p) (module_keys s) (meaning_in p) (λ k. is_kept changed p s k ≡ true) (listing p) (listing s) (agrees implementation changed p s plain asks fix lp ls c) k o
    ∙ solution-seen (rules s) (module_keys s) (listing s) k)

-- what a query asks has the same meanings
pub asked-same : (implementation : FileTree → List Key) (changed : List ℕ → Bool) (p s : List FileTree) → ((k : Key) → IsPlain (meaning_in p k)) → ReadingsAskKeys → PrintsFixMeanings p s → PrintsAreLines p → PrintsAreLines s → CoversChanges implementation changed p s →
    (u : Key) → is_asked_kind u.kind ≡ true → IsUnmoved changed p s u → meaning_in p u ≡ meaning_in s u
asked-same implementation changed p s plain asks fix lp ls c u a unmoved =
    (elim (is_kept changed p s u) as (λ v. is_kept changed p s u ≡ v → meaning_in p u ≡ meaning_in s u) [
      | true ↦ λ e. kept-means implementation changed p s plain asks fix lp ls c u e
      | false ↦ λ e. unmoved-same changed p s fix lp ls u a unmoved e
    ]) refl

-- queries whose answers are the same agree
pub agreeing : {X : Type 0} (m n : Key → Meaning) (q : Query X) → ((u : Key) → Among (dependencies m q) u → m u ≡ n u) → (value_with m q ≡ value_with n q) × (dependencies m q ≡ dependencies n q)
agreeing m n (Done x) h = (refl, refl)
agreeing {X} m n (Fetch k g) h =
    let here : m k ≡ n k = h k (inl refl) in
    let rest : (value_with m (g (m k)) ≡ value_with n (g (m k))) × (dependencies m (g (m k)) ≡ dependencies n (g (m k))) = agreeing m n (g (m k)) (λ u w. h u (inr w)) in
    (rest.0 ∙ ap (λ a. value_with n (g a)) here, ap (λ l. k ∷ l) (rest.1 ∙ ap (λ a. dependencies n (g a)) here))

-- Coverage of all that is read of a file.
pub queries-agree : (X : Type 0) (implementation : FileTree → List Key) (changed : List ℕ → Bool) (p s : List FileTree) → ((k : Key) → IsPlain (meaning_in p k)) → ReadingsAskKeys → PrintsFixMeanings p s → PrintsAreLines p → PrintsAreLines s → CoversChanges implementation changed p s → QueriesAgree X implementation changed p s
queries-agree X implementation changed p s plain asks fix lp ls c q f m free a uses =
    agreeing (meaning_in p) (meaning_in s) q (λ u w. asked-same implementation changed p s plain asks fix lp ls c u (asked-kind (meaning_in p) plain q a u w) (c.traced f m free u (uses u w)))

asks-bind : {X Y : Type 0} (q : Query X) (f : X → Query Y) → AsksKeys q → ((x : X) → AsksKeys (f x)) → AsksKeys (q >>= f)
asks-bind q f a h = sound-then Anything Anything q f a (λ x _. h x)

-- the query of a node asks such keys alone
node-asks : ReadingsAskKeys → (key : Key) (d : Declaration) → AsksKeys (node_query key d)
node-asks asks key d = (elim key.kind as (λ kind. (kind ≡ key.kind) → ((path : List ℕ) (item : Item) → AsksKeys (query_by_kind kind path key item)) → AsksKeys (node_by_kind kind key d)) [
  | TopLevel ↦ λ e asks. (ap is_asked_kind (sym e), λ own _. asks-bind (definition_query d.path key d.item) _ (asks d.path d.item) (λ _. tt))
  | Nominal ↦ λ e asks. (ap is_asked_kind (sym e), λ own _. asks-bind (definition_query d.path key d.item) _ (asks d.path d.item) (λ _. tt))
  | Member ↦ λ e asks. (ap is_asked_kind (sym e), λ own _. asks-bind (definition_query d.path key d.item) _ (asks d.path d.item) (λ _. tt))
  | PotentialMember ↦ λ e asks. (refl, λ a _. tt)
  | DynamicLookup ↦ λ e asks. (refl, λ a _. tt)
  | ExternalDepend ↦ λ e asks. (refl, λ a _. tt)
  | SourceFileProvide ↦ λ e asks. (refl, λ a _. tt)
]) refl (λ path item. asks path key item)

-- Coverage of nodes: each definition of a file that hasn't changed has the same print and uses in both.
pub nodes-agree : (implementation : FileTree → List Key) (changed : List ℕ → Bool) (p s : List FileTree) → ((k : Key) → IsPlain (meaning_in p k)) → ReadingsAskKeys → PrintsFixMeanings p s → PrintsAreLines p → PrintsAreLines s → CoversChanges implementation changed p s → NodesAgree changed p s
nodes-agree implementation changed p s plain asks fix lp ls c f m free d md key mk =
    queries-agree (List ℕ) implementation changed p s plain asks fix lp ls c (node_query key d) f m free (node-asks asks key d)
    (λ u w. inl (record { declaration = d; declared = md; key = key; has = mk; uses = w }))

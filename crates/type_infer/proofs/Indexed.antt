-- The index has the declarations of a key: its references stand for them, in order.
use Rattle.std.proofs.Common.{◌≡◌, ℕ, suc, ◌+◌, true, false, cond, List, [], ◌∷◌, ◌++◌, map, Option, Some, refl, ap, sym, ◌∙◌, subst, arith, inl, inr}
use Rattle.std.specs.Prelude.{◌||◌, flat_map, slice_get}
use Rattle.std.specs.List.{filter, list_any}
use Rattle.std.specs.Option.{option_and_then}
use Rattle.dep_key.specs.declared.key.Key.{Key}
use Rattle.dep_key.specs.declared.kind.Kind.{Kind}
use Rattle.dep_key.specs.declared.kind.Kind.TheVariants.{TopLevel, Nominal, PotentialMember, Member, DynamicLookup, ExternalDepend, SourceFileProvide}
use Rattle.dep_key.specs.declared.kind.Aspect.{Aspect}
use Rattle.dep_key.specs.KeyBuilders.{key_name, top_level, nominal, potential_member, member}
use Rattle.queries.specs.Queries.{Among}
use Rattle.swift_ast.specs.declared.declarations.FileTree.{FileTree}
use Rattle.swift_ast.specs.declared.declarations.Access.{Access}
use Rattle.swift_ast.specs.declared.declarations.Decl.{Decl}
use Rattle.swift_ast.specs.declared.declarations.Decl.TheVariants.{Named, Extension as Extended}
use Rattle.swift_ast.specs.declared.declarations.NamedDecl.{NamedDecl}
use Rattle.swift_ast.specs.declared.declarations.NamedDecl.TheVariants as named
use Rattle.decl_index.specs.declared.index.DeclRef.{DeclRef}
use Rattle.decl_index.specs.Declarations.{Declaration, declarations_in, decl_declarations, named_declarations, struct_member_declaration, extension_member_declaration, struct_keys, struct_member_name, extension_member_name, is_private, is_among, keys_of}
use Rattle.decl_index.specs.Found.{declaration_at}
use Rattle.decl_index.specs.Providers.{Entry, entries_at, entries_from, entries_of, found, is_key, providers, reference}
use Rattle.type_infer.specs.Meanings.{has_key, having}
use Rattle.type_infer.proofs.ListFacts.{filter-append, among-flat, among-map}

-- a declaration with these keys is found once by each of them
abbrev IsFoundOnce : List Key → Type 0
IsFoundOnce keys = (key : Key) (at : DeclRef) → found key (entries_at at keys) ≡ cond (list_any (is_key key) keys) (at ∷ []) []

once-one : (k : Key) → IsFoundOnce (k ∷ [])
once-one k key at = elim (is_key key k) as (λ v. map (λ (e : Entry). e.1) (cond v ((k, at) ∷ []) []) ≡ cond (v || false) (at ∷ []) []) [ true ↦ refl | false ↦ refl ]

abbrev key_with : Kind → Aspect → List ℕ → List ℕ → Key
key_with kind aspect context name = record { kind = kind; aspect = aspect; context = context; name = name }

-- the keys of a struct differ in kind
struct-once : (kind : Kind) (aspect : Aspect) (context name : List ℕ) (n : List ℕ) (at : DeclRef) →
    found (key_with kind aspect context name) (entries_at at (struct_keys n)) ≡ cond (list_any (is_key (key_with kind aspect context name)) (struct_keys n)) (at ∷ []) []
struct-once TopLevel aspect context name n at =
    elim (is_key (key_with TopLevel aspect context name) (top_level n)) as (λ v. map (λ (e : Entry). e.1) (cond v ((top_level n, at) ∷ []) []) ≡ cond (v || false) (at ∷ []) []) [ true ↦ refl | false ↦ refl ]
struct-once Nominal aspect context name n at =
    elim (is_key (key_with Nominal aspect context name) (nominal n)) as (λ v. map (λ (e : Entry). e.1) (cond v ((nominal n, at) ∷ []) []) ≡ cond (v || false) (at ∷ []) []) [ true ↦ refl | false ↦ refl ]
struct-once PotentialMember aspect context name n at =
    elim (is_key (key_with PotentialMember aspect context name) (potential_member n)) as (λ v. map (λ (e : Entry). e.1) (cond v ((potential_member n, at) ∷ []) []) ≡ cond (v || false) (at ∷ []) []) [ true ↦ refl | false ↦ refl ]
struct-once Member aspect context name n at = refl
struct-once DynamicLookup aspect context name n at = refl
struct-once ExternalDepend aspect context name n at = refl
struct-once SourceFileProvide aspect context name n at = refl

once-struct : (n : List ℕ) → IsFoundOnce (struct_keys n)
once-struct n key at = struct-once key.kind key.aspect key.context key.name n at

abbrev OnceFound : Declaration → Type 0
OnceFound d = IsFoundOnce d.keys

named-once : (path : List ℕ) (access : Option Access) (x : NamedDecl) (d : Declaration) → Among (named_declarations path access x) d → OnceFound d
named-once path access (named.Global x) d m = elim m [ inl e ↦ subst OnceFound e (once-one (top_level (key_name path (is_private access) x.name.text))) | inr n ↦ absurd n ]
named-once path access (named.Func x) d m = elim m [ inl e ↦ subst OnceFound e (once-one (top_level (key_name path (is_private access) x.name.text))) | inr n ↦ absurd n ]
named-once path access (named.Alias x) d m = elim m [ inl e ↦ subst OnceFound e (once-one (top_level (key_name path (is_private access) x.name.text))) | inr n ↦ absurd n ]
named-once path access (named.Struct x) d m = elim m [
  | inl e ↦ subst OnceFound e (once-struct (key_name path (is_private access) x.name.text))
  | inr n ↦ (let r = among-map (struct_member_declaration path (key_name path (is_private access) x.name.text)) x.members d n in
      subst OnceFound r.2 (once-one (member (key_name path (is_private access) x.name.text) (key_name path (is_private r.0.0) (struct_member_name r.0.1)))))
]

decl-once : (path : List ℕ) (own : List (List ℕ)) (x : Decl) (d : Declaration) → Among (decl_declarations path own x) d → OnceFound d
decl-once path own (Named access x) d m = named-once path access x d m
decl-once path own (Extended x) d m = elim m [
  | inl e ↦ subst OnceFound e (once-one (potential_member (key_name path (is_among own x.name.text) x.name.text)))
  | inr n ↦ (let r = among-map (extension_member_declaration path (key_name path (is_among own x.name.text) x.name.text)) x.members d n in
      subst OnceFound r.2 (once-one (member (key_name path (is_among own x.name.text) x.name.text) (key_name path (is_private r.0.0) (extension_member_name r.0.1)))))
]

file-once : (f : FileTree) (d : Declaration) → Among (declarations_in f) d → OnceFound d
file-once f d m = let r = among-flat (decl_declarations f.path _) f.decls d m in decl-once f.path _ r.0 d r.2

map-append : {X Y : Type 0} (f : X → Y) (xs ys : List X) → map f (xs ++ ys) ≡ map f xs ++ map f ys
map-append f [] ys = refl
map-append f (x ∷ xs) ys = ap (λ l. f x ∷ l) (map-append f xs ys)

found-append : (key : Key) (xs ys : List Entry) → found key (xs ++ ys) ≡ found key xs ++ found key ys
found-append key xs ys = ap (map (λ (e : Entry). e.1)) (filter-append (λ (e : Entry). is_key key e.0) xs ys) ∙ map-append (λ (e : Entry). e.1) (filter (λ (e : Entry). is_key key e.0) xs) (filter (λ (e : Entry). is_key key e.0) ys)

-- what references of a key stand for, in one file from a place on
in-file : (files : List FileTree) (key : Key) (number from : ℕ) (ds : List Declaration) → ((j : ℕ) → declaration_at files (reference number (from + j)) ≡ slice_get ds j) → ((d : Declaration) → Among ds d → OnceFound d) →
    map Some (filter (has_key key) ds) ≡ map (declaration_at files) (found key (entries_from number from (keys_of ds)))
in-file files key number from [] look once = refl
in-file files key number from (d ∷ ds) look once =
    let here : from + 0 ≡ from = omega arith in
    let first : declaration_at files (reference number from) ≡ Some d = ap (λ n. declaration_at files (reference number n)) (sym here) ∙ look 0 in
    let rest : map Some (filter (has_key key) ds) ≡ map (declaration_at files) (found key (entries_from number (from + 1) (keys_of ds))) =
    in-file files key number (from + 1) ds (λ j. (let e : (from + 1) + j ≡ from + suc j = omega arith in ap (λ n. declaration_at files (reference number n)) e ∙ look (suc j))) (λ x m. once x (inr m)) in
    (elim (has_key key d) as (λ v. map Some (cond v (d ∷ filter (has_key key) ds) (filter (has_key key) ds)) ≡ map (declaration_at files) (cond v (reference number from ∷ []) [] ++ found key (entries_from number (from + 1) (keys_of ds)))) [
      | true ↦ (λ i. sym first i ∷ rest i)
      | false ↦ rest
    ])
    ∙ ap (λ l. map (declaration_at files) (l ++ found key (entries_from number (from + 1) (keys_of ds)))) (sym (once d (inl refl) key (reference number from)))
    ∙ ap (map (declaration_at files)) (sym (found-append key (entries_at (reference number from) d.keys) (entries_from number (from + 1) (keys_of ds))))

-- and in files from a number on
in-files : (files : List FileTree) (key : Key) (number : ℕ) (fs : List FileTree) → ((j : ℕ) → slice_get files (number + j) ≡ slice_get fs j) →
    map Some (filter (has_key key) (flat_map declarations_in fs)) ≡ map (declaration_at files) (found key (entries_of number fs))
in-files files key number [] look = refl
in-files files key number (f ∷ fs) look =
    let here : number + 0 ≡ number = omega arith in
    let first : slice_get files number ≡ Some f = ap (slice_get files) (sym here) ∙ look 0 in
    let one : map Some (filter (has_key key) (declarations_in f)) ≡ map (declaration_at files) (found key (entries_from number 0 (keys_of (declarations_in f)))) =
    in-file files key number 0 (declarations_in f) (λ j. ap (option_and_then (λ (file : FileTree). slice_get (declarations_in file) (0 + j))) first ∙ (let e : 0 + j ≡ j = omega arith in ap (slice_get (declarations_in f)) e)) (λ d m. file-once f d m) in
    let rest : map Some (filter (has_key key) (flat_map declarations_in fs)) ≡ map (declaration_at files) (found key (entries_of (number + 1) fs)) =
    in-files files key (number + 1) fs (λ j. (let e : (number + 1) + j ≡ number + suc j = omega arith in ap (slice_get files) e ∙ look (suc j))) in
    ap (map Some) (filter-append (has_key key) (declarations_in f) (flat_map declarations_in fs))
    ∙ map-append Some (filter (has_key key) (declarations_in f)) (filter (has_key key) (flat_map declarations_in fs))
    ∙ ap (λ l. l ++ map Some (filter (has_key key) (flat_map declarations_in fs))) one
    ∙ ap (λ l. map (declaration_at files) (found key (entries_from number 0 (keys_of (declarations_in f)))) ++ l) rest
    ∙ sym (map-append (declaration_at files) (found key (entries_from number 0 (keys_of (declarations_in f)))) (found key (entries_of (number + 1) fs)))
    ∙ ap (map (declaration_at files)) (sym (found-append key (entries_from number 0 (keys_of (declarations_in f))) (entries_of (number + 1) fs)))

-- The references of a key stand for the declarations that have it.
pub indexed : (files : List FileTree) (key : Key) → map Some (having files key) ≡ map (declaration_at files) (providers files key)
unfolding having providers
indexed files key = in-files files key 0 files (λ j. (let e : 0 + j ≡ j = omega arith in ap (slice_get files) e))

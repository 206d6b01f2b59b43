-- What the references of a key say of the declarations that have it.
use Rattle.std.proofs.Common.{◌≡◌, ◌<◌, ◌≤◌, List, [], ◌∷◌, Option, Some, length, arith, slice_index_or, refl, sym, ap, ◌∙◌, map}
use Rattle.queries.specs.Queries.{Done}
use Rattle.dep_key.specs.declared.key.Key.{Key}
use Rattle.swift_ast.specs.declared.declarations.FileTree.{FileTree}
use Rattle.decl_index.specs.Declarations.{Declaration}
use Rattle.decl_index.specs.Found.{declaration_at}
use Rattle.decl_index.specs.Providers.{providers, reference}
use Rattle.decl_index.specs.declared.index.DeclRef.{DeclRef}
use Rattle.type_rules.specs.declared.meaning.Meaning.TheVariants as means
use Rattle.type_infer.specs.Readings.{item_query}
use Rattle.type_infer.specs.Meanings.{having, given_by, is_filled}
use Rattle.type_infer.proofs.Indexed.{indexed}

-- the declarations of references
abbrev Stand : (DeclRef → Option Declaration) → List Declaration → List DeclRef → Type 0
Stand at ds refs = map Some ds ≡ map at refs

filled : (at : DeclRef → Option Declaration) (ds : List Declaration) (refs : List DeclRef) → Stand at ds refs → is_filled ds ≡ is_filled refs
filled at [] [] h = refl
filled at [] (r ∷ refs) h = absurd cc
filled at (d ∷ ds) [] h = absurd cc
filled at (d ∷ ds) (r ∷ refs) h = refl

pub provided : (files : List FileTree) (key : Key) → is_filled (having files key) ≡ is_filled (providers files key)
provided files key = filled (declaration_at files) (having files key) (providers files key) (indexed files key)

none_stands : (at : DeclRef → Option Declaration) (key : Key) (ds : List Declaration) (refs : List DeclRef) → Stand at ds refs → refs ≡ [] → given_by key ds ≡ Done means.NoProvider
none_stands at key [] refs h e = refl
none_stands at key (d ∷ ds) refs h e = absurd (let no : map Some (d ∷ ds) ≡ [] = h ∙ ap (map at) e in cc)

one_stands : (at : DeclRef → Option Declaration) (key : Key) (ds : List Declaration) (refs : List DeclRef) (r : DeclRef) (d : Declaration) → Stand at ds refs → refs ≡ r ∷ [] → at r ≡ Some d →
    given_by key ds ≡ item_query d.path key d.item
one_stands at key [] refs r d h e f = absurd (let no : [] ≡ at r ∷ [] = h ∙ ap (map at) e in cc)
one_stands at key (x ∷ []) refs r d h e f = let same : Some x ∷ [] ≡ Some d ∷ [] = h ∙ ap (map at) e ∙ ap (λ o. o ∷ []) f in let here : x ≡ d = cc in ap (λ d. item_query d.path key d.item) here
one_stands at key (x ∷ y ∷ more) refs r d h e f = absurd (let no : map Some (x ∷ y ∷ more) ≡ at r ∷ [] = h ∙ ap (map at) e in cc)

several_stand : (at : DeclRef → Option Declaration) (key : Key) (ds : List Declaration) (refs : List DeclRef) (r s : DeclRef) (rest : List DeclRef) → Stand at ds refs → refs ≡ r ∷ s ∷ rest → given_by key ds ≡ Done means.Ambiguous
several_stand at key [] refs r s rest h e = absurd (let no : [] ≡ at r ∷ at s ∷ map at rest = h ∙ ap (map at) e in cc)
several_stand at key (x ∷ []) refs r s rest h e = absurd (let no : Some x ∷ [] ≡ at r ∷ at s ∷ map at rest = h ∙ ap (map at) e in cc)
several_stand at key (x ∷ y ∷ more) refs r s rest h e = refl

pub given_none : (files : List FileTree) (key : Key) (refs : List DeclRef) → refs ≡ providers files key → length refs < 1 → given_by key (having files key) ≡ Done means.NoProvider
given_none files key [] e few = none_stands (declaration_at files) key (having files key) (providers files key) (indexed files key) (sym e)
given_none files key (r ∷ refs) e few = absurd (omega (arith, few))

pub given_one : (files : List FileTree) (key : Key) (refs : List DeclRef) (d : Declaration) → refs ≡ providers files key → 1 ≤ length refs → length refs < 2 → declaration_at files (slice_index_or refs 0 (reference 0 0)) ≡ Some d →
    given_by key (having files key) ≡ item_query d.path key d.item
given_one files key [] d e some few f = absurd (omega (arith, some))
given_one files key (r ∷ []) d e some few f = one_stands (declaration_at files) key (having files key) (providers files key) r d (indexed files key) (sym e) f
given_one files key (r ∷ s ∷ refs) d e some few f = absurd (omega (arith, few))

pub given_several : (files : List FileTree) (key : Key) (refs : List DeclRef) → refs ≡ providers files key → 2 ≤ length refs → given_by key (having files key) ≡ Done means.Ambiguous
given_several files key [] e many = absurd (omega (arith, many))
given_several files key (x ∷ []) e many = absurd (omega (arith, many))
given_several files key (x ∷ y ∷ refs) e many = several_stand (declaration_at files) key (having files key) (providers files key) x y refs (indexed files key) (sym e)

-- What the keys of a module mean.
use Rattle.std.specs.Prelude.{Bool, true, false, List, [], ◌∷◌, filter, flat_map}
use Rattle.std.specs.List.{list_any}
use Rattle.queries.specs.Queries.{Done, Rules, meaning, dependencies}
use Rattle.dep_key.specs.declared.key.Key.{Key}
use Rattle.swift_ast.specs.declared.declarations.FileTree.{FileTree}
use Rattle.decl_index.specs.Declarations.{Declaration, declarations_in}
use Rattle.decl_index.specs.Providers.{is_key}
use Rattle.type_rules.specs.declared.meaning.Meaning.{Meaning}
use Rattle.type_rules.specs.declared.meaning.Meaning.TheVariants as means
use Rattle.type_infer.specs.Readings.{Query, item_query}

abbrev pub has_key : Key → Declaration → Bool
has_key key d = list_any (is_key key) d.keys

-- The declarations of all files that have a key.
unfoldable pub having : List FileTree → Key → List Declaration
having files key = filter (has_key key) (flat_map declarations_in files)

-- What a key means by the declarations that have it: nothing where there is none, and where there are several, what is ambiguous.
abbrev pub given_by : Key → List Declaration → Query Meaning
given_by key [] = Done means.NoProvider
given_by key (d ∷ []) = item_query d.path key d.item
given_by key (d ∷ e ∷ more) = Done means.Ambiguous

abbrev pub is_filled : {X : Type 0} → List X → Bool
is_filled [] = false
is_filled (x ∷ xs) = true

abbrev pub rules : List FileTree → Rules Key Meaning
rules files = record { has = λ key. is_filled (having files key); nothing = means.NoProvider; means = λ key. given_by key (having files key) }

-- The keys of all declarations.
abbrev pub module_keys : List FileTree → List Key
module_keys files = flat_map (λ d. d.keys) (flat_map declarations_in files)

-- What a key means in a module: the answer that its declarations give by what they ask, and Circular where that has no end.
unfoldable pub meaning_in : List FileTree → Key → Meaning
meaning_in files key = meaning (rules files) (module_keys files) means.Circular key

-- The keys that a query asks in a module.
abbrev pub asked_in : {X : Type 0} → List FileTree → Query X → List Key
asked_in files query = dependencies (meaning_in files) query

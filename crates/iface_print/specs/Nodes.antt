-- The nodes of a file: what each definition prints and uses, as one query.
use Rattle.std.specs.Prelude.{ℕ, List}
use Rattle.queries.specs.Queries.{Done, ◌>>=◌}
use Rattle.dep_key.specs.declared.key.Key.{Key}
use Rattle.dep_key.specs.declared.kind.Kind.{Kind}
use Rattle.dep_key.specs.declared.kind.Kind.TheVariants.{TopLevel, Nominal, PotentialMember, Member, DynamicLookup, ExternalDepend, SourceFileProvide}
use Rattle.dep_key.specs.KeyBuilders.{top_level}
use Rattle.decl_index.specs.Declarations.{Declaration}
use Rattle.type_infer.specs.Readings.{Query, meaning_of, definition_query}
use Rattle.iface_print.specs.Prints.{print_of, potential_text}

-- a definition asks its own key, and what its reading asks
abbrev pub defined : Key → Declaration → Query (List ℕ)
defined key d = do
  own ← meaning_of key
  _ ← definition_query d.path key d.item
  Done (print_of key own d)

-- what is said of a potential member asks whether its context is a struct
abbrev pub potential : Key → Declaration → Query (List ℕ)
potential key d = do
  context ← meaning_of (top_level key.context)
  Done (potential_text d d.item)

abbrev pub node_by_kind : Kind → Key → Declaration → Query (List ℕ)
node_by_kind TopLevel key d = defined key d
node_by_kind Nominal key d = defined key d
node_by_kind Member key d = defined key d
node_by_kind PotentialMember key d = potential key d
node_by_kind DynamicLookup key d = potential key d
node_by_kind ExternalDepend key d = potential key d
node_by_kind SourceFileProvide key d = potential key d

-- The node of a declaration under one of its keys: its value is the print, and what it asks are the uses.
abbrev pub node_query : Key → Declaration → Query (List ℕ)
node_query key d = node_by_kind key.kind key d

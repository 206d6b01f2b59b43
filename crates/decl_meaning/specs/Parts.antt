-- A parameter and a stored property, each as it is read.
use Rattle.std.specs.Prelude.{ℕ, List, Option}
use Rattle.std.specs.Option.{option_map}
use Rattle.queries.specs.Queries.{Done, Fetch, ◌>>=◌}
use Rattle.dep_key.specs.KeyBuilders.{member}
use Rattle.swift_ast.specs.declared.declarations.Param.{Param}
use Rattle.type_rules.specs.declared.meaning.Parameter.{Parameter}
use Rattle.type_infer.specs.Readings.{Query, written_type, parameter, label_of, StoredName, Measured, measured_query}

-- a parameter, where it has a type
unfoldable pub one_param : List ℕ → Param → Query (Option Parameter)
one_param path p = do
  of ← written_type path p.type_name
  Done (option_map (parameter (label_of p)) of)

-- a stored property of a context, where its type has a known size
unfoldable pub one_measured : List ℕ → StoredName → Query (Option Measured)
one_measured context s = Fetch (member context s.name) (λ m. measured_query s m)

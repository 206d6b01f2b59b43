-- What the node of a definition asks.
use Rattle.std.proofs.Common.{◌≡◌, ◌∷◌, refl, ap}
use Rattle.queries.specs.Queries.{Done, Fetch, ◌>>=◌, dependencies}
use Rattle.dep_key.specs.declared.key.Key.{Key}
use Rattle.decl_index.specs.Declarations.{Declaration}
use Rattle.type_rules.specs.declared.meaning.Meaning.{Meaning}
use Rattle.type_infer.specs.Readings.{Query, definition_query}
use Rattle.iface_print.specs.Prints.{print_of}
use Rattle.iface_print.specs.Nodes.{defined}

asks-first : {X Y : Type 0} (m : Key → Meaning) (q : Query X) (y : Y) → dependencies m (q >>= (λ x. Done y)) ≡ dependencies m q
asks-first m (Done x) y = refl
asks-first m (Fetch k g) y = ap (λ l. k ∷ l) (asks-first m (g (m k)) y)

-- its own key, and what it is read by
pub defined_asks : (m : Key → Meaning) (key : Key) (d : Declaration) → dependencies m (defined key d) ≡ key ∷ dependencies m (definition_query d.path key d.item)
defined_asks m key d = ap (λ l. key ∷ l) (asks-first m (definition_query d.path key d.item) (print_of key (m key) d))

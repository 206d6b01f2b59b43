-- A file's own declarations among references to declarations of all files.
use Rattle.std.specs.Prelude.{ℕ, Bool, true, false, List, [], ◌∷◌, ◌++◌, ◌==◌, flat_map, Option, Some, None, if◌then◌else◌}
use Rattle.queries.specs.Queries.{dependencies}
use Rattle.checks.specs.Logs.{set_of}
use Rattle.dep_key.specs.declared.key.Key.{Key}
use Rattle.dep_key.specs.declared.graph.Node.{Node}
use Rattle.dep_key.specs.KeyOrder.{key_order}
use Rattle.swift_ast.specs.declared.declarations.FileTree.{FileTree}
use Rattle.decl_index.specs.Declarations.{Declaration}
use Rattle.decl_index.specs.Found.{declaration_at}
use Rattle.decl_index.specs.declared.index.DeclRef.{DeclRef}
use Rattle.decl_index.specs.Providers.{providers}
use Rattle.type_rules.specs.declared.meaning.Meaning.{Meaning}
use Rattle.type_infer.specs.Plain.{line_feed}
use Rattle.iface_print.specs.Prints.{print_of}
use Rattle.iface_print.specs.Nodes.{node_query}

-- the declaration of a reference into the file of a number
abbrev pub own_at : List FileTree → ℕ → DeclRef → Option Declaration
own_at files number at = if at.file == number then declaration_at files at else None

abbrev pub from_own : {X : Type 0} → (Declaration → List X) → Option Declaration → List X
from_own g None = []
from_own g (Some d) = g d

-- what the declarations of references into the file of a number give
abbrev pub from_all_own : {X : Type 0} → (Declaration → List X) → List FileTree → ℕ → List DeclRef → List X
from_all_own g files number refs = flat_map (λ at. from_own g (own_at files number at)) refs

-- a line feed, where something stands before
abbrev pub behind_line : Bool → List ℕ → List ℕ
behind_line true text = line_feed ∷ text
behind_line false text = text

-- texts with a line feed between them, and before the first one where something stands before it
abbrev pub joined : Bool → List (List ℕ) → List ℕ
joined started [] = []
joined started (text ∷ more) = behind_line started (text ++ joined true more)

-- the node of a key of the file of a number, by the references of the key
unfoldable pub own_node : (Key → Meaning) → List FileTree → ℕ → Key → Node
own_node meanings files number key = record {
  key = key;
  print = joined false (from_all_own (λ d. print_of key (meanings key) d ∷ []) files number (providers files key));
  uses = set_of key_order (from_all_own (λ d. dependencies meanings (node_query key d)) files number (providers files key));
}

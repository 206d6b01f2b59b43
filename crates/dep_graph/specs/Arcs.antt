-- The nodes of each file, and which files use a key.
use Rattle.std.specs.Prelude.{◌≡◌, ℕ, Bool, false, not, ◌&&◌, ◌||◌, List, [], Option, Some, None}
use Rattle.std.specs.List.{list_any}
use Rattle.std.specs.declared.cmp.Ordering.{Ordering}
use Rattle.std.specs.Ordering.{nat_cmp}
use Rattle.std.specs.Cmp.Lexicographic.{slice_cmp}
use Rattle.std.specs.BTreeMap.{BTreeMap, get, is_at}
use Rattle.std.specs.BTreeSet.{BTreeSet, contains}
use Rattle.std.specs.Map.{lookup}
use Rattle.dep_key.specs.declared.key.Key.{Key}
use Rattle.dep_key.specs.declared.graph.Node.{Node}
use Rattle.dep_key.specs.KeyOrder.{key_order}
use Rattle.dep_key.specs.GraphOrder.{AreInOrder}
use Rattle.dep_graph.specs.Moves.{is_one}

-- Paths are ordered by their bytes.
abbrev pub path_order : List ℕ → List ℕ → Ordering
path_order = slice_cmp nat_cmp

-- A graph has the nodes of each of its files, in order of the paths.
abbrev pub Files : Type 0
Files = List (List ℕ × List Node)

-- the nodes of a file, where the graph has it
abbrev pub nodes_in : Files → List ℕ → Option (List Node)
nodes_in files f = lookup (is_at (path_order f)) files

abbrev pub nodes_or_none : Option (List Node) → List Node
nodes_or_none None = []
nodes_or_none (Some nodes) = nodes

-- Whether a node of the file uses the key. A file that the graph doesn't have uses none.
abbrev pub uses_key : Option (List Node) → Key → Bool
uses_key None k = false
uses_key (Some nodes) k = list_any (λ n. is_one n.uses k) nodes

-- The files that use each key.
abbrev pub Users : Type 0
Users = BTreeMap Key (BTreeSet (List ℕ))

abbrev pub set_has : Option (BTreeSet (List ℕ)) → List ℕ → Bool
set_has None f = false
set_has (Some files) f = contains path_order files f

abbrev pub is_user : Users → Key → List ℕ → Bool
is_user users k f = set_has (get key_order users k) f

-- The file has become a user of the keys for which the test is true, and no other arc has come or gone.
pub record HasEntered (old new : Users) (file : List ℕ) (test : Key → Bool) : Type 0 where
  pub at : (k : Key) (f : List ℕ) → is_user new k f ≡ (is_user old k f || (is_at (path_order file) f && test k))

-- The file is no user any more of the keys for which the test is true, and no other arc has come or gone.
pub record HasLeft (old new : Users) (file : List ℕ) (test : Key → Bool) : Type 0 where
  pub at : (k : Key) (f : List ℕ) → is_user new k f ≡ (is_user old k f && not (is_at (path_order file) f && test k))

-- The users of each key are the files with a node that uses it, and the nodes of each file are in order.
pub record IsIndexed (files : Files) (users : Users) : Type 0 where
  pub users_are : (k : Key) (f : List ℕ) → is_user users k f ≡ uses_key (nodes_in files f) k
  pub in_order : (f : List ℕ) → AreInOrder (nodes_or_none (nodes_in files f))

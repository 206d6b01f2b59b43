-- Which keys have moved between the old nodes of a file and its new ones.
use Rattle.std.specs.Prelude.{◌≡◌, ℕ, ◌+◌, ◌-◌, ◌<◌, ◌≤◌, Bool, true, ◌||◌, List, ◌↔◌, ◌≢◌, length, drop, Some}
use Rattle.std.specs.List.{list_any, AllByRecursion}
use Rattle.std.specs.declared.cmp.Ordering.TheVariants.{Less}
use Rattle.dep_key.specs.GraphOrder.{AreAscending, keys_of}
use Rattle.std.specs.Ordering.{is_eq}
use Rattle.dep_key.specs.declared.key.Key.{Key}
use Rattle.dep_key.specs.declared.graph.Node.{Node}
use Rattle.dep_key.specs.KeyOrder.{key_order}
use Rattle.dep_key.specs.Moved.{has_moved, print_of, uses_of}
use Rattle.waves.specs.Builds.{Reading, print_in}

-- the key is one of these
abbrev pub is_one : List Key → Key → Bool
is_one keys k = list_any (λ q. is_eq (key_order k q)) keys

-- The keys ascend, and each is below the nodes that follow.
pub record AreApart (keys : List Key) (old new : List Node) : Type 0 where
  pub ascend : AreAscending keys
  pub below_old : AllByRecursion (λ q. AllByRecursion (λ y. key_order q y ≡ Less) (keys_of old)) keys
  pub below_new : AllByRecursion (λ q. AllByRecursion (λ y. key_order q y ≡ Less) (keys_of new)) keys

-- One step along both lists: what has moved in them is found so far, or is still to come.
pub record HasStepped (old new : List Node) (i j : ℕ) (keys more : List Key) (up along : ℕ) : Type 0 where
  pub left : up ≤ length old
  pub right : along ≤ length new
  pub less : (length old - up) + (length new - along) < (length old - i) + (length new - j)
  pub moved : (k : Key) → (is_one keys k || has_moved (drop i old) (drop j new) k) ≡ (is_one more k || has_moved (drop up old) (drop along new) k)
  pub order : AreApart keys (drop i old) (drop j new) → AreApart more (drop up old) (drop along new)

-- Lists of nodes as the laws of incremental builds read them.
abbrev pub node_reading : Reading (List Node) Key (List ℕ)
node_reading = record { uses = uses_of; print = print_of }

-- A key has moved exactly where its prints aren't the same.
abbrev pub MovedTellsPrints : Type 0
MovedTellsPrints = (old new : List Node) (k : Key) → (has_moved old new k ≡ true) ↔ (print_in node_reading (Some old) k ≢ print_in node_reading (Some new) k)

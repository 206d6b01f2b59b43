-- How a program reads a query: it enters what it asks into a set.
use Rattle.std.specs.Prelude.{List, ◌++◌, Option, Some, None}
use Rattle.std.specs.BTreeSet.{insert_key}
use Rattle.std.specs.declared.vec.Vec.{Vec}
use Rattle.std.specs.declared.alloc.Global.{Global}
use Rattle.queries.specs.Queries.{Done, Fetch}
use Rattle.dep_key.specs.declared.key.Key.{Key}
use Rattle.dep_key.specs.KeyOrder.{key_order}
use Rattle.type_rules.specs.declared.meaning.Meaning.{Meaning}
use Rattle.type_infer.specs.Readings.{Query}

-- The value of a query, and the set of what was asked before with what the query asks.
abbrev pub read : {X : Type 0} → (Key → Meaning) → Query X → List Key → X × List Key
read meanings (Done x) asked = (x, asked)
read meanings (Fetch k g) asked = read meanings (g (meanings k)) (insert_key key_order asked k)

-- the list that a vector has, where there is one
abbrev pub items_in : {X : Type 0} → Option (Vec X Global) → Option (List X)
items_in None = None
items_in (Some v) = Some v.items

-- both lists, one behind the other, where both are there
abbrev pub joined : {X : Type 0} → Option (List X) → Option (List X) → Option (List X)
joined (Some xs) (Some ys) = Some (xs ++ ys)
joined _ _ = None

-- what is read behind a list that was found or not
abbrev pub behind : {X : Type 0} → Option (List X) → Option (List X) × List Key → Option (List X) × List Key
behind before (more, asked) = (joined before more, asked)

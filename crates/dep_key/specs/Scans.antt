-- Keys and nodes from left to right, each beside the key before it.
use Rattle.std.specs.Prelude.{ℕ, ◌+◌, Bool, true, ◌&&◌, List, [], ◌∷◌, Option, Some, None, if◌then◌else◌}
use Rattle.std.specs.Ordering.{is_lt}
use Rattle.dep_key.specs.declared.key.Key.{Key}
use Rattle.dep_key.specs.declared.graph.Node.{Node}
use Rattle.dep_key.specs.KeyOrder.{key_order}

-- whether a key is above the one before it, where there is one
abbrev pub is_above : Option Key → Key → Bool
is_above None key = true
is_above (Some before) key = is_lt (key_order before key)

abbrev pub ascend_after : Option Key → List Key → Bool
ascend_after before [] = true
ascend_after before (key ∷ keys) = is_above before key && ascend_after (Some key) keys

abbrev pub is_in_order : Option Key → Node → Bool
is_in_order before node = is_above before node.key && ascend_after None node.uses

-- the place of the first node that is out of order, where the first of these nodes has the place `at`
abbrev pub unsorted_from : ℕ → Option Key → List Node → Option ℕ
unsorted_from at before [] = None
unsorted_from at before (node ∷ nodes) = if is_in_order before node then unsorted_from (at + 1) (Some node.key) nodes else Some at

-- When nodes and file graphs are the same.
use Rattle.std.specs.Prelude.{Bool, nat_eq}
use Rattle.std.specs.Ordering.{eq_by_cmp, on, eq_of_both}
use Rattle.std.specs.Cmp.{IsEquivalence, and_equiv, on_equiv, eq_by_cmp_equiv}
use Rattle.std.specs.Cmp.Lexicographic.{pointwise, lists_equiv, nat_list_eq_equiv}
use Rattle.dep_key.specs.declared.graph.Node.{Node}
use Rattle.dep_key.specs.declared.graph.FileGraph.{FileGraph}
use Rattle.dep_key.specs.KeyOrder.{key_order, key_order_total}

-- Two nodes are the same where their keys, their prints and their uses are.
abbrev pub is_same_node : Node → Node → Bool
is_same_node = eq_of_both (on (λ n. n.key) (eq_by_cmp key_order)) (eq_of_both (on (λ n. n.print) (pointwise nat_eq)) (on (λ n. n.uses) (pointwise (eq_by_cmp key_order))))

pub is_same_node_equiv : IsEquivalence is_same_node
is_same_node_equiv =
    and_equiv (on_equiv (λ (n : Node). n.key) (eq_by_cmp_equiv key_order_total))
    (and_equiv (on_equiv (λ (n : Node). n.print) nat_list_eq_equiv) (on_equiv (λ (n : Node). n.uses) (lists_equiv (eq_by_cmp_equiv key_order_total))))

-- Two file graphs are the same where their paths and their nodes are.
abbrev pub is_same_graph : FileGraph → FileGraph → Bool
is_same_graph = eq_of_both (on (λ g. g.path) (pointwise nat_eq)) (on (λ g. g.nodes) (pointwise is_same_node))

pub is_same_graph_equiv : IsEquivalence is_same_graph
is_same_graph_equiv =
    and_equiv (on_equiv (λ (g : FileGraph). g.path) nat_list_eq_equiv) (on_equiv (λ (g : FileGraph). g.nodes) (lists_equiv is_same_node_equiv))

-- Digests tell which prints are the same.
use Rattle.std.proofs.Common.{◌≡◌, ℕ, Bool, true, false, cond, List, [], ◌∷◌, map, Option, Some, None, refl, sym, ap, ◌∙◌}
use Rattle.std.specs.Prelude.{option_map}
use Rattle.std.specs.Ordering.{eq_by_cmp}
use Rattle.dep_key.specs.declared.key.Key.{Key}
use Rattle.dep_key.specs.declared.graph.Node.{Node}
use Rattle.dep_key.specs.KeyOrder.{key_order}
use Rattle.dep_key.specs.Digests.{digest_of, digested_node}
use Rattle.dep_key.specs.Moved.{print_of}
use Rattle.type_infer.proofs.Ending.{same-key}
use Rattle.file_nodes.specs.Graphs.{text_or_empty}
use Rattle.module_coverage.specs.Laws.{RecordedPrintsTell}

digest-print : (nodes : List Node) (key : Key) → print_of (map digested_node nodes) key ≡ option_map (digest_of key.aspect) (print_of nodes key)
digest-print [] key = refl
digest-print (node ∷ nodes) key = (elim (eq_by_cmp key_order key node.key) as (λ v. eq_by_cmp key_order key node.key ≡ v →
    cond v (Some (digest_of node.key.aspect node.print)) (print_of (map digested_node nodes) key) ≡ option_map (digest_of key.aspect) (cond v (Some node.print) (print_of nodes key))) [
      | true ↦ λ e. ap (λ (k : Key). Some (digest_of k.aspect node.print)) (sym (same-key key node.key e))
      | false ↦ λ e. digest-print nodes key
    ]) refl

told-by : (digest : List ℕ → List ℕ) (o n : Option (List ℕ)) → ((v w : List ℕ) → o ≡ Some v → n ≡ Some w → digest v ≡ digest w → v ≡ w) → option_map digest o ≡ option_map digest n → o ≡ n
told-by digest None None tell h = refl
told-by digest None (Some w) tell h = absurd cc
told-by digest (Some v) None tell h = absurd cc
told-by digest (Some v) (Some w) tell h = ap Some (tell v w refl refl (ap text_or_empty h))

pub told : RecordedPrintsTell
told old new key tell h = told-by (digest_of key.aspect) (print_of old key) (print_of new key) tell (sym (digest-print old key) ∙ h ∙ digest-print new key)

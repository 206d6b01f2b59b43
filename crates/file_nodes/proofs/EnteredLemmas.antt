-- Keys that are entered into a set.
use Rattle.std.proofs.Common.{◌≡◌, List, [], ◌∷◌, ◌++◌, refl, ap}
use Rattle.std.specs.Prelude.{flat_map}
use Rattle.std.specs.declared.cmp.Ordering.{Ordering}
use Rattle.std.specs.BTreeSet.{insert_key}
use Rattle.checks.specs.Logs.{entered}
use Rattle.dep_key.specs.KeyOrder.{key_order}
use Rattle.swift_ast.specs.declared.declarations.FileTree.{FileTree}
use Rattle.decl_index.specs.Declarations.{Declaration, declarations_in, file_keys, keys_of}
use Rattle.file_nodes.specs.Graphs.{node_keys}

pub entered_append : {X : Type 0} (order : X → X → Ordering) (set xs ys : List X) → entered order set (xs ++ ys) ≡ entered order (entered order set xs) ys
entered_append order set [] ys = refl
entered_append order set (x ∷ xs) ys = entered_append order (insert_key order set x) xs ys

keys-among : (ds : List Declaration) → flat_map (λ one. one) (keys_of ds) ≡ flat_map (λ d. d.keys) ds
keys-among [] = refl
keys-among (d ∷ ds) = ap (λ l. d.keys ++ l) (keys-among ds)

pub node_keys_are : (f : FileTree) → entered key_order [] (flat_map (λ one. one) (file_keys f)) ≡ node_keys f
unfolding node_keys
node_keys_are f = ap (entered key_order []) (keys-among (declarations_in f))

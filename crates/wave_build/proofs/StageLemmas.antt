-- Which files are built, along a run of a core.
use Rattle.std.proofs.Common.{◌≡◌, ◌≢◌, ◌∙◌, ℕ, Bool, true, false, cond, List, [], ◌∷◌, map, Option, Some, None, refl, sym, ap}
use Rattle.std.specs.BTreeMap.{is_at}
use Rattle.dep_graph.specs.Arcs.{path_order}
use Rattle.dep_graph.specs.Moves.{node_reading}
use Rattle.dep_key.specs.declared.key.Key.{Key}
use Rattle.dep_key.specs.declared.graph.Node.{Node}
use Rattle.module_compile.specs.Compiled.{compiled_in}
use Rattle.swift_ast.specs.declared.declarations.FileTree.{FileTree}
use Rattle.wave_build.specs.Built.{is_built_in, no_result, result_of}
use Rattle.wave_core.proofs.WakingLemmas.{at-path, path-itself}
use Rattle.wave_core.specs.Cores.{Follows, Kept, Module, change_of, event_of, events_of, stage_at, state_of}
use Rattle.waves.specs.Builds.{Change}
use Rattle.waves.specs.Machine.{Event, Stage, State, Idle, Pending, Running, Done, IsFinish, IsRun, IsTake, is_built, woken}

pub built-woken : (b : Bool) (stage : Stage) → is_built (woken b stage) ≡ is_built stage
built-woken true Idle = refl
built-woken true Pending = refl
built-woken true Running = refl
built-woken true Done = refl
built-woken false stage = refl

-- a state that no event led to has no file that is built
none-built : (c : Change (List ℕ) (List Node) Key (List ℕ)) (events : List (Event (List ℕ))) (t : State (List ℕ) (List Node) Key) → events ≡ [] → IsRun c events t → (f : List ℕ) → is_built (t.stage f) ≡ false
none-built c [] t none run f =
    ap (λ (s : State (List ℕ) (List Node) Key). is_built (s.stage f)) (sym run.leads) ∙ ap is_built (run.opens.stage f) ∙ built-woken _ Idle
none-built c (e ∷ events) t none run f = cc

same-result : (trees : List FileTree) (tree : FileTree) (one other : Bool) → one ≡ other → cond one (Some (compiled_in trees tree)) None ≡ cond other (Some (compiled_in trees tree)) None
same-result trees tree one other e = ap (λ b. cond b (Some (compiled_in trees tree)) None) e

-- before anything happened nothing is built
pub nothing-built : (before now : Module) (first : List ℕ → Bool) (kept : Kept) (trees listed : List FileTree) → kept.3 ≡ [] → Follows (change_of before now first) kept → map no_result listed ≡ map (result_of trees kept) listed
nothing-built before now first kept trees [] none follows = refl
nothing-built before now first kept trees (tree ∷ listed) none follows =
    let not_built : is_built_in kept tree ≡ false = none-built (change_of before now first) (events_of kept) (state_of kept) (ap (map event_of) none) follows tree.path in
    let one : None ≡ result_of trees kept tree = sym (same-result trees tree (is_built_in kept tree) false not_built) in
    let rest : map no_result listed ≡ map (result_of trees kept) listed = nothing-built before now first kept trees listed none follows in
    (λ i. one i ∷ rest i)

-- a file that is taken was not built, and is not
taken-alike : (old new : Kept) (file : List ℕ) → IsTake file (state_of old) (state_of new) → (path : List ℕ) → is_built (stage_at new.2 path) ≡ is_built (stage_at old.2 path)
taken-alike old new file take path = (elim (is_at (path_order file) path) as (λ v. is_at (path_order file) path ≡ v → is_built (stage_at new.2 path) ≡ is_built (stage_at old.2 path)) [
  | true ↦ λ e.
      let at : file ≡ path = at-path file path e in
      ap (λ p. is_built (stage_at new.2 p)) (sym at) ∙ ap is_built take.running ∙ sym (ap is_built take.pending) ∙ ap (λ p. is_built (stage_at old.2 p)) at
  | false ↦ λ e. ap is_built (take.others path (λ same. (let bad : true ≡ false = sym (path-itself file) ∙ ap (is_at (path_order file)) (sym same) ∙ e in cc)))
]) refl

pub taken-results : (trees listed : List FileTree) (old new : Kept) (file : List ℕ) → IsTake file (state_of old) (state_of new) → map (result_of trees old) listed ≡ map (result_of trees new) listed
taken-results trees [] old new file take = refl
taken-results trees (tree ∷ listed) old new file take =
    let one : result_of trees old tree ≡ result_of trees new tree = same-result trees tree (is_built_in old tree) (is_built_in new tree) (sym (taken-alike old new file take tree.path)) in
    let rest : map (result_of trees old) listed ≡ map (result_of trees new) listed = taken-results trees listed old new file take in
    (λ i. one i ∷ rest i)

-- a file that is finished is built
pub finished-here : (trees : List FileTree) (tree : FileTree) (old new : Kept) (file : List ℕ) (nodes : Option (List Node)) → IsFinish node_reading file nodes (state_of old) (state_of new) → file ≡ tree.path →
    result_of trees new tree ≡ Some (compiled_in trees tree)
finished-here trees tree old new file nodes finish at =
    same-result trees tree (is_built_in new tree) true (ap (λ p. is_built (stage_at new.2 p)) (sym at) ∙ ap is_built finish.done)

-- the others are built where they were before
pub finished-others : (trees : List FileTree) (tree : FileTree) (old new : Kept) (file : List ℕ) (nodes : Option (List Node)) → IsFinish node_reading file nodes (state_of old) (state_of new) → tree.path ≢ file →
    result_of trees new tree ≡ result_of trees old tree
finished-others trees tree old new file nodes finish apart =
    same-result trees tree (is_built_in new tree) (is_built_in old tree) (ap is_built (finish.others tree.path apart) ∙ built-woken _ (stage_at old.2 tree.path))

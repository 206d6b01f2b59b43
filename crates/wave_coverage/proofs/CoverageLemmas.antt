-- A closed set of a change of a module leaves the rest of it, and so coverage holds.
use Rattle.std.proofs.Common.{◌≡◌, ℕ, Bool, false, List, map, Some, sym, ap, ◌∙◌, subst}
use Rattle.queries.specs.Queries.{Among}
use Rattle.dep_key.specs.declared.key.Key.{Key}
use Rattle.dep_key.specs.Digests.{digested_node, digested}
use Rattle.dep_key.specs.Moved.{uses_of}
use Rattle.dep_graph.specs.Moves.{node_reading}
use Rattle.swift_ast.specs.declared.declarations.FileTree.{FileTree}
use Rattle.type_infer.specs.Meanings.{meaning_in}
use Rattle.iface_print.specs.Coverage.{IsUnmoved}
use Rattle.module_compile.specs.declared.compiled.CompiledFile.{CompiledFile}
use Rattle.module_compile.specs.Compiled.{graph_with, compiled_in}
use Rattle.module_coverage.specs.Laws.{LeavesTheRest}
use Rattle.module_coverage.proofs.Alike.{alike as files-alike}
use Rattle.module_coverage.proofs.Covers.{covered as uses-cover}
use Rattle.waves.specs.Builds.{uses_in, IsClosed}
use Rattle.wave_coverage.specs.Modules.{recorded_at, module_change}
use Rattle.wave_coverage.specs.Laws.{Became, ChangesAreCovered, OthersAreAlike}
use Rattle.wave_coverage.proofs.UseKinds.{asked}
use Rattle.wave_coverage.proofs.PathLemmas.{recorded_of, recorded-is}
use Rattle.wave_coverage.proofs.PrintLemmas.{same-print}
use Rattle.wave_coverage.proofs.SameFiles.{stood, has-file, same-outside}

module _ (was now : List FileTree) (first : List ℕ → Bool) (became : Became was now first) (set : List ℕ → Bool) (closed : IsClosed (module_change was now first) set) where
  -- what a file outside used has the same prints in the set
  unmoved : (f : FileTree) → Among was f → set f.path ≡ false → (key : Key) → Among (uses_of (digested (graph_with (meaning_in was) f)).nodes) key → IsUnmoved set was now key
  unmoved f m free key used =
      let read : Among (uses_in node_reading (recorded_at was f.path)) key =
      subst (λ nodes. Among (uses_in node_reading nodes) key) (sym (recorded-is was became.ascending_before f m)) used in
      record {
        at = λ path inside.
            same-print was now became.ascending_before became.ascending_now path key (asked was became.plain_before f m key used) (became.told path key) (closed.used f.path free key read path inside);
      }

  leaves : LeavesTheRest set was now
  leaves = record { same = same-outside was now first became set closed; unmoved = unmoved }

  same-compiled : (f : FileTree) → Among was f → set f.path ≡ false → compiled_in was f ≡ compiled_in now f
  same-compiled f m free = files-alike set was now became.plain_before became.plain_now (uses-cover set was now leaves) f m free

  graph-of : (f : FileTree) → compiled_in was f ≡ compiled_in now f → recorded_of was f ≡ recorded_of now f
  unfolding compiled_in
  graph-of f same = ap (λ (c : CompiledFile). map digested_node c.graph.nodes) same

  same-recorded : (path : List ℕ) → set path ≡ false → recorded_at was path ≡ recorded_at now path
  same-recorded path free =
      let r = has-file was now first became set closed path free in
      let outside : set r.0.path ≡ false = ap set r.2 ∙ free in
      let before : Among was r.0 = stood was now first became set closed r.0 r.1 outside in
      let same : recorded_at was r.0.path ≡ recorded_at now r.0.path =
      recorded-is was became.ascending_before r.0 before ∙ ap Some (graph-of r.0 (same-compiled r.0 before outside)) ∙ sym (recorded-is now became.ascending_now r.0 r.1) in
      subst (λ (p : List ℕ). recorded_at was p ≡ recorded_at now p) r.2 same

pub changes-covered : ChangesAreCovered
changes-covered was now first became = record { at = λ set closed path free. same-recorded was now first became set closed path free }

pub others-alike : OthersAreAlike
others-alike was now first became set closed f m free =
    let before : Among was f = stood was now first became set closed f m free in
    (before, same-compiled was now first became set closed f before free)

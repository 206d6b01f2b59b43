use Rattle.std.proofs.Common.{◌≡◌, ◌++◌, All, map, drop}
use Rattle.dep_key.specs.GraphOrder.{AreInOrder}
use Rattle.module_compile.specs.Compiled as spec
use Rattle.module_compile.specs.declared.compiled.CompiledFile.{CompiledFile}
use Rattle.module_compile.proofs.compiling.compile_files.Given as goal

-- The files so far, and those that are left, are all; the nodes of each are in order.
abbrev pub invariant-loop-place : goal.invariant-loop-place
invariant-loop-place g l = record {
  compiled : l.made.items ++ map (spec.compiled_with (g.A.Answers.meanings l.answers)) (drop l.place l.files) ≡ map (spec.compiled_with (g.A.Answers.meanings l.answers)) l.files;
  ordered : All (λ (one : CompiledFile). AreInOrder one.graph.nodes) l.made.items;
}

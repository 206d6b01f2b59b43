use Rattle.std.proofs.Common.{◌≡◌, ◌++◌, map}
use Rattle.module_compile.specs.Compiled as spec
use Rattle.module_compile.proofs.compiling.errors_in.Given as goal

-- The errors so far, and those of the lines that are left, are all.
abbrev pub invariant-loop-line : goal.invariant-loop-line
invariant-loop-line l = l.errors ++ map (spec.error_in l.path) l.line-iterator ≡ map (spec.error_in l.path) l.fn.lines.keys

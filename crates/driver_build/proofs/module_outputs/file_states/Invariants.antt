use Rattle.std.proofs.Common.{◌≡◌, ◌++◌, drop}
use Rattle.driver_build.specs.Outputs as spec
use Rattle.driver_build.proofs.module_outputs.file_states.Given as goal

-- The states so far, and those of the files that are left, are all.
abbrev pub invariant-loop-file : goal.invariant-loop-file
invariant-loop-file l = record {
  place : l.place ≡ l.file-index;
  states : l.states ++ spec.file_states (drop l.place l.entries) (drop l.place l.files) ≡ spec.file_states l.entries l.files;
}

use Rattle.std.proofs.Common.{◌≡◌, ◌+◌, ◌++◌, [], ◌∷◌, take, drop, arith}
use Rattle.std.proofs.lemmas.Grind.{common_steps}
use Rattle.std.proofs.lemmas.List.{take_more}
use Rattle.drv_outside.specs.declared.types.Call.{Call}
use Rattle.drv_outside.specs.declared.types.Call.TheVariants.{Write}
use Rattle.disk_commit.specs.declared.files.File.{File}
use Rattle.disk_commit.proofs.RunLemmas.{stops_of, more_of, write_fails, on_err}
use Rattle.disk_commit.proofs.files.place.Goals as goal

abbrev call_of : File → Call
call_of file = Write file.name file.bytes

pub returns-in_err-write_file-clause-stops : goal.returns-in_err-write_file-clause-stops
returns-in_err-write_file-clause-stops g c =
    let files = c.args.files.now in
    let i = c.loop-file.file-index in
    let file = c.file-item.result in
    let whole : files ≡ take i files ++ file ∷ drop (i + 1) files = grind (arith, common_steps, c.file-item.is) in
    on_err c.from_residual.result _ (stops_of call_of files (take i files) file (drop (i + 1) files) _ _ _ whole c.loop-file.invariant.done
    (write_fails _ _ _ _ (rw (← c.as_str.ensures, ← c.as_slice.ensures) c.in_err-write_file.ensures.err)))

pub loop-file-preserved : goal.loop-file-preserved
loop-file-preserved g c = record {
  done =
      let files = c.args.files.now in
      let i = c.loop-file.file-index in
      let file = c.file-item.result in
      let next : take (i + 1) files ≡ take i files ++ file ∷ [] = grind (arith, common_steps, take_more, c.file-item.is) in
      more_of call_of (take i files) (take (i + 1) files) file _ _ _ next c.loop-file.invariant.done (rw (← c.as_str.ensures, ← c.as_slice.ensures) c.in_ok-write_file.ensures.change);
  count = omega (arith, c.in_ok-write_file.ensures.ok_count);
}

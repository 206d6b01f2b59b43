use Rattle.std.proofs.Common.{◌≡◌, ◌+◌, ◌++◌, ℕ, List, [], ◌∷◌, take, drop, arith}
use Rattle.std.proofs.lemmas.Grind.{common_steps}
use Rattle.std.proofs.lemmas.List.{take_more}
use Rattle.drv_outside.specs.declared.types.Call.{Call}
use Rattle.drv_outside.specs.declared.types.Call.TheVariants.{Remove}
use Rattle.disk_commit.proofs.RunLemmas.{stops_of, more_of, remove_fails, on_err}
use Rattle.disk_commit.proofs.files.sweep.Goals as goal

abbrev call_of : List ℕ → Call
call_of name = Remove name

pub returns-in_err-remove_file-clause-stops : goal.returns-in_err-remove_file-clause-stops
returns-in_err-remove_file-clause-stops g c =
    let names = c.args.names.now in
    let i = c.loop-name.name-index in
    let name = c.name-item.result in
    let whole : names ≡ take i names ++ name ∷ drop (i + 1) names = grind (arith, common_steps, c.name-item.is) in
    on_err c.from_residual.result _ (stops_of call_of names (take i names) name (drop (i + 1) names) _ _ _ whole c.loop-name.invariant.done
    (remove_fails _ _ _ (rw (← c.as_str.ensures) c.in_err-remove_file.ensures.err)))

pub loop-name-preserved : goal.loop-name-preserved
loop-name-preserved g c = record {
  done =
      let names = c.args.names.now in
      let i = c.loop-name.name-index in
      let name = c.name-item.result in
      let next : take (i + 1) names ≡ take i names ++ name ∷ [] = grind (arith, common_steps, take_more, c.name-item.is) in
      more_of call_of (take i names) (take (i + 1) names) name _ _ _ next c.loop-name.invariant.done (rw (← c.as_str.ensures) c.in_ok-remove_file.ensures.change);
  count = omega (arith, c.in_ok-remove_file.ensures.ok_count);
}

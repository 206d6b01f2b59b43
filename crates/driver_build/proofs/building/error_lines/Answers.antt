use Rattle.std.proofs.Common.{sym}
use Rattle.project_sources.proofs.ParsedLemmas.{item_first}
use Rattle.driver_build.proofs.BuildingLemmas.{lines_step}
use Rattle.driver_build.proofs.building.error_lines.Goals as goal

pub loop-file-preserved : goal.loop-file-preserved
loop-file-preserved c =
    lines_step c.args.files.now c.loop-file.file-index c.file-item.result c.loop-file.text.items c.push_errors.new.text.items _ (item_first _ _ c.file-item.result c.loop-file-test.true (sym c.file-item.is))
    c.in_ok-push_errors.ensures c.loop-file.invariant

use Rattle.std.proofs.Common.{rules}
use Rattle.serde_json.specs.View.{view}
use Rattle.file_map.proofs.MapLemmas.{map_read}
use Rattle.file_map.proofs.reading.read.Goals as goal

pub returns-in-Ok-None-clause-map : goal.returns-in-Ok-None-clause-map
returns-in-Ok-None-clause-map c = map_read c.args.bytes.now (view c.in-Ok.value) _ (search rules) (rw c.in-Ok-None.field-0-is at c.in-Ok-None.ensures) c.from_table.ensures

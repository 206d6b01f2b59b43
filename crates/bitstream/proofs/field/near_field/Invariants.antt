use Rattle.std.proofs.Common.{◌≡◌, ◌≤◌, ◌-◌, ◌+◌, ◌^◌, ◌<◌}
use Rattle.bitstream.specs.Fields.{input_at, groups_at, vbr_at}
use Rattle.bitstream.proofs.GroupLaws.{answer}
use Rattle.bitstream.proofs.field.near_field.Given as goal

abbrev pub invariant-each : goal.invariant-each
invariant-each l = record {
  within : l.over ≤ 56;
  behind : l.shift ≤ l.over;
  sum : l.sum < 2 ^ l.shift;
  read : answer l.at l.width l.sum l.shift (input_at l.bytes (l.at + l.over)) (groups_at l.width (input_at l.bytes (l.at + l.over))) ≡ vbr_at l.width (input_at l.bytes l.at);
}

abbrev pub decreases-each : goal.decreases-each
decreases-each l = 56 - l.over

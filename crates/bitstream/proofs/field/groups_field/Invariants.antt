use Rattle.std.proofs.Common.{◌≡◌, ◌≤◌, ◌*◌, ◌-◌, ◌+◌, ◌^◌, ◌<◌, length}
use Rattle.bitstream.specs.Fields.{input_at, groups_at, vbr_at}
use Rattle.bitstream.proofs.GroupLaws.{answer}
use Rattle.bitstream.proofs.field.groups_field.Given as goal

abbrev pub invariant-each : goal.invariant-each
invariant-each l = record {
  within : l.here ≤ 8 * length l.bytes;
  behind : l.at + l.shift ≤ l.here;
  fits : l.sum < 2 ^ 64;
  sum : l.sum < 2 ^ l.shift;
  read : answer l.at l.width l.sum l.shift (input_at l.bytes l.here) (groups_at l.width (input_at l.bytes l.here)) ≡ vbr_at l.width (input_at l.bytes l.at);
}

abbrev pub decreases-each : goal.decreases-each
decreases-each l = 8 * length l.bytes - l.here

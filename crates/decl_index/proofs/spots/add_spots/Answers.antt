use Rattle.std.proofs.Common.{arith}
use Rattle.decl_index.proofs.FoundLemmas.{one_more_member}
use Rattle.decl_index.proofs.spots.add_spots.Goals as goal

pub loop-member-preserved : goal.loop-member-preserved
loop-member-preserved c = record {
  within = omega (arith, c.loop-member-test.true);
  added = one_more_member c.args.decl c.loop-member.member c.member_count-count.result c.loop-member.spots.items c.add_member.new.spots.items _ c.loop-member-test.true c.in_ok-add_member.ensures c.loop-member.invariant.added;
}

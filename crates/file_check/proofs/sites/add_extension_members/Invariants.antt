use Rattle.std.proofs.Common.{◌≡◌, ◌++◌, drop, map}
use Rattle.file_check.specs.Sites.{extension_member_key}
use Rattle.file_check.proofs.sites.add_extension_members.Given as goal

abbrev pub invariant-loop-member : goal.invariant-loop-member
invariant-loop-member l = l.keys.items ++ map (extension_member_key l.context) (drop l.member-index l.members) ≡ l.fn.keys.items ++ map (extension_member_key l.context) l.members

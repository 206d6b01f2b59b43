use Rattle.std.proofs.Common.{◌≡◌, ◌++◌, drop, map}
use Rattle.decl_index.specs.Declarations.{keys_of, extension_member_declaration}
use Rattle.decl_index.proofs.declarations.add_extension_members.Given as goal

abbrev pub invariant-loop-member : goal.invariant-loop-member
invariant-loop-member l = l.made.items ++ keys_of (map (extension_member_declaration l.path l.context) (drop l.member-index l.members)) ≡ l.fn.made.items ++ keys_of (map (extension_member_declaration l.path l.context) l.members)

use Rattle.swift_ast.specs.Declarations.{with_access, extension_member_form}
use Rattle.swift_ast.proofs.DeclarationExits as exits
use Rattle.swift_parser.proofs.Exits.{passes}
use Rattle.swift_parser.proofs.DeclarationLemmas.{access_read}
use Rattle.swift_parser.proofs.declarations.extension_member_with_access.Goals as goal

pub returns-in_err-member-clause-reads : goal.returns-in_err-member-clause-reads
returns-in_err-member-clause-reads c = passes extension_member_form (with_access extension_member_form) c.from_residual-in_err-member.result c.in_err-member.field-0.0 c.access.new.tokens c.extension_member.new.tokens c.args.tokens.now c.extension_member.new.tokens c.from_residual-in_err-member.ensures.1 c.in_err-member.ensures.reads
    (λ r. exits.extension_line_refused (access_read c.in_ok-access.access c.args.tokens.now c.access.new.tokens c.in_ok-access.ensures.takes) r)

pub returns-clause-reads : goal.returns-clause-reads
returns-clause-reads c = exits.extension_line_taken (access_read c.in_ok-access.access c.args.tokens.now c.access.new.tokens c.in_ok-access.ensures.takes) c.in_ok-member.ensures.reads

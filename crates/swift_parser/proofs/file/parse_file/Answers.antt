use Rattle.std.proofs.Common.{map, sym, subst, Err, arith}
use Rattle.swift_ast.specs.Leaves.{leaf_of}
use Rattle.swift_token.specs.Faults.{Lexes}
use Rattle.swift_parser.specs.declared.faults.ParseFault.TheVariants as fault
use Rattle.swift_parser.specs.Whole.{TellsTokens, IsOneFault}
use Rattle.swift_parser.proofs.FileLemmas.{TellsFault, lexed}
use Rattle.swift_parser.proofs.file.parse_file.Goals as goal

pub file_tree-requires-clause-tokens : goal.file_tree-requires-clause-tokens
file_tree-requires-clause-tokens c =
    subst (λ ts. TellsTokens c.args.bytes.now (map leaf_of ts)) (sym c.as_slice.ensures.value)
    (subst (λ bytes. TellsTokens bytes (map leaf_of c.in-Ok-tokens.found.items)) c.in-Ok.ensures.cases.0 c.in-Ok-tokens.ensures)

pub returns-in-Err-Fault : goal.returns-in-Err-Fault
returns-in-Err-Fault c = record {
  parses =
      subst (λ z. IsOneFault c.args.path.now c.args.bytes.now (fault.Lex z)) (sym c.in-Err-Fault.fault-is)
      (lexed c.args.path.now c.args.bytes.now c.in-Err-Fault.fault (omega (arith, c.if-bytes-gt-MAX_FILE_BYTES.false), c.in-Ok.ensures.cases.1)
      (subst (λ bytes. TellsFault c.in-Err-Fault.fault bytes) c.in-Ok.ensures.cases.0 (subst (λ e. Lexes (Err e) c.in-Ok.text.now) c.in-Err-Fault.field-0-is c.in-Err-Fault.ensures)));
}

use Rattle.std.proofs.Common.{arith}
use Rattle.std.proofs.lemmas.List.Sums.{prefix_len-le-length}
use Rattle.swift_token.specs.NextLexeme.{is_number_byte}
use Rattle.swift_token.proofs.next_lexeme.number_lexeme.Goals as goal

pub split_at-requires : goal.split_at-requires
split_at-requires c = omega (arith, c.number_len.ensures, prefix_len-le-length is_number_byte c.args.bytes.now)

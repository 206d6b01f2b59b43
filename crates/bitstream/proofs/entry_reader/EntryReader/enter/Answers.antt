use Rattle.std.proofs.Common.{◌≤◌}
use Rattle.std.proofs.lemmas.List.Elements.{All-push}
use Rattle.bitstream.proofs.entry_reader.EntryReader.enter.Goals as goal

pub invariant_of-self-2-clause-widths : goal.invariant_of-self-2-clause-widths
invariant_of-self-2-clause-widths c = rw c.in_default.ensures.items (All-push (λ s. s.width ≤ 32) _ _ c.args.self.now.widths c.args.self.now.width)

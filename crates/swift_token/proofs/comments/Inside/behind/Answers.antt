use Rattle.std.proofs.Common.{sym}
use Rattle.swift_token.proofs.Scanned.{comment_closed, comment_opened, comment_inside}
use Rattle.swift_token.proofs.comments.Inside.behind.Goals as goal

pub returns-then-is_closing-clause-rest : goal.returns-then-is_closing-clause-rest
returns-then-is_closing-clause-rest c = λ cs. comment_closed c.args.self.depth c.args.self.last c.args.byte cs c.requires.inside (sym c.if-is_closing.ensures)

pub returns-then-is_opening-clause-rest : goal.returns-then-is_opening-clause-rest
returns-then-is_opening-clause-rest c = λ cs. comment_opened c.args.self.depth c.args.self.last c.args.byte cs c.requires.inside (sym c.if-is_closing.ensures) (sym c.if-is_opening.ensures)

pub returns-clause-rest : goal.returns-clause-rest
returns-clause-rest c = λ cs. comment_inside c.args.self.depth c.args.self.last c.args.byte cs c.requires.inside (sym c.if-is_closing.ensures) (sym c.if-is_opening.ensures)

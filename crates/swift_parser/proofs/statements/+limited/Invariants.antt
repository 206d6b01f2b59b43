use Rattle.swift_parser.proofs.statements.+limited.Given as goal

abbrev pub decreases-limited : goal.decreases-limited
decreases-limited l = l.limit

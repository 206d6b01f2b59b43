use Rattle.swift_parser.proofs.expressions.+limited.Given as goal

abbrev pub decreases-limited : goal.decreases-limited
decreases-limited l = l.limit

use Rattle.std.proofs.Common.{◌∙◌, arith}
use Rattle.swift_token.proofs.IdentifiersLemmas.{of_3, of_4, of_5, of_6, to_8, from_9}
use Rattle.swift_token.proofs.identifiers.is_keyword_text.Goals as goal

pub returns-in-3 : goal.returns-in-3
returns-in-3 c = c.contains.ensures.value ∙ of_3 c.args.bytes.now c.in-3.is

pub returns-in-4 : goal.returns-in-4
returns-in-4 c = c.contains-in-4.ensures.value ∙ of_4 c.args.bytes.now c.in-4.is

pub returns-in-5 : goal.returns-in-5
returns-in-5 c = c.contains-in-5.ensures.value ∙ of_5 c.args.bytes.now c.in-5.is

pub returns-in-6 : goal.returns-in-6
returns-in-6 c = c.contains-in-6.ensures.value ∙ of_6 c.args.bytes.now c.in-6.is

pub returns-in-7 : goal.returns-in-7
returns-in-7 c = c.contains-in-7.ensures.value ∙ to_8 c.args.bytes.now (omega arith) (omega arith)

pub returns-in_default : goal.returns-in_default
returns-in_default c = c.contains-in_default.ensures.value ∙ from_9 c.args.bytes.now (omega arith)

use Rattle.bitstream.specs.Reader.{reading}
use Rattle.bitstream.proofs.ItemLaws.{next-clauses, sound_reading}
use Rattle.bitstream.proofs.reader.BitReader.next.Goals as goal

pub returns-clause-shown : goal.returns-clause-shown
returns-clause-shown c = (next-clauses (reading c.args.self.now) c.step.result (reading c.step.new.self) (sound_reading _ _ _ _ c.args.self.now.sound) c.step.ensures).shown

pub returns-clause-ended : goal.returns-clause-ended
returns-clause-ended c = (next-clauses (reading c.args.self.now) c.step.result (reading c.step.new.self) (sound_reading _ _ _ _ c.args.self.now.sound) c.step.ensures).ended

pub returns-clause-still_ended : goal.returns-clause-still_ended
returns-clause-still_ended c = (next-clauses (reading c.args.self.now) c.step.result (reading c.step.new.self) (sound_reading _ _ _ _ c.args.self.now.sound) c.step.ensures).still_ended

pub returns-clause-end_position : goal.returns-clause-end_position
returns-clause-end_position c = (next-clauses (reading c.args.self.now) c.step.result (reading c.step.new.self) (sound_reading _ _ _ _ c.args.self.now.sound) c.step.ensures).end_position

pub returns-clause-few_operands : goal.returns-clause-few_operands
returns-clause-few_operands c = (next-clauses (reading c.args.self.now) c.step.result (reading c.step.new.self) (sound_reading _ _ _ _ c.args.self.now.sound) c.step.ensures).few_operands

pub returns-clause-total : goal.returns-clause-total
returns-clause-total c = (next-clauses (reading c.args.self.now) c.step.result (reading c.step.new.self) (sound_reading _ _ _ _ c.args.self.now.sound) c.step.ensures).total

pub returns-clause-fault : goal.returns-clause-fault
returns-clause-fault c = (next-clauses (reading c.args.self.now) c.step.result (reading c.step.new.self) (sound_reading _ _ _ _ c.args.self.now.sound) c.step.ensures).fault

pub returns-clause-no_more : goal.returns-clause-no_more
returns-clause-no_more c = (next-clauses (reading c.args.self.now) c.step.result (reading c.step.new.self) (sound_reading _ _ _ _ c.args.self.now.sound) c.step.ensures).no_more

use Rattle.bitstream.proofs.ItemLaws.{new-items, new-total, items_in-are, stands-so}
use Rattle.bitstream.proofs.reader.BitReader.new.Goals as goal

pub returns-clause-items : goal.returns-clause-items
returns-clause-items c = new-items c.args.bytes.now _ (stands-so _ _ _ _ 0 c.new.ensures.place c.new.ensures.context)

pub returns-clause-total : goal.returns-clause-total
returns-clause-total c = new-total c.args.bytes.now _ (stands-so _ _ _ _ 0 c.new.ensures.place c.new.ensures.context)

pub returns-clause-fault : goal.returns-clause-fault
returns-clause-fault c = (items_in-are c.args.bytes.now).fault

pub returns-clause-few_operands : goal.returns-clause-few_operands
returns-clause-few_operands c = (items_in-are c.args.bytes.now).few

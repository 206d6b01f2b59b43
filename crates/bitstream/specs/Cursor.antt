-- Where a cursor stands.
use Rattle.bitstream.specs.declared.cursor.Cursor.{Cursor}
use Rattle.bitstream.specs.Fields.{Input, input_at}

abbrev pub here : Cursor → Input
here c = input_at c.bytes.now c.at

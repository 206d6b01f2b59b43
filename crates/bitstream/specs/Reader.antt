-- Where a reader stands, and what it still gives.
use Rattle.bitstream.specs.declared.reader.BitReader.{BitReader}
use Rattle.bitstream.specs.Cursor.{here}
use Rattle.bitstream.specs.Reading.{Reading, by_fault, context}

abbrev pub reading : BitReader → Reading
reading r = by_fault r.fault (here r.entries.cursor) (context r.entries) r.item

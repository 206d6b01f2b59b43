-- What an output file map says.
use Rattle.serde_json.specs.Data.{Members}
use Rattle.serde_json.specs.View.{view}
use Rattle.file_map.specs.Reading.{members_or_none}
use Rattle.file_map.specs.declared.table.FileMap.{FileMap}

-- the members of the object that a map is, and none of the empty map
abbrev pub members : FileMap → Members
members map = members_or_none (view map.table)

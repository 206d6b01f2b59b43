-- The image of a module: which object defines each symbol, and then the objects.
use Rattle.std.specs.Prelude.{◌≡◌, ◌≢◌, ◌++◌, ℕ, true, false, if◌then◌else◌, not, filter, Option, Some, None, List, [], ◌∷◌, map, flat_map, drop, length, codes}
use Rattle.std.specs.List.{slice_split}
use Rattle.std.specs.Ordering.{nat_cmp, is_le}
use Rattle.std.specs.declared.cmp.Ordering.TheVariants.{Less}
use Rattle.std.specs.Cmp.Lexicographic.{slice_cmp}
use Rattle.std.specs.BTreeMap.{BTreeMap}
use Rattle.std.specs.FinMap.{FinMap, insert, empty, entries, from_entries}
use Rattle.ordered_lists.specs.Among.{is_among}
use Rattle.ordered_lists.specs.Repeats.{HasNoRepeat, IsLeastRepeated}
use Rattle.module_merge.specs.Lines.{is_line_feed, begins_with, text_of}
use Rattle.module_merge.specs.ByPath.{path_after, IsByPath}
use Rattle.module_merge.specs.Object.{first_word}

-- the symbol of a line that begins with this word
abbrev pub symbol_after : List ℕ → List ℕ → List (List ℕ)
symbol_after word line = if begins_with line word then first_word (drop (length word) line) ∷ [] else []

-- "global SYMBOL W" and "func SYMBOL P S R" define a symbol.
abbrev pub defined_by : List ℕ → List (List ℕ)
defined_by line = symbol_after (codes "global ") line ++ symbol_after (codes "func ") line

-- " load SYMBOL 0 W", " store SYMBOL OFFSET W" and " call SYMBOL WORDS W" use a symbol.
abbrev pub used_by : List ℕ → List (List ℕ)
used_by line = symbol_after (codes " load ") line ++ symbol_after (codes " store ") line ++ symbol_after (codes " call ") line

-- the symbols that an object text defines, and those that it uses, in order of line
abbrev pub defined_in : List ℕ → List (List ℕ)
defined_in object = flat_map defined_by (slice_split is_line_feed object)

abbrev pub used_in : List ℕ → List (List ℕ)
used_in object = flat_map used_by (slice_split is_line_feed object)

-- those of all object texts
abbrev pub all_defined : List (List ℕ) → List (List ℕ)
all_defined = flat_map defined_in

abbrev pub all_used : List (List ℕ) → List (List ℕ)
all_used = flat_map used_in

-- no symbol is defined twice
abbrev pub AreDistinct : List (List ℕ) → Type 0
AreDistinct = HasNoRepeat (slice_cmp nat_cmp)

-- a symbol is defined twice, and none below it is
abbrev pub IsLeastTwice : List (List ℕ) → List ℕ → Type 0
IsLeastTwice objects = IsLeastRepeated (slice_cmp nat_cmp) (all_defined objects)

-- a symbol is used and not defined
abbrev pub IsMissing : List (List ℕ) → List ℕ → Type 0
IsMissing objects symbol = (is_among (all_used objects) symbol ≡ true) × (is_among (all_defined objects) symbol ≡ false)

-- a symbol is used and not defined, and none below it is
abbrev pub IsLeastMissing : List (List ℕ) → List ℕ → Type 0
IsLeastMissing objects symbol = IsMissing objects symbol × ((other : List ℕ) → IsMissing objects other → slice_cmp nat_cmp other symbol ≢ Less)

-- each symbol that is used is defined
abbrev pub AreLinked : List (List ℕ) → Type 0
AreLinked objects = (symbol : List ℕ) → IsMissing objects symbol → ⊥

-- the symbols that aren't defined
abbrev pub undefined : List (List ℕ) → List (List ℕ) → List (List ℕ)
undefined defined symbols = filter (λ symbol. not (is_among defined symbol)) symbols

-- the lesser of a symbol and another, where there is another
abbrev pub lesser : List ℕ → Option (List ℕ) → Option (List ℕ)
lesser symbol None = Some symbol
lesser symbol (Some other) = if is_le (slice_cmp nat_cmp other symbol) then Some other else Some symbol

-- the least of some symbols, and None where there are none
abbrev pub IsLeastOf : List (List ℕ) → Option (List ℕ) → Type 0
IsLeastOf symbols None = (symbol : List ℕ) → is_among symbols symbol ≡ false
IsLeastOf symbols (Some least) = (is_among symbols least ≡ true) × ((symbol : List ℕ) → is_among symbols symbol ≡ true → slice_cmp nat_cmp symbol least ≢ Less)

-- the path of an object text, whose first line is "object PATH"
abbrev pub path_of : List ℕ → List ℕ
path_of = path_after (codes "object ")

-- from symbols to the paths of the objects that define them
abbrev pub Table : Type 0
Table = FinMap (slice_cmp nat_cmp) (List ℕ)

-- a table with these symbols, all of one path
abbrev pub with_symbols : List ℕ → List (List ℕ) → Table → Table
with_symbols path [] table = table
with_symbols path (symbol ∷ symbols) table = with_symbols path symbols (insert table symbol path)

-- a table with the symbols of these objects
abbrev pub with_objects : List (List ℕ) → Table → Table
with_objects [] table = table
with_objects (object ∷ objects) table = with_objects objects (with_symbols (path_of object) (defined_in object) table)

-- the path of each symbol that these objects define
abbrev pub table_of : List (List ℕ) → Table
table_of objects = with_objects objects empty

-- "symbol SYMBOL PATH"
abbrev pub symbol_line : List ℕ × List ℕ → List ℕ
symbol_line entry = codes "symbol " ++ entry.0 ++ codes " " ++ entry.1

-- one line for each symbol, in byte order of the symbol
abbrev pub symbol_lines : Table → List (List ℕ)
symbol_lines table = map symbol_line (entries table)

-- the object texts by path, and those of one path in byte order
abbrev pub IsInOrder : List (List ℕ) → List (List ℕ) → Type 0
IsInOrder = IsByPath (codes "object ")

-- the line "image M", a line for each symbol, and the object texts in order
abbrev pub image_of : List ℕ → List (List ℕ) → List (List ℕ) → List ℕ
image_of name objects ordered = text_of ((codes "image " ++ name) ∷ symbol_lines (table_of objects)) ++ flat_map (λ object. object) ordered

abbrev pub IsImage : List ℕ → List (List ℕ) → List ℕ → Type 0
IsImage name objects text = (ordered : List (List ℕ)) × IsInOrder objects ordered × (text ≡ image_of name objects ordered)

-- the table that a map of texts is
abbrev pub table_in : BTreeMap (List ℕ) (List ℕ) → Table
table_in m = from_entries m.entries

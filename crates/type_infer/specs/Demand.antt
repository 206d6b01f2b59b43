-- What a reading asks where few keys have answers.
use Rattle.std.specs.Prelude.{◌≡◌, ◌≢◌, ℕ, List, Option, None, Ok}
use Rattle.queries.specs.Queries.{Among, Needs, run, dependencies, value_with, known_or}
use Rattle.dep_key.specs.declared.key.Key.{Key}
use Rattle.decl_index.specs.Declarations.{Item}
use Rattle.type_rules.specs.declared.meaning.Meaning.{Meaning}
use Rattle.type_rules.specs.declared.meaning.Meaning.TheVariants as means
use Rattle.type_infer.specs.Readings.{item_query}

-- what is known of a key, and Circular where nothing is
abbrev pub or_circular : (Key → Option Meaning) → Key → Meaning
or_circular known key = known_or means.Circular (known key)

-- Whatever a reading asks where keys without an answer mean Circular, it needs: no answers to others let it end before that key has one.
abbrev pub AskedIsNeeded : Type 0
AskedIsNeeded = (known : Key → Option Meaning) (path : List ℕ) (key : Key) (item : Item) (asked : Key) →
    Among (dependencies (or_circular known) (item_query path key item)) asked → known asked ≡ None → Needs known (item_query path key item) asked

-- where all that it asks is known, it ends with its value
abbrev pub AllKnownEnds : Type 0
AllKnownEnds = (known : Key → Option Meaning) (path : List ℕ) (key : Key) (item : Item) →
    ((asked : Key) → Among (dependencies (or_circular known) (item_query path key item)) asked → known asked ≢ None) →
    run known (item_query path key item) ≡ Ok (value_with (or_circular known) (item_query path key item))

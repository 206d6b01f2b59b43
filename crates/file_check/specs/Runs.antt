-- How a check of a file is made: what is used is asked, and what its own declarations mean is known.
use Rattle.std.specs.Prelude.{List, [], ◌∷◌, Option, Some, None}
use Rattle.dep_key.specs.declared.key.Key.{Key}
use Rattle.type_rules.specs.declared.meaning.Meaning.{Meaning}
use Rattle.type_rules.specs.declared.ty.Ty.{Ty}
use Rattle.swift_ast.specs.Leaves.{Leaf}
use Rattle.checks.specs.Checks.{tried}
use Rattle.checks.specs.Logs.{Logged, made, saying}
use Rattle.checks.specs.OwnKeys.{used, with_own}
use Rattle.expr_check.specs.declared.line.Line.{Line}
use Rattle.expr_check.specs.Messages.{orders}
use Rattle.expr_check.specs.declared.typed.Typed.{Typed}
use Rattle.expr_check.specs.Phrases.{Phrase}
use Rattle.body_check.specs.Declarations.{FileCheck, Site, Declared, redeclaration, circle, own_meaning, outside, unless_circular, fitting_value}

-- What is made of a check so far: its value, and the log.
abbrev pub Made : Type 0 → Type 0
Made X = Option X × Logged Key Line

-- the value of a check of a file, and the log behind it
unfoldable pub run : {X : Type 0} → (Key → Meaning) → FileCheck X → Logged Key Line → Made X
run meanings check log = made orders meanings (with_own meanings check) log

-- what one more value makes of what was gathered, if both are there
abbrev pub joined : {X Y : Type 0} → (Y → X → Y) → Option Y → Option X → Option Y
joined add (Some y) (Some x) = Some (add y x)
joined add (Some y) None = None
joined add None x = None

-- what the values of some checks in a row make of what was gathered
abbrev pub gathered : {X Y : Type 0} → (Y → X → Y) → (Key → Meaning) → Option Y → List (FileCheck X) → Logged Key Line → Made Y
gathered add meanings so_far [] log = (so_far, log)
gathered add meanings so_far (check ∷ checks) log = gathered add meanings (joined add so_far (run meanings check log).0) checks (run meanings check log).1

-- the log behind what is said of how a declared name stands with the others
abbrev pub behind_standing : (Key → Meaning) → Site → Declared → Key → Leaf → Logged Key Line → Logged Key Line
behind_standing meanings f d key name log = saying orders (saying orders log (redeclaration f d name (meanings key))) (circle name (meanings key))

-- the initial value of the declaration of a key, where a type is wanted of it, or none
abbrev pub valued_by : Site → Key → Option (Option Ty) → Phrase → FileCheck (Option Typed)
valued_by f key wanted value = own_meaning key (λ meaning. used (tried (unless_circular meaning (fitting_value (outside f) wanted value))))

-- How a program makes a check: it enters what is said and what is asked into two sets.
use Rattle.std.specs.Prelude.{Bool, true, false, List, [], ◌∷◌, Option, Some, None}
use Rattle.std.specs.BTreeSet.{insert_key}
use Rattle.std.specs.declared.cmp.Ordering.{Ordering}
use Rattle.queries.specs.Queries.{Done, Fetch}
use Rattle.checks.specs.Checks.{Check, paired}

-- the elements of a list, ascending and each once, with those of a list that is so already
abbrev pub entered : {X : Type 0} → (X → X → Ordering) → List X → List X → List X
entered order set [] = set
entered order set (x ∷ xs) = entered order (insert_key order set x) xs

-- the set of the elements of a list
abbrev pub set_of : {X : Type 0} → (X → X → Ordering) → List X → List X
set_of order xs = entered order [] xs

-- how keys and how errors are ordered
pub record Orders (K : Type 0) (E : Type 0) : Type 0 where
  pub keys : K → K → Ordering
  pub errors : E → E → Ordering

-- What was said and what was asked so far, each ascending, and whether what is said counts.
pub record Logged (K : Type 0) (E : Type 0) : Type 0 where
  pub errors : List E
  pub asked : List K
  pub muted : Bool

-- before anything is said or asked
abbrev pub nothing : {K E : Type 0} → Logged K E
nothing = record { errors = []; asked = []; muted = false }

-- the errors with one more, unless it doesn't count
abbrev pub with_error : {E : Type 0} → (E → E → Ordering) → Bool → List E → E → List E
with_error order true set e = set
with_error order false set e = insert_key order set e

-- the errors with more of them, unless they don't count
abbrev pub with_errors : {E : Type 0} → (E → E → Ordering) → Bool → List E → List E → List E
with_errors order muted set [] = set
with_errors order muted set (e ∷ errors) = with_errors order muted (with_error order muted set e) errors

-- the log behind some errors
abbrev pub saying : {K E : Type 0} → Orders K E → Logged K E → List E → Logged K E
saying o log errors = record { errors = with_errors o.errors log.muted log.errors errors; asked = log.asked; muted = log.muted }

-- the log behind a key that is asked
abbrev pub asking : {K E : Type 0} → Orders K E → Logged K E → K → Logged K E
asking o log key = record { errors = log.errors; asked = insert_key o.keys log.asked key; muted = log.muted }

-- from now on what is said counts or not
abbrev pub muting : {K E : Type 0} → Bool → Logged K E → Logged K E
muting muted log = record { errors = log.errors; asked = log.asked; muted = muted }

-- The value of a check, and the log behind it, where every key is answered.
abbrev pub made : {K A E X : Type 0} → Orders K E → (K → A) → Check K A E X → Logged K E → Option X × Logged K E
made o answers (Done c) log = (c.value, saying o log c.errors)
made o answers (Fetch k g) log = made o answers (g (answers k)) (asking o log k)

-- what was made while nothing counted
abbrev pub made_hushed : {K E X : Type 0} → Bool → Option X × Logged K E → Option X × Logged K E
made_hushed muted (x, log) = (x, muting muted log)

-- what was made, whether there is a value or not
abbrev pub made_tried : {K E X : Type 0} → Option X × Logged K E → Option (Option X) × Logged K E
made_tried (x, log) = (Some x, log)

-- what is made with the value of what was made before
abbrev pub made_then : {K E X Y : Type 0} → Option X × Logged K E → (X → Logged K E → Option Y × Logged K E) → Option Y × Logged K E
made_then (None, log) f = (None, log)
made_then (Some x, log) f = f x log

-- what is made behind it in any case
abbrev pub made_both : {K E X Y : Type 0} → Option X × Logged K E → (Logged K E → Option Y × Logged K E) → Option (X × Y) × Logged K E
made_both (x, log) f = (paired x (f log).0, (f log).1)

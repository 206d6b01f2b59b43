-- What checking a part of a program gives: the errors that are said of it, and its typed form where it has no error inside.
-- A check is a task: what it asks of the module is the keys that it fetches.
use Rattle.std.specs.Prelude.{List, [], ◌∷◌, ◌++◌, Option, Some, None}
use Rattle.queries.specs.Queries.{Task, Done, Fetch}

-- The errors that are said, and the value, which is missing where an error stands inside.
pub record Checked (E : Type 0) (X : Type 0) : Type 0 where
  pub errors : List E
  pub value : Option X

abbrev pub Check : Type 0 → Type 0 → Type 0 → Type 0 → Type 0
Check K A E X = Task K A (Checked E X)

-- nothing is said, and what was found is the value
abbrev pub found : {K A E X : Type 0} → Option X → Check K A E X
found value = Done (record { errors = []; value = value })

-- a value, and nothing said
abbrev pub sure : {K A E X : Type 0} → X → Check K A E X
sure x = Done (record { errors = []; value = Some x })

-- no value, and nothing said
abbrev pub unsaid : {K A E X : Type 0} → Check K A E X
unsaid = Done (record { errors = []; value = None })

-- one error, and no value
abbrev pub error : {K A E X : Type 0} → E → Check K A E X
error e = Done (record { errors = e ∷ []; value = None })

-- some errors, and then what a check says, whose value is the value
abbrev pub behind : {K A E X : Type 0} → List E → Check K A E X → Check K A E X
behind before (Done c) = Done (record { errors = before ++ c.errors; value = c.value })
behind before (Fetch k g) = Fetch k (λ a. behind before (g a))

-- goes on where there is a value
abbrev pub on_value : {K A E X Y : Type 0} → Option X → (X → Check K A E Y) → Check K A E Y
on_value None f = unsaid
on_value (Some x) f = f x

-- One check, and then the one that its value gives. Where there is no value, nothing more is asked or said.
abbrev pub go_on : {K A E X Y : Type 0} → Check K A E X → (X → Check K A E Y) → Check K A E Y
go_on (Done c) f = behind c.errors (on_value c.value f)
go_on (Fetch k g) f = Fetch k (λ a. go_on (g a) f)

infixl 10 ◌>>=◌
abbrev pub ◌>>=◌ : {K A E X Y : Type 0} → Check K A E X → (X → Check K A E Y) → Check K A E Y
check >>= f = go_on check f

-- both values, if both are there
abbrev pub paired : {X Y : Type 0} → Option X → Option Y → Option (X × Y)
paired (Some x) (Some y) = Some (x, y)
paired _ _ = None

-- a check behind a value that was found or not
abbrev pub and_then : {K A E X Y : Type 0} → Option X → Check K A E Y → Check K A E (X × Y)
and_then first (Done d) = Done (record { errors = d.errors; value = paired first d.value })
and_then first (Fetch k g) = Fetch k (λ a. and_then first (g a))

-- Both checks, the second also where the first has an error; a value where both have one.
abbrev pub both : {K A E X Y : Type 0} → Check K A E X → Check K A E Y → Check K A E (X × Y)
both (Done c) second = behind c.errors (and_then c.value second)
both (Fetch k g) second = Fetch k (λ a. both (g a) second)

-- A check that goes on in any case: its value is whether there was one.
abbrev pub tried : {K A E X : Type 0} → Check K A E X → Check K A E (Option X)
tried (Done c) = Done (record { errors = c.errors; value = Some c.value })
tried (Fetch k g) = Fetch k (λ a. tried (g a))

-- A check that says nothing, and asks the same.
abbrev pub hushed : {K A E X : Type 0} → Check K A E X → Check K A E X
hushed (Done c) = Done (record { errors = []; value = c.value })
hushed (Fetch k g) = Fetch k (λ a. hushed (g a))

-- a check, and then the one that its outcome gives, behind what it said
abbrev pub observing : {K A E X Y : Type 0} → Check K A E X → (Option X → Check K A E Y) → Check K A E Y
observing (Done c) f = behind c.errors (f c.value)
observing (Fetch k g) f = Fetch k (λ a. observing (g a) f)

-- The first check, whose errors are said, and the second whatever they are.
abbrev pub noting : {K A E X Y : Type 0} → Check K A E X → Check K A E Y → Check K A E Y
noting first second = observing first (λ value. second)

-- one value more, if all so far were there and it is
abbrev pub appended : {X : Type 0} → Option (List X) → Option X → Option (List X)
appended (Some xs) (Some x) = Some (xs ++ x ∷ [])
appended _ _ = None

-- checks from left to right, behind values that were found
abbrev pub all_behind : {K A E X : Type 0} → Option (List X) → List (Check K A E X) → Check K A E (List X)
all_behind before [] = found before
all_behind before (check ∷ checks) = observing check (λ value. all_behind (appended before value) checks)

-- All checks from left to right, and the list of their values where all have one.
abbrev pub all : {K A E X : Type 0} → List (Check K A E X) → Check K A E (List X)
all checks = all_behind (Some []) checks

-- A value, and what each further part makes of the value so far, from the left.
abbrev pub grouped : {K A E T X Y : Type 0} → (T → X × Y → Check K A E X) → Check K A E X → List (T × Check K A E Y) → Check K A E X
grouped step left [] = left
grouped step left ((t, right) ∷ more) = grouped step (both left right >>= step t) more

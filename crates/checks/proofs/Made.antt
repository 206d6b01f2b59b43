-- What is made of checks that are put together.
use Rattle.std.proofs.Common.{◌≡◌, Bool, true, false, List, [], ◌∷◌, ◌++◌, Option, Some, None, refl, sym, ap, ◌∙◌, inl, inr}
use Rattle.std.specs.BTreeSet.{insert_key}
use Rattle.std.specs.declared.cmp.Ordering.{Ordering}
use Rattle.queries.specs.Queries.{Done, Fetch, Among, value_with, dependencies}
use Rattle.checks.specs.Checks.{Check, behind, on_value, ◌>>=◌, both, and_then, paired, noting, tried, hushed, observing, appended, all_behind}
use Rattle.checks.specs.Logs.{entered, with_error, with_errors, muting, made_hushed, made_tried, Orders, Logged, nothing, saying, asking, made, made_then, made_both}
use Rattle.checks.specs.Laws.{MadeIsTheCheck, SameAnswersMakeTheSame}

said_twice : {E : Type 0} (order : E → E → Ordering) (muted : Bool) (set one two : List E) → with_errors order muted set (one ++ two) ≡ with_errors order muted (with_errors order muted set one) two
said_twice order muted set [] two = refl
said_twice order muted set (e ∷ one) two = said_twice order muted (with_error order muted set e) one two

-- while nothing counts, the errors stay
said_hushed : {E : Type 0} (order : E → E → Ordering) (set errors : List E) → with_errors order true set errors ≡ set
said_hushed order set [] = refl
said_hushed order set (e ∷ errors) = said_hushed order set errors

-- and where all counts, they are entered
said_entered : {E : Type 0} (order : E → E → Ordering) (set errors : List E) → with_errors order false set errors ≡ entered order set errors
said_entered order set [] = refl
said_entered order set (e ∷ errors) = said_entered order (insert_key order set e) errors

-- what was said in front was said before
pub made_behind : {K A E X : Type 0} (o : Orders K E) (answers : K → A) (before : List E) (check : Check K A E X) (log : Logged K E) → made o answers (behind before check) log ≡ made o answers check (saying o log before)
made_behind o answers before (Done c) log = ap (λ l. (c.value, record { errors = l; asked = log.asked; muted = log.muted })) (said_twice o.errors log.muted log.errors before c.errors)
made_behind o answers before (Fetch k g) log = made_behind o answers before (g (answers k)) (asking o log k)

pub made_bind : {K A E X Y : Type 0} (o : Orders K E) (answers : K → A) (check : Check K A E X) (f : X → Check K A E Y) (log : Logged K E) →
    made o answers (check >>= f) log ≡ made_then (made o answers check log) (λ x log. made o answers (f x) log)
made_bind {K} {A} {E} {X} {Y} o answers (Done c) f log =
    made_behind o answers c.errors (on_value c.value f) log
    ∙ (elim c.value as (λ v. made o answers (on_value v f) (saying o log c.errors) ≡ made_then (v, saying o log c.errors) (λ x log. made o answers (f x) log)) [ None ↦ refl | Some x ↦ refl ])
made_bind o answers (Fetch k g) f log = made_bind o answers (g (answers k)) f (asking o log k)

made_second : {K A E X Y : Type 0} (o : Orders K E) (answers : K → A) (x : Option X) (check : Check K A E Y) (log : Logged K E) →
    made o answers (and_then x check) log ≡ (paired x (made o answers check log).0, (made o answers check log).1)
made_second o answers x (Done d) log = refl
made_second o answers x (Fetch k g) log = made_second o answers x (g (answers k)) (asking o log k)

pub made_of_both : {K A E X Y : Type 0} (o : Orders K E) (answers : K → A) (one : Check K A E X) (two : Check K A E Y) (log : Logged K E) →
    made o answers (both one two) log ≡ made_both (made o answers one log) (λ log. made o answers two log)
made_of_both o answers (Done c) two log = made_behind o answers c.errors (and_then c.value two) log ∙ made_second o answers c.value two (saying o log c.errors)
made_of_both o answers (Fetch k g) two log = made_of_both o answers (g (answers k)) two (asking o log k)

-- what is made behind a check whose outcome it takes
pub made_of_observing : {K A E X Y : Type 0} (o : Orders K E) (answers : K → A) (check : Check K A E X) (f : Option X → Check K A E Y) (log : Logged K E) →
    made o answers (observing check f) log ≡ made o answers (f (made o answers check log).0) (made o answers check log).1
made_of_observing o answers (Done c) f log = made_behind o answers c.errors (f c.value) log
made_of_observing o answers (Fetch k g) f log = made_of_observing o answers (g (answers k)) f (asking o log k)

pub made_of_noting : {K A E X Y : Type 0} (o : Orders K E) (answers : K → A) (one : Check K A E X) (two : Check K A E Y) (log : Logged K E) →
    made o answers (noting one two) log ≡ made o answers two (made o answers one log).1
made_of_noting o answers one two log = made_of_observing o answers one (λ value. two) log

-- the first of a list of checks, and then the others
pub made_of_first : {K A E X : Type 0} (o : Orders K E) (answers : K → A) (before : Option (List X)) (check : Check K A E X) (checks : List (Check K A E X)) (log : Logged K E) →
    made o answers (all_behind before (check ∷ checks)) log ≡ made o answers (all_behind (appended before (made o answers check log).0) checks) (made o answers check log).1
made_of_first o answers before check checks log = made_of_observing o answers check (λ value. all_behind (appended before value) checks) log

pub made_of_tried : {K A E X : Type 0} (o : Orders K E) (answers : K → A) (check : Check K A E X) (log : Logged K E) → made o answers (tried check) log ≡ made_tried (made o answers check log)
made_of_tried o answers (Done c) log = refl
made_of_tried o answers (Fetch k g) log = made_of_tried o answers (g (answers k)) (asking o log k)

pub made_of_hushed : {K A E X : Type 0} (o : Orders K E) (answers : K → A) (check : Check K A E X) (log : Logged K E) → made o answers (hushed check) log ≡ made_hushed log.muted (made o answers check (muting true log))
made_of_hushed o answers (Done c) log = ap (λ l. (c.value, record { errors = l; asked = log.asked; muted = log.muted })) (sym (said_hushed o.errors log.errors c.errors))
made_of_hushed o answers (Fetch k g) log = made_of_hushed o answers (g (answers k)) (asking o log k)

-- what is made is the value, what is said and what is asked
made_is : {K A E X : Type 0} (o : Orders K E) (answers : K → A) (check : Check K A E X) (log : Logged K E) → log.muted ≡ false →
    made o answers check log ≡ ((value_with answers check).value, record { errors = entered o.errors log.errors (value_with answers check).errors; asked = entered o.keys log.asked (dependencies answers check); muted = false })
made_is o answers (Done c) log h =
    ap (λ m. (c.value, record { errors = with_errors o.errors m log.errors c.errors; asked = log.asked; muted = m })) h
    ∙ ap (λ l. (c.value, record { errors = l; asked = log.asked; muted = false })) (said_entered o.errors log.errors c.errors)
made_is o answers (Fetch k g) log h = made_is o answers (g (answers k)) (asking o log k) h

pub made_from_nothing : {K A E X : Type 0} → MadeIsTheCheck K A E X
made_from_nothing o answers check = made_is o answers check nothing refl

-- what is made depends on the answers to what is asked
pub made_alike : {K A E X : Type 0} → SameAnswersMakeTheSame K A E X
made_alike o p q (Done c) log h = refl
made_alike o p q (Fetch k g) log h = made_alike o p q (g (p k)) (asking o log k) (λ u m. h u (inr m)) ∙ ap (λ a. made o q (g a) (asking o log k)) (h k (inl refl))

-- What is made of checks of a file that are put together.
use Rattle.std.proofs.Common.{◌≡◌, List, [], ◌∷◌, ◌++◌, true, Option, Some, None, refl, ap, ◌∙◌}
use Rattle.dep_key.specs.declared.key.Key.{Key}
use Rattle.type_rules.specs.declared.meaning.Meaning.{Meaning}
use Rattle.type_rules.specs.declared.meaning.Meaning.TheVariants.{Circular}
use Rattle.std.specs.Option.{option_map}
use Rattle.queries.specs.Queries.{Done, Fetch}
use Rattle.checks.specs.Checks.{behind, sure, ◌>>=◌, noting, observing, hushed, appended, all_behind, all}
use Rattle.checks.specs.Logs.{Logged, made, made_then, made_hushed, saying, asking, muting}
use Rattle.checks.specs.OwnKeys.{Use, Own, used, with_own}
use Rattle.checks.proofs.Made.{made_bind, made_behind, made_of_hushed}
use Rattle.checks.proofs.Owned.{own_bind, used_asked}
use Rattle.expr_check.specs.declared.line.Line.{Line}
use Rattle.expr_check.specs.Messages.{orders}
use Rattle.expr_check.specs.Types.{CheckOf}
use Rattle.body_check.specs.Declarations.{FileCheck, own_meaning, used_meaning, lines_of}
use Rattle.file_check.specs.Runs.{run, joined, gathered}

own_behind : {X : Type 0} (meanings : Key → Meaning) (before : List Line) (check : FileCheck X) → with_own meanings (behind before check) ≡ behind before (with_own meanings check)
own_behind meanings before (Done c) = refl
own_behind meanings before (Fetch (Use k) g) = λ i. Fetch k (λ a. own_behind meanings before (g a) i)
own_behind meanings before (Fetch (Own k) g) = own_behind meanings before (g (meanings k))

own_hushed : {X : Type 0} (meanings : Key → Meaning) (check : FileCheck X) → with_own meanings (hushed check) ≡ hushed (with_own meanings check)
own_hushed meanings (Done c) = refl
own_hushed meanings (Fetch (Use k) g) = λ i. Fetch k (λ a. own_hushed meanings (g a) i)
own_hushed meanings (Fetch (Own k) g) = own_hushed meanings (g (meanings k))

pub run_sure : {X : Type 0} (meanings : Key → Meaning) (x : X) (log : Logged Key Line) → run meanings (sure x) log ≡ (Some x, log)
unfolding run
run_sure meanings x log = refl

pub run_behind : {X : Type 0} (meanings : Key → Meaning) (before : List Line) (check : FileCheck X) (log : Logged Key Line) → run meanings (behind before check) log ≡ run meanings check (saying orders log before)
unfolding run
run_behind meanings before check log = ap (λ c. made orders meanings c log) (own_behind meanings before check) ∙ made_behind orders meanings before (with_own meanings check) log

pub run_lines : (meanings : Key → Meaning) (lines : List Line) (log : Logged Key Line) → run meanings (lines_of lines) log ≡ (Some [], saying orders log lines)
run_lines meanings lines log = run_behind meanings lines (sure []) log ∙ run_sure meanings [] (saying orders log lines)

pub run_bind : {X Y : Type 0} (meanings : Key → Meaning) (check : FileCheck X) (f : X → FileCheck Y) (log : Logged Key Line) →
    run meanings (check >>= f) log ≡ made_then (run meanings check log) (λ x log. run meanings (f x) log)
unfolding run
run_bind meanings check f log = ap (λ c. made orders meanings c log) (own_bind meanings check f) ∙ made_bind orders meanings (with_own meanings check) (λ x. with_own meanings (f x)) log

pub run_observing : {X Y : Type 0} (meanings : Key → Meaning) (check : FileCheck X) (f : Option X → FileCheck Y) (log : Logged Key Line) →
    run meanings (observing check f) log ≡ run meanings (f (run meanings check log).0) (run meanings check log).1
unfolding run
run_observing meanings (Done c) f log = run_behind meanings c.errors (f c.value) log
run_observing meanings (Fetch (Use k) g) f log = run_observing meanings (g (meanings k)) f (asking orders log k)
run_observing meanings (Fetch (Own k) g) f log = run_observing meanings (g (meanings k)) f log

pub run_noting : {X Y : Type 0} (meanings : Key → Meaning) (one : FileCheck X) (two : FileCheck Y) (log : Logged Key Line) → run meanings (noting one two) log ≡ run meanings two (run meanings one log).1
run_noting meanings one two log = run_observing meanings one (λ value. two) log

pub run_used : {X : Type 0} (meanings : Key → Meaning) (check : CheckOf X) (log : Logged Key Line) → run meanings (used check) log ≡ made orders meanings check log
unfolding run
run_used meanings check log = ap (λ c. made orders meanings c log) (used_asked meanings check)

pub run_own_meaning : {X : Type 0} (meanings : Key → Meaning) (key : Key) (f : Meaning → FileCheck X) (log : Logged Key Line) → run meanings (own_meaning key f) log ≡ run meanings (f (meanings key)) log
unfolding run
run_own_meaning meanings key f log = refl

pub run_used_meaning : {X : Type 0} (meanings : Key → Meaning) (key : Key) (f : Meaning → FileCheck X) (log : Logged Key Line) →
    run meanings (used_meaning key f) log ≡ run meanings (f (meanings key)) (asking orders log key)
unfolding run
run_used_meaning meanings key f log = refl

pub run_hushed : {X : Type 0} (meanings : Key → Meaning) (check : FileCheck X) (log : Logged Key Line) → run meanings (hushed check) log ≡ made_hushed log.muted (run meanings check (muting true log))
unfolding run
run_hushed meanings check log = ap (λ c. made orders meanings c log) (own_hushed meanings check) ∙ made_of_hushed orders meanings (with_own meanings check) log

-- one more value before and behind what is put together
joined_appended : {X Y : Type 0} (add : Y → X → Y) (whole : List X → Y) → ((xs : List X) (x : X) → whole (xs ++ x ∷ []) ≡ add (whole xs) x) →
    (before : Option (List X)) (value : Option X) → option_map whole (appended before value) ≡ joined add (option_map whole before) value
joined_appended add whole more None value = refl
joined_appended add whole more (Some xs) None = refl
joined_appended add whole more (Some xs) (Some x) = ap Some (more xs x)

pub all_gathered : {X Y : Type 0} (meanings : Key → Meaning) (add : Y → X → Y) (whole : List X → Y) → ((xs : List X) (x : X) → whole (xs ++ x ∷ []) ≡ add (whole xs) x) →
    (before : Option (List X)) (checks : List (FileCheck X)) (log : Logged Key Line) →
    made_then (run meanings (all_behind before checks) log) (λ xs log. (Some (whole xs), log)) ≡ gathered add meanings (option_map whole before) checks log
unfolding run
all_gathered meanings add whole more None [] log = refl
all_gathered meanings add whole more (Some xs) [] log = refl
all_gathered meanings add whole more before (check ∷ checks) log =
    let one = run meanings check log in
    ap (λ m. made_then m (λ xs log. (Some (whole xs), log))) (run_observing meanings check (λ value. all_behind (appended before value) checks) log)
    ∙ all_gathered meanings add whole more (appended before one.0) checks one.1
    ∙ ap (λ s. gathered add meanings s checks one.1) (joined_appended add whole more before one.0)

-- what checks in a row give, whose values one function puts together
pub run_gathered : {X Y : Type 0} (meanings : Key → Meaning) (add : Y → X → Y) (whole : List X → Y) → ((xs : List X) (x : X) → whole (xs ++ x ∷ []) ≡ add (whole xs) x) →
    (checks : List (FileCheck X)) (log : Logged Key Line) → run meanings (all checks >>= (λ xs. sure (whole xs))) log ≡ gathered add meanings (Some (whole [])) checks log
unfolding run
run_gathered meanings add whole more checks log = run_bind meanings (all checks) (λ xs. sure (whole xs)) log ∙ all_gathered meanings add whole more (Some []) checks log

-- some errors, and then others
pub saying_both : (one two : List Line) (log : Logged Key Line) → saying orders log (one ++ two) ≡ saying orders (saying orders log one) two
saying_both one two log = ap (λ m. m.1) (made_behind {X = List Line} orders (λ key. Circular) one (Done (record { errors = two; value = None })) log)

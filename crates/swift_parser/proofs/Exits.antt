-- The exits of a function of the parser.
use Rattle.std.proofs.Common.{◌≡◌, Bool, true, List, ◌∷◌, sym, ◌∙◌, ap, subst, Option, Some, None, Result, Ok, Err}
use Rattle.std.specs.Result.{IsErrAnd}
use Rattle.std.proofs.lemmas.Result.{err_from_is_err_and}
use Rattle.grammar.specs.Forms.{Form, token, begins_by, nothing}
use Rattle.grammar.specs.Faults.{Stops, Parsed, FailsAt}
use Rattle.grammar.proofs.Basics.{stops_nothing}
use Rattle.swift_ast.specs.Leaves.{Leaf}
use Rattle.token_cursor.specs.declared.stop.Stop.{Stop}
use Rattle.token_cursor.specs.declared.stop.Stop.TheVariants as stop
use Rattle.token_cursor.specs.Reading.{Parses, ParsesIf, TakesIf, Eaten}

passes_at : {X Y : Type 0} (f : Form Leaf X) (g : Form Leaf Y) (e : Stop) (o n p m : List Leaf) → Parses f (Err e) o n → (FailsAt f o n → FailsAt g p m) → Parses g (Err e) p m
passes_at f g stop.Unexpected o n p m r step = step r
passes_at f g stop.NoMemory o n p m r step = tt

-- an error that goes on to the caller
pub passes : {X Y : Type 0} (f : Form Leaf X) (g : Form Leaf Y) (r : Result Y Stop) (e : Stop) (o n p m : List Leaf) → IsErrAnd r (λ x. x ≡ e) → Parses f (Err e) o n → (FailsAt f o n → FailsAt g p m) → Parses g r p m
passes f g r e o n p m is reads step =
    let found = err_from_is_err_and r is in
    subst (λ z. Parses g z p m) (sym (found.1 ∙ ap (λ x. Err x) found.2)) (passes_at f g e o n p m reads step)

passes_if_at : {X Y : Type 0} (test : Leaf → Bool) (f : Form Leaf X) (g : Form Leaf Y) (e : Stop) (o n p m : List Leaf) → ParsesIf test f (Err e) o n → (begins_by test o ≡ true → FailsAt f o n → FailsAt g p m) → Parses g (Err e) p m
passes_if_at test f g stop.Unexpected o n p m r step = step r.0 r.1
passes_if_at test f g stop.NoMemory o n p m r step = tt

-- the same of a part that may be left out
pub passes_if : {X Y : Type 0} (test : Leaf → Bool) (f : Form Leaf X) (g : Form Leaf Y) (r : Result Y Stop) (e : Stop) (o n p m : List Leaf) → IsErrAnd r (λ x. x ≡ e) → ParsesIf test f (Err e) o n → (begins_by test o ≡ true → FailsAt f o n → FailsAt g p m) → Parses g r p m
passes_if test f g r e o n p m is reads step =
    let found = err_from_is_err_and r is in
    subst (λ z. Parses g z p m) (sym (found.1 ∙ ap (λ x. Err x) found.2)) (passes_if_at test f g e o n p m reads step)

passes_to_at : {X Y : Type 0} (test : Leaf → Bool) (f : Form Leaf X) (g : Form Leaf Y) (e : Stop) (o n p m : List Leaf) → Parses f (Err e) o n → begins_by test p ≡ true → (FailsAt f o n → FailsAt g p m) → ParsesIf test g (Err e) p m
passes_to_at test f g stop.Unexpected o n p m r h step = (h, step r)
passes_to_at test f g stop.NoMemory o n p m r h step = tt

-- an error that goes on out of a part that may be left out
pub passes_to : {X Y : Type 0} (test : Leaf → Bool) (f : Form Leaf X) (g : Form Leaf Y) (r : Result (Option Y) Stop) (e : Stop) (o n p m : List Leaf) → IsErrAnd r (λ x. x ≡ e) → Parses f (Err e) o n → begins_by test p ≡ true → (FailsAt f o n → FailsAt g p m) → ParsesIf test g r p m
passes_to test f g r e o n p m is reads h step =
    let found = err_from_is_err_and r is in
    subst (λ z. ParsesIf test g z p m) (sym (found.1 ∙ ap (λ x. Err x) found.2)) (passes_to_at test f g e o n p m reads h step)

-- what eating says of a token, and of none
pub eaten : (test : Leaf → Bool) (o : Option Leaf) (x : Leaf) (old new : List Leaf) → Eaten test o old new → o ≡ Some x → (old ≡ x ∷ new) × (test x ≡ true)
eaten test o x old new e is = subst (λ z. Eaten test z old new) is e

pub uneaten : (test : Leaf → Bool) (o : Option Leaf) (old new : List Leaf) → Eaten test o old new → o ≡ None → (old ≡ new) × Stops test new
uneaten test o old new e is = let f = subst (λ z. Eaten test z old new) is e in (sym f.0, subst (λ ts. Stops test ts) (sym f.0) f.1)

-- a token that was eaten is a tree that was taken
pub ate : (test : Leaf → Bool) (o : Option Leaf) (x : Leaf) (old new : List Leaf) → Eaten test o old new → o ≡ Some x → Parsed (token test) x nothing old new
ate test o x old new e is = let f = eaten test o x old new e is in record { spelled = f.0; right = f.1; stops = stops_nothing new }

-- what taking says of a tree, and of none
pub took : {X : Type 0} (test : Leaf → Bool) (f : Form Leaf X) (o : Option X) (x : X) (old new : List Leaf) → TakesIf test f o old new → o ≡ Some x → Parsed f x nothing old new
took test f o x old new e is = subst (λ z. TakesIf test f z old new) is e

pub untaken : {X : Type 0} (test : Leaf → Bool) (f : Form Leaf X) (o : Option X) (old new : List Leaf) → TakesIf test f o old new → o ≡ None → (old ≡ new) × Stops test new
untaken test f o old new e is = let g = subst (λ z. TakesIf test f z old new) is e in (sym g.0, subst (λ ts. Stops test ts) (sym g.0) g.1)

-- what reading says of a tree, and of none
pub found : {X : Type 0} (test : Leaf → Bool) (f : Form Leaf X) (o : Option X) (x : X) (old new : List Leaf) → ParsesIf test f (Ok o) old new → o ≡ Some x → Parsed f x (f.continues x) old new
found test f o x old new e is = subst (λ z. ParsesIf test f (Ok z) old new) is e

pub none_found : {X : Type 0} (test : Leaf → Bool) (f : Form Leaf X) (o : Option X) (old new : List Leaf) → ParsesIf test f (Ok o) old new → o ≡ None → (old ≡ new) × Stops test new
none_found test f o old new e is = let g = subst (λ z. ParsesIf test f (Ok z) old new) is e in (sym g.0, subst (λ ts. Stops test ts) (sym g.0) g.1)

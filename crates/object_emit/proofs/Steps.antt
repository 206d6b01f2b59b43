-- The piece of each step.
use Rattle.std.proofs.Common.{◌≡◌, ℕ, ◌<◌, ◌≤◌, ◌+◌, List, [], ◌∷◌, Bool, map, length, drop, get_or, sym, ap, ◌∙◌}
use Rattle.std.proofs.lemmas.List.{drop_more, drop_all}
use Rattle.type_rules.specs.declared.ty.Ty.{Ty}
use Rattle.object_emit.specs.declared.instruction.Instruction.TheVariants as op
use Rattle.typed_code.specs.declared.step.Operator.{Operator}
use Rattle.typed_code.specs.declared.step.Step.{Step, Step-F, fold-Step, fold-roll-Step}
use Rattle.typed_code.specs.declared.step.Step.TheVariants as v
use Rattle.typed_code.specs.declared.step.Branch.{Branch, out-Branch, fold_out-Branch}
use Rattle.object_emit.specs.Layouts.{words, struct_words, total, slot_in, offset_of, offset_along}
use Rattle.object_emit.specs.Pieces.{Emitted, Piece, plain, one, behind, in_row, and_piece, or_piece, while_piece, branch_piece, branches_piece, if_piece}
use Rattle.object_emit.specs.Emission.{Site, integer_text, property, dropped, step_layer, branch_layer, step_piece, steps_piece, branch_parts, branches_parts}
use Rattle.object_emit.proofs.Joining.{behind_joined, behind_none, taken, while_emitted, if_emitted}

abbrev step_fold : Site → Step → Piece
step_fold s = fold-Step Piece (Piece × Piece) (step_layer s) branch_layer

pub step_integer : (s : Site) (text : List ℕ) → step_piece s (v.Integer text) ≡ one (op.Int (integer_text text))
unfolding step_piece steps_piece branch_parts branches_parts
step_integer s text = ap (step_fold s) (sym (v.rolls-Integer text)) ∙ fold-roll-Step Piece (Piece × Piece) (step_layer s) branch_layer (Step-F.Integer text)

pub step_string : (s : Site) (text : List ℕ) → step_piece s (v.StringText text) ≡ one (op.Str text)
unfolding step_piece steps_piece branch_parts branches_parts
step_string s text = ap (step_fold s) (sym (v.rolls-StringText text)) ∙ fold-roll-Step Piece (Piece × Piece) (step_layer s) branch_layer (Step-F.StringText text)

pub step_truth : (s : Site) (b : Bool) → step_piece s (v.Truth b) ≡ one (op.Bool b)
unfolding step_piece steps_piece branch_parts branches_parts
step_truth s b = ap (step_fold s) (sym (v.rolls-Truth b)) ∙ fold-roll-Step Piece (Piece × Piece) (step_layer s) branch_layer (Step-F.Truth b)

pub step_local : (s : Site) (number : ℕ) (of : Ty) → step_piece s (v.Local number of) ≡ one (op.Get (slot_in s.slots number) (words s.answers of))
unfolding step_piece steps_piece branch_parts branches_parts
step_local s number of = ap (step_fold s) (sym (v.rolls-Local number of)) ∙ fold-roll-Step Piece (Piece × Piece) (step_layer s) branch_layer (Step-F.Local number of)

pub step_self : (s : Site) (of : Ty) → step_piece s (v.SelfValue of) ≡ one (op.Get 0 (words s.answers of))
unfolding step_piece steps_piece branch_parts branches_parts
step_self s of = ap (step_fold s) (sym (v.rolls-SelfValue of)) ∙ fold-roll-Step Piece (Piece × Piece) (step_layer s) branch_layer (Step-F.SelfValue of)

pub step_global : (s : Site) (symbol : List ℕ) (of : Ty) → step_piece s (v.Global symbol of) ≡ one (op.Load symbol 0 (words s.answers of))
unfolding step_piece steps_piece branch_parts branches_parts
step_global s symbol of = ap (step_fold s) (sym (v.rolls-Global symbol of)) ∙ fold-roll-Step Piece (Piece × Piece) (step_layer s) branch_layer (Step-F.Global symbol of)

pub step_property : (s : Site) (context name : List ℕ) (of : Ty) → step_piece s (v.Property context name of) ≡ one (property (struct_words s.answers context) context name (words s.answers of) (offset_of s.answers context name))
unfolding step_piece steps_piece branch_parts branches_parts
step_property s context name of = ap (step_fold s) (sym (v.rolls-Property context name of)) ∙ fold-roll-Step Piece (Piece × Piece) (step_layer s) branch_layer (Step-F.Property context name of)

pub step_call : (s : Site) (symbol : List ℕ) (takes : List Ty) (gives : Ty) → step_piece s (v.Call symbol takes gives) ≡ one (op.Call symbol (total s.answers takes) (words s.answers gives))
unfolding step_piece steps_piece branch_parts branches_parts
step_call s symbol takes gives = ap (step_fold s) (sym (v.rolls-Call symbol takes gives)) ∙ fold-roll-Step Piece (Piece × Piece) (step_layer s) branch_layer (Step-F.Call symbol takes gives)

pub step_print : (s : Site) (of : Ty) → step_piece s (v.Print of) ≡ one (op.Print of)
unfolding step_piece steps_piece branch_parts branches_parts
step_print s of = ap (step_fold s) (sym (v.rolls-Print of)) ∙ fold-roll-Step Piece (Piece × Piece) (step_layer s) branch_layer (Step-F.Print of)

pub step_operate : (s : Site) (operator : Operator) (of : Ty) → step_piece s (v.Operate operator of) ≡ one (op.Operate operator of)
unfolding step_piece steps_piece branch_parts branches_parts
step_operate s operator of = ap (step_fold s) (sym (v.rolls-Operate operator of)) ∙ fold-roll-Step Piece (Piece × Piece) (step_layer s) branch_layer (Step-F.Operate operator of)

pub step_negate : (s : Site) → step_piece s v.Negate ≡ one op.Neg
unfolding step_piece steps_piece branch_parts branches_parts
step_negate s = ap (step_fold s) (sym v.rolls-Negate) ∙ fold-roll-Step Piece (Piece × Piece) (step_layer s) branch_layer Step-F.Negate

pub step_not : (s : Site) → step_piece s v.Not ≡ one op.Not
unfolding step_piece steps_piece branch_parts branches_parts
step_not s = ap (step_fold s) (sym v.rolls-Not) ∙ fold-roll-Step Piece (Piece × Piece) (step_layer s) branch_layer Step-F.Not

pub step_and : (s : Site) (right : List Step) → step_piece s (v.And right) ≡ and_piece (steps_piece s right)
unfolding step_piece steps_piece branch_parts branches_parts
step_and s right = ap (step_fold s) (sym (v.rolls-And right)) ∙ fold-roll-Step Piece (Piece × Piece) (step_layer s) branch_layer (Step-F.And right)

pub step_or : (s : Site) (right : List Step) → step_piece s (v.Or right) ≡ or_piece (steps_piece s right)
unfolding step_piece steps_piece branch_parts branches_parts
step_or s right = ap (step_fold s) (sym (v.rolls-Or right)) ∙ fold-roll-Step Piece (Piece × Piece) (step_layer s) branch_layer (Step-F.Or right)

pub step_set_local : (s : Site) (number : ℕ) (members : List (List ℕ × List ℕ)) (of : Ty) → step_piece s (v.SetLocal number members of) ≡ one (op.Set (slot_in s.slots number + offset_along s.answers members) (words s.answers of))
unfolding step_piece steps_piece branch_parts branches_parts
step_set_local s number members of = ap (step_fold s) (sym (v.rolls-SetLocal number members of)) ∙ fold-roll-Step Piece (Piece × Piece) (step_layer s) branch_layer (Step-F.SetLocal number members of)

pub step_set_global : (s : Site) (symbol : List ℕ) (members : List (List ℕ × List ℕ)) (of : Ty) → step_piece s (v.SetGlobal symbol members of) ≡ one (op.Store symbol (offset_along s.answers members) (words s.answers of))
unfolding step_piece steps_piece branch_parts branches_parts
step_set_global s symbol members of = ap (step_fold s) (sym (v.rolls-SetGlobal symbol members of)) ∙ fold-roll-Step Piece (Piece × Piece) (step_layer s) branch_layer (Step-F.SetGlobal symbol members of)

pub step_return : (s : Site) (of : Ty) → step_piece s (v.Return of) ≡ one (op.Return (words s.answers of))
unfolding step_piece steps_piece branch_parts branches_parts
step_return s of = ap (step_fold s) (sym (v.rolls-Return of)) ∙ fold-roll-Step Piece (Piece × Piece) (step_layer s) branch_layer (Step-F.Return of)

pub step_drop : (s : Site) (of : Ty) → step_piece s (v.Drop of) ≡ plain (dropped (words s.answers of))
unfolding step_piece steps_piece branch_parts branches_parts
step_drop s of = ap (step_fold s) (sym (v.rolls-Drop of)) ∙ fold-roll-Step Piece (Piece × Piece) (step_layer s) branch_layer (Step-F.Drop of)

pub step_while : (s : Site) (condition block : List Step) → step_piece s (v.While condition block) ≡ while_piece (steps_piece s condition) (steps_piece s block)
unfolding step_piece steps_piece branch_parts branches_parts
step_while s condition block = ap (step_fold s) (sym (v.rolls-While condition block)) ∙ fold-roll-Step Piece (Piece × Piece) (step_layer s) branch_layer (Step-F.While condition block)

pub step_if : (s : Site) (branches : List Branch) (last : List Step) → step_piece s (v.If branches last) ≡ if_piece (branches_parts s branches) (steps_piece s last)
unfolding step_piece steps_piece branch_parts branches_parts
step_if s branches last = ap (step_fold s) (sym (v.rolls-If branches last)) ∙ fold-roll-Step Piece (Piece × Piece) (step_layer s) branch_layer (Step-F.If branches last)

pub branch_is : (s : Site) (b : Branch) → branch_parts s b ≡ (steps_piece s (out-Branch b).condition, steps_piece s (out-Branch b).block)
unfolding branch_parts steps_piece step_piece
branch_is s b = fold_out-Branch Piece (Piece × Piece) (step_layer s) branch_layer b

-- one step more, and none
pub steps_turn : (s : Site) (steps : List Step) (i : ℕ) (d : Step) (old new : Emitted) → i < length steps → new ≡ behind old (step_piece s (get_or steps i d)) →
    behind old (steps_piece s (drop i steps)) ≡ behind new (steps_piece s (drop (i + 1) steps))
unfolding steps_piece
steps_turn s steps i d old new lt h =
    ap (λ l. behind old (in_row (map (step_piece s) l))) (drop_more steps i d lt)
    ∙ behind_joined old (step_piece s (get_or steps i d)) (in_row (map (step_piece s) (drop (i + 1) steps)))
    ∙ ap (λ e. behind e (in_row (map (step_piece s) (drop (i + 1) steps)))) (sym h)

pub steps_end : (s : Site) (steps : List Step) (i : ℕ) (e : Emitted) → length steps ≤ i → behind e (steps_piece s (drop i steps)) ≡ e
unfolding steps_piece
steps_end s steps i e le = ap (λ l. behind e (in_row (map (step_piece s) l))) (drop_all i steps le) ∙ behind_none e

-- one branch more, and none
pub branches_turn : (s : Site) (end : ℕ) (branches : List Branch) (i : ℕ) (d : Branch) (old new : Emitted) → i < length branches → new ≡ behind old (branch_piece end (branch_parts s (get_or branches i d))) →
    behind old (branches_piece end (branches_parts s (drop i branches))) ≡ behind new (branches_piece end (branches_parts s (drop (i + 1) branches)))
unfolding branches_parts
branches_turn s end branches i d old new lt h =
    ap (λ l. behind old (branches_piece end (map (branch_parts s) l))) (drop_more branches i d lt)
    ∙ behind_joined old (branch_piece end (branch_parts s (get_or branches i d))) (branches_piece end (map (branch_parts s) (drop (i + 1) branches)))
    ∙ ap (λ e. behind e (branches_piece end (map (branch_parts s) (drop (i + 1) branches)))) (sym h)

pub branches_end : (s : Site) (end : ℕ) (branches : List Branch) (i : ℕ) (e : Emitted) → length branches ≤ i → behind e (branches_piece end (branches_parts s (drop i branches))) ≡ e
unfolding branches_parts
branches_end s end branches i e le = ap (λ l. behind e (branches_piece end (map (branch_parts s) l))) (drop_all i branches le) ∙ behind_none e

-- a `while`, piece by piece
pub while_step : (s : Site) (condition block : List Step) (old begun one_ two three_ four new : Emitted) → begun ≡ taken 2 old → one_ ≡ behind begun (one (op.Label old.next)) → two ≡ behind one_ (steps_piece s condition) →
    three_ ≡ behind two (one (op.Unless (old.next + 1))) → four ≡ behind three_ (steps_piece s block) → new ≡ behind four (plain (op.Jump old.next ∷ op.Label (old.next + 1) ∷ [])) → new ≡ behind old (step_piece s (v.While condition block))
while_step s condition block old begun one_ two three_ four new b o t h f n =
    while_emitted (steps_piece s condition) (steps_piece s block) old begun one_ two three_ four new b o t h f n ∙ ap (λ p. behind old p) (sym (step_while s condition block))

-- an `if`, piece by piece
pub if_step : (s : Site) (branches : List Branch) (last : List Step) (old begun first mid new : Emitted) → begun ≡ taken 1 old → first ≡ behind begun (branches_piece old.next (branches_parts s branches)) → mid ≡ behind first (steps_piece s last) →
    new ≡ behind mid (one (op.Label old.next)) → new ≡ behind old (step_piece s (v.If branches last))
if_step s branches last old begun first mid new b f m n =
    if_emitted (λ end. branches_piece end (branches_parts s branches)) (steps_piece s last) old begun first mid new b f m n ∙ ap (λ p. behind old p) (sym (step_if s branches last))

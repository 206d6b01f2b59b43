-- Arguments and their values, one by one.
use Rattle.std.proofs.Common.{arith, ◌≡◌, length, List, [], ◌∷◌, ◌++◌, flat_map, Option, Some, None, refl, sym, ap, ◌∙◌, append_assoc}
use Rattle.std.specs.Vec.Iter.{into_iter_items, into_iter_len}
use Rattle.std.specs.declared.vec.IntoIter.{IntoIter}
use Rattle.dep_key.specs.declared.key.Key.{Key}
use Rattle.type_rules.specs.declared.meaning.Meaning.{Meaning}
use Rattle.typed_code.specs.declared.step.Step.{Step}
use Rattle.swift_ast.specs.Leaves.{Leaf}
use Rattle.checks.specs.Checks.{appended, all_behind}
use Rattle.checks.specs.Logs.{Orders, Logged, made}
use Rattle.checks.proofs.Made.{made_of_first}
use Rattle.expr_check.specs.declared.line.Line.{Line}
use Rattle.expr_check.specs.declared.typed.Typed.{Typed}
use Rattle.expr_check.specs.Types.{CheckOf}
use Rattle.type_rules.specs.declared.meaning.Parameter.{Parameter}
use Rattle.expr_check.specs.Expressions.{Given, converted, fitted, print_call}
use Rattle.expr_tree.specs.declared.given.Given as argument
use Rattle.expr_tree.specs.Callees.{lone, print_lone, given_view, givens_view}

-- behind one check of a list, the others
pub goes_on : {X : Type 0} (o : Orders Key Line) (meanings : Key → Meaning) (before next : Option (List X)) (check : CheckOf X) (checks : List (CheckOf X)) (got : Option X) (old new : Logged Key Line) →
    (got, new) ≡ made o meanings check old → next ≡ appended before got →
    made o meanings (all_behind before (check ∷ checks)) old ≡ made o meanings (all_behind next checks) new
goes_on o meanings before next check checks got old new h e =
    made_of_first o meanings before check checks old
    ∙ ap (λ m. made o meanings (all_behind (appended before m.0) checks) m.1) (sym h)
    ∙ ap (λ b. made o meanings (all_behind b checks) new) (sym e)

-- the steps of one value more
pub joined_behind : (done rest : List Step) (v : Typed) (values : List Typed) → (done ++ v.code) ++ flat_map (λ (v : Typed). v.code) values ≡ done ++ flat_map (λ (v : Typed). v.code) (v ∷ values)
joined_behind done rest v values = append_assoc done v.code (flat_map (λ (v : Typed). v.code) values)

-- the only argument is the last one
pub lone_alone : (all rest : List argument.Given) (g : argument.Given) → all ≡ rest ++ g ∷ [] → rest ≡ [] → lone (givens_view all) ≡ Some (given_view g)
lone_alone all rest g e n = ap (λ l. lone (givens_view l)) (e ∙ ap (λ r. r ++ g ∷ []) n)

lone_behind : (rest : List argument.Given) (g : argument.Given) → (rest ≡ [] → ⊥) → lone (givens_view (rest ++ g ∷ [])) ≡ None
lone_behind [] g n = absurd (n refl)
lone_behind (one ∷ []) g n = refl
lone_behind (one ∷ two ∷ rest) g n = refl

pub lone_of_more : (all rest : List argument.Given) (g : argument.Given) → all ≡ rest ++ g ∷ [] → (rest ≡ [] → ⊥) → lone (givens_view all) ≡ None
lone_of_more all rest g e n = ap (λ l. lone (givens_view l)) e ∙ lone_behind rest g n

-- `print` looks at the only argument
pub prints_alone : (t : Leaf) (givens : List Given) → print_call t givens ≡ print_lone t (lone givens)
prints_alone t [] = refl
prints_alone t (g ∷ []) = refl
prints_alone t (g ∷ next ∷ givens) = refl

none_left : {X : Type 0} (xs : List X) → length xs ≡ 0 → xs ≡ []
none_left [] n = refl
none_left (x ∷ xs) n = absurd (omega arith)

-- where no argument is left, none is to be fitted
pub fitted_none : (params : List Parameter) → fitted params [] ≡ []
fitted_none [] = refl
fitted_none (p ∷ params) = refl

-- an argument where its parameter is wanted, and the others behind it
pub fits : (o : Orders Key Line) (meanings : Key → Meaning) (params more : List Parameter) (p : Parameter) (all rest : List argument.Given) (g : argument.Given) (before next : Option (List Typed)) (got : Option Typed) (old new : Logged Key Line) →
    params ≡ p ∷ more → all ≡ g ∷ rest → (got, new) ≡ made o meanings (converted g.first p.ty g.value) old → next ≡ appended before got →
    made o meanings (all_behind next (fitted more (givens_view rest))) new ≡ made o meanings (all_behind before (fitted params (givens_view all))) old
fits o meanings params more p all rest g before next got old new e f h n =
    sym (goes_on o meanings before next (converted g.first p.ty g.value) (fitted more (givens_view rest)) got old new h n)
    ∙ ap (λ ps. made o meanings (all_behind before (fitted ps (givens_view (g ∷ rest)))) old) (sym e)
    ∙ ap (λ gs. made o meanings (all_behind before (fitted params (givens_view gs))) old) (sym f)

-- the end of the arguments
pub fits_end : {Z : Type 0} (o : Orders Key Line) (meanings : Key → Meaning) (params : List Parameter) (it : IntoIter argument.Given Z) (values : Option (List Typed)) (log : Logged Key Line) →
    into_iter_len it ≡ length (into_iter_items it) → into_iter_len it ≡ 0 → (values, log) ≡ made o meanings (all_behind values (fitted params (givens_view (into_iter_items it)))) log
fits_end o meanings params it values log e n =
    ap (λ cs. made o meanings (all_behind values cs) log) (sym (ap (λ gs. fitted params (givens_view gs)) (none_left (into_iter_items it) (sym e ∙ n)) ∙ fitted_none params))

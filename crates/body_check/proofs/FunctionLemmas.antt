-- Functions, part by part.
use Rattle.std.proofs.Common.{◌≡◌, ℕ, ◌+◌, ◌<◌, ◌≤◌, arith, Bool, false, List, [], ◌∷◌, ◌++◌, map, length, drop, get_or, Option, Some, None, refl, sym, ap, ◌∙◌}
use Rattle.std.proofs.lemmas.List.{drop_more, drop_all, append-nil, append_assoc, length-map}
use Rattle.std.specs.Option.{option_map}
use Rattle.dep_key.specs.declared.key.Key.{Key}
use Rattle.type_rules.specs.declared.meaning.Meaning.{Meaning}
use Rattle.type_rules.specs.declared.ty.Ty.{Ty}
use Rattle.swift_ast.specs.Leaves.{Leaf}
use Rattle.swift_ast.specs.declared.declarations.Param.{Param}
use Rattle.swift_ast.specs.declared.statements.Block.{Block}
use Rattle.typed_code.specs.declared.step.Step.{Step}
use Rattle.typed_code.specs.declared.units.Unit.{Unit as CodeUnit}
use Rattle.checks.specs.Checks.{sure, behind, tried, ◌>>=◌}
use Rattle.checks.specs.Logs.{Logged, made, saying}
use Rattle.expr_check.specs.declared.line.Line.{Line}
use Rattle.expr_check.specs.declared.scope.Scope.{Scope}
use Rattle.expr_check.specs.Messages.{orders}
use Rattle.expr_check.specs.Scopes.{declaring}
use Rattle.expr_check.specs.Types.{CheckOf, type_written}
use Rattle.body_check.specs.Statements.{falls_through, in_block, not_declared, block_statements}
use Rattle.body_check.specs.Declarations.{params_of, params_read, all_there, consed, missing_return, function_units, function_end, in_function, function_giving}
use Rattle.body_check.proofs.Making.{one_more, tried_then, found_then}

-- ---- parameters

pub param_made : (m : Key → Meaning) (p : Param) (s t : Scope) (of : Option Ty) (free : Option (List Step)) (log a new : Logged Key Line) → (of, a) ≡ made orders m (type_written s p.type_name.name) log →
    (free, new) ≡ made orders m (not_declared s p.name) a → t ≡ declaring s p.name.text of false →
    (others : List Param) → made orders m (params_read (p ∷ others) s) log ≡ made orders m (params_read others t) new
param_made m p s t of free log a new h g d others =
    let goes_on : Option (List Step) → CheckOf Scope = λ _. params_read others (declaring s p.name.text of false) in
    let named : Option Ty → CheckOf Scope = λ of. tried (not_declared s p.name) >>= (λ _. params_read others (declaring s p.name.text of false)) in
    tried_then m (type_written s p.type_name.name) named of log a h
    ∙ tried_then m (not_declared s p.name) goes_on free a new g
    ∙ ap (λ x. made orders m (params_read others x) new) (sym d)

pub params_turn : (m : Key → Meaning) (ps : List (Leaf × Param)) (i : ℕ) (p : Leaf × Param) (s t : Scope) (log new : Logged Key Line) → i < length ps → p ≡ get_or ps i p →
    ((others : List Param) → made orders m (params_read (p.1 ∷ others) s) log ≡ made orders m (params_read others t) new) →
    made orders m (params_read (map (λ p. p.1) (drop i ps)) s) log ≡ made orders m (params_read (map (λ p. p.1) (drop (i + 1) ps)) t) new
params_turn m ps i p s t log new lt is h =
    ap (λ l. made orders m (params_read (map (λ (p : Leaf × Param). p.1) l) s) log) (one_more ps i p lt is)
    ∙ h (map (λ p. p.1) (drop (i + 1) ps))

pub params_end : (m : Key → Meaning) (ps : List (Leaf × Param)) (i : ℕ) (s : Scope) (log : Logged Key Line) → length ps ≤ i →
    made orders m (params_read (map (λ p. p.1) (drop i ps)) s) log ≡ (Some s, log)
params_end m ps i s log le = ap (λ l. made orders m (params_read (map (λ (p : Leaf × Param). p.1) l) s) log) (drop_all i ps le)

pub params_made : (m : Key → Meaning) (first : Param) (more : List (Leaf × Param)) (s t u : Scope) (log mid new : Logged Key Line) →
    ((others : List Param) → made orders m (params_read (first ∷ others) s) log ≡ made orders m (params_read others t) mid) → (Some u, new) ≡ made orders m (params_read (map (λ p. p.1) more) t) mid →
    (Some u, new) ≡ made orders m (params_read (params_of (Some (first, more))) s) log
params_made m first more s t u log mid new h g = g ∙ sym (h (map (λ p. p.1) more))

pub count_of : (first : Param) (more : List (Leaf × Param)) → length more + 1 ≡ length (params_of (Some (first, more)))
count_of first more = let e : length (map (λ (p : Leaf × Param). p.1) more) ≡ length more = length-map more (λ (p : Leaf × Param). p.1) in omega arith

-- ---- types of locals

put_behind : (xs : List Ty) (t : Ty) (o : Option (List Ty)) → option_map (λ ys. xs ++ ys) (consed t o) ≡ option_map (λ ys. (xs ++ t ∷ []) ++ ys) o
put_behind xs t None = refl
put_behind xs t (Some ys) = ap (λ l. Some l) (sym (append_assoc xs (t ∷ []) ys))

pub types_turn : (ts : List (Option Ty)) (i : ℕ) (d : Option Ty) (xs : List Ty) (t : Ty) → i < length ts → get_or ts i d ≡ Some t →
    option_map (λ ys. xs ++ ys) (all_there (drop i ts)) ≡ option_map (λ ys. (xs ++ t ∷ []) ++ ys) (all_there (drop (i + 1) ts))
types_turn ts i d xs t lt h =
    ap (λ l. option_map (λ (ys : List Ty). xs ++ ys) (all_there l)) (drop_more ts i d lt ∙ ap (λ o. o ∷ drop (i + 1) ts) h)
    ∙ put_behind xs t (all_there (drop (i + 1) ts))

pub types_stop : (ts : List (Option Ty)) (i : ℕ) (d : Option Ty) (xs : List Ty) → i < length ts → get_or ts i d ≡ None → option_map (λ ys. xs ++ ys) (all_there (drop i ts)) ≡ None
types_stop ts i d xs lt h = ap (λ l. option_map (λ (ys : List Ty). xs ++ ys) (all_there l)) (drop_more ts i d lt ∙ ap (λ o. o ∷ drop (i + 1) ts) h)

pub types_end : (ts : List (Option Ty)) (i : ℕ) (xs : List Ty) → length ts ≤ i → option_map (λ ys. xs ++ ys) (all_there (drop i ts)) ≡ Some xs
types_end ts i xs le = ap (λ l. option_map (λ (ys : List Ty). xs ++ ys) (all_there l)) (drop_all i ts le) ∙ ap (λ l. Some l) (append-nil xs)

-- ---- a whole function

abbrev said_and_given : List Line → List CodeUnit → CheckOf (List CodeUnit)
said_and_given lines units = behind lines (sure units)

end_made : (m : Key → Meaning) (lines : List Line) (units : List CodeUnit) (log : Logged Key Line) → made orders m (said_and_given lines units) log ≡ (Some units, saying orders log lines)
end_made m lines units log = ap (λ ls. (Some units, saying orders log ls)) (append-nil lines)

pub function_made : (m : Key → Meaning) (s start front inside : Scope) (symbol : List ℕ) (name : Leaf) (params : List Param) (body : Block) (gives receiver : Option Ty) (count : ℕ) (code : Option (List Step)) (falls : Bool) (types : Option (List Ty)) (units : List CodeUnit) (log a b new : Logged Key Line) →
    start ≡ in_function s gives → (Some front, a) ≡ made orders m (params_read params start) log → (Some (inside, code), b) ≡ made orders m (in_block (block_statements body) front) a →
    falls ≡ falls_through (block_statements body) → new ≡ saying orders b (missing_return falls gives name) → types ≡ all_there inside.types → receiver ≡ s.self_type → count ≡ length params →
    units ≡ function_units symbol receiver count falls types gives code → (Some units, new) ≡ made orders m (function_giving s symbol name params body gives) log
function_made m s start front inside symbol name params body gives receiver count code falls types units log a b new st h g f n ty r c e =
    let given : units ≡ function_units symbol s.self_type (length params) (falls_through (block_statements body)) (all_there inside.types) gives code =
    e ∙ ap (λ x. function_units symbol x count falls types gives code) r ∙ ap (λ x. function_units symbol s.self_type x falls types gives code) c
    ∙ ap (λ x. function_units symbol s.self_type (length params) x types gives code) f ∙ ap (λ x. function_units symbol s.self_type (length params) (falls_through (block_statements body)) x gives code) ty in
    let said : new ≡ saying orders b (missing_return (falls_through (block_statements body)) gives name) = n ∙ ap (λ x. saying orders b (missing_return x gives name)) f in
    let ends : Scope × Option (List Step) → CheckOf (List CodeUnit) = λ x. function_end s symbol name (length params) (falls_through (block_statements body)) gives x in
    let reads : Scope → CheckOf (List CodeUnit) = λ x. in_block (block_statements body) x >>= ends in
    ap (λ x. (Some x, new)) given
    ∙ ap (λ x. (Some (function_units symbol s.self_type (length params) (falls_through (block_statements body)) (all_there inside.types) gives code), x)) said
    ∙ sym (found_then m (params_read params (in_function s gives)) reads front log a (h ∙ ap (λ x. made orders m (params_read params x) log) st)
    ∙ found_then m (in_block (block_statements body) front) ends (inside, code) a b g
    ∙ end_made m (missing_return (falls_through (block_statements body)) gives name) (function_units symbol s.self_type (length params) (falls_through (block_statements body)) (all_there inside.types) gives code) b)

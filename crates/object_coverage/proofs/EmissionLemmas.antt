-- Code is laid out the same where the keys that it is laid out by mean the same.
use Rattle.std.proofs.Common.{◌≡◌, ℕ, ◌+◌, List, [], ◌∷◌, ◌++◌, map, take, Option, Some, None, refl, ap, sym, ◌∙◌, subst, inl, inr}
use Rattle.std.specs.Prelude.{flat_map, codes}
use Rattle.std.proofs.Common.{drop}
use Rattle.std.proofs.lemmas.List.{take-append-drop}
use Rattle.std.proofs.lemmas.List.Sums.{sum_by-cons}
use Rattle.std.specs.List.{sum_by}
use Rattle.queries.specs.Queries.{Among}
use Rattle.dep_key.specs.declared.key.Key.{Key}
use Rattle.dep_key.specs.KeyBuilders.{nominal}
use Rattle.type_rules.specs.declared.ty.Ty.{Ty}
use Rattle.type_rules.specs.declared.ty.Ty.TheVariants as ty
use Rattle.type_rules.specs.declared.meaning.Meaning.{Meaning}
use Rattle.type_rules.specs.Sizes.{field_words}
use Rattle.typed_code.specs.declared.step.Step.{Step, Step-F, fold-roll-Step, map-Step, roll-Step, ind-Step}
use Rattle.typed_code.specs.declared.step.Branch.{Branch, Branch-F, fold-roll-Branch, map-Branch, roll-Branch}
use Rattle.typed_code.specs.declared.units.Function.{Function}
use Rattle.typed_code.specs.declared.units.Initial.{Initial}
use Rattle.typed_code.specs.declared.units.Initial.TheVariants as initially
use Rattle.typed_code.specs.declared.units.Unit.{Unit as CodeUnit}
use Rattle.typed_code.specs.declared.units.Unit.TheVariants as unit
use Rattle.type_infer.proofs.ListFacts.{among-left, among-right, among-flat, flat-among}
use Rattle.object_emit.specs.declared.instruction.Instruction.TheVariants as op
use Rattle.object_emit.specs.Layouts.{or_zero, words, struct_words, total, receiver_words, slots_from, slot_in, stored, offset_in, offset_of, member_offset, offset_along}
use Rattle.object_emit.specs.Pieces.{Piece, plain, one, joined, in_row, and_piece, or_piece, while_piece, if_piece}
use Rattle.object_emit.specs.Emission.{site, property, dropped, step_layer, branch_layer, step_piece, branch_parts, steps_piece}
use Rattle.object_emit.specs.Objects.{code_of, bare_piece, init_symbol, body_piece, body_text, global_line, global_text, given_words, initial_piece, initials_piece, initializer_piece, initializer_text, unit_text, object_text}
use Rattle.object_emit.specs.Printing.{function_text}
use Rattle.object_coverage.specs.CodeKeys.{type_keys, types_keys, members_keys, joined_keys, step_layer_keys, branch_layer_keys, step_keys, branch_keys, steps_keys, receiver_keys, initial_keys, unit_keys}

-- the front of a list of types has no other keys
take-among : (n : ℕ) (types : List Ty) (key : Key) → Among (types_keys (take n types)) key → Among (types_keys types) key
take-among n types key w =
    let r : (of : Ty) × Among (take n types) of × Among (type_keys of) key = among-flat type_keys (take n types) key w in
    flat-among type_keys types r.0 key (subst (λ l. Among l r.0) (take-append-drop n types) (among-left (take n types) (drop n types) r.0 r.1)) r.2

module _ (m o : Key → Meaning) where
  -- The two answers are the same at each of these keys.
  abbrev Same : List Key → Type 0
  Same keys = (key : Key) → Among keys key → m key ≡ o key

  left : (xs ys : List Key) → Same (xs ++ ys) → Same xs
  left xs ys h = λ key w. h key (among-left xs ys key w)

  right : (xs ys : List Key) → Same (xs ++ ys) → Same ys
  right xs ys h = λ key w. h key (among-right xs ys key w)

  -- Sizes.

  struct-same : (c : List ℕ) → m (nominal c) ≡ o (nominal c) → struct_words m c ≡ struct_words o c
  struct-same c e = ap (λ x. or_zero (field_words x)) e

  words-same : (of : Ty) → Same (type_keys of) → words m of ≡ words o of
  words-same (ty.Struct c) h = struct-same c (h (nominal c) (inl refl))
  words-same ty.Int h = refl
  words-same ty.String h = refl
  words-same ty.Bool h = refl
  words-same ty.Void h = refl

  receiver-same : (of : Option Ty) → Same (receiver_keys of) → receiver_words m of ≡ receiver_words o of
  receiver-same None h = refl
  receiver-same (Some of) h = words-same of h

  slots-same : (types : List Ty) (first : ℕ) → Same (types_keys types) → slots_from m first types ≡ slots_from o first types
  slots-same [] first h = refl
  slots-same (of ∷ types) first h =
      ap (λ l. first ∷ l) (slots-same types (first + words m of) (right (type_keys of) (types_keys types) h)
      ∙ ap (λ w. slots_from o (first + w) types) (words-same of (left (type_keys of) (types_keys types) h)))

  offset-same : (c name : List ℕ) → m (nominal c) ≡ o (nominal c) → offset_of m c name ≡ offset_of o c name
  offset-same c name e = ap (λ x. offset_in (stored x) name) e

  -- The sum of what is the same of each element, by the keys of each.
  sum-same : {X : Type 0} (f g : X → ℕ) (keys : X → List Key) (xs : List X) → ((x : X) → Same (keys x) → f x ≡ g x) → Same (flat_map keys xs) → sum_by f xs ≡ sum_by g xs
  sum-same f g keys [] e h = refl
  sum-same f g keys (x ∷ xs) e h =
      sum_by-cons f x xs ∙ ap (λ n. n + sum_by f xs) (e x (left (keys x) (flat_map keys xs) h)) ∙ ap (λ n. g x + n) (sum-same f g keys xs e (right (keys x) (flat_map keys xs) h)) ∙ sym (sum_by-cons g x xs)

  total-same : (types : List Ty) → Same (types_keys types) → total m types ≡ total o types
  unfolding total
  total-same types h = sum-same (words m) (words o) type_keys types words-same h

  along-same : (members : List (List ℕ × List ℕ)) → Same (members_keys members) → offset_along m members ≡ offset_along o members
  unfolding offset_along
  along-same [] h = refl
  along-same (x ∷ members) h =
      sum_by-cons (member_offset m) x members ∙ ap (λ n. n + sum_by (member_offset m) members) (ap or_zero (offset-same x.0 x.1 (h (nominal x.0) (inl refl))))
      ∙ ap (λ n. member_offset o x + n) (along-same members (λ key w. h key (inr w))) ∙ sym (sum_by-cons (member_offset o) x members)

  -- Steps, with the same slots.

  module _ (slots : List ℕ) where
    abbrev SameStep : Step → Type 0
    SameStep x = Same (step_keys x) → step_piece (site m slots) x ≡ step_piece (site o slots) x

    abbrev SameBranch : Branch → Type 0
    SameBranch b = Same (branch_keys b) → branch_parts (site m slots) b ≡ branch_parts (site o slots) b

    abbrev WithStep : Type 0
    WithStep = (x : Step) × SameStep x

    abbrev WithBranch : Type 0
    WithBranch = (b : Branch) × SameBranch b

    abbrev bare-Step : Step-F WithStep WithBranch → Step-F Step Branch
    bare-Step y = map-Step WithStep WithBranch Step Branch (λ e. e.0) (λ e. e.0) y

    abbrev bare-Branch : Branch-F WithStep WithBranch → Branch-F Step Branch
    bare-Branch y = map-Branch WithStep WithBranch Step Branch (λ e. e.0) (λ e. e.0) y

    abbrev keys-Step : Step-F Step Branch → List Key
    keys-Step x = step_layer_keys (map-Step Step Branch (List Key) (List Key) step_keys branch_keys x)

    abbrev piece-Step : (Key → Meaning) → Step-F Step Branch → Piece
    piece-Step a x = step_layer (site a slots) (map-Step Step Branch Piece (Piece × Piece) (step_piece (site a slots)) (branch_parts (site a slots)) x)

    row-same : (xs : List WithStep) → Same (joined_keys (map step_keys (map (λ (e : WithStep). e.0) xs))) →
        map (step_piece (site m slots)) (map (λ (e : WithStep). e.0) xs) ≡ map (step_piece (site o slots)) (map (λ (e : WithStep). e.0) xs)
    row-same [] h = refl
    row-same (e ∷ xs) h =
        let rest = map (λ (e : WithStep). e.0) xs in
        ap (λ p. p ∷ map (step_piece (site m slots)) rest) (e.1 (left (step_keys e.0) (joined_keys (map step_keys rest)) h))
        ∙ ap (λ l. step_piece (site o slots) e.0 ∷ l) (row-same xs (right (step_keys e.0) (joined_keys (map step_keys rest)) h))

    branches-same : (bs : List WithBranch) → Same (joined_keys (map branch_keys (map (λ (e : WithBranch). e.0) bs))) →
        map (branch_parts (site m slots)) (map (λ (e : WithBranch). e.0) bs) ≡ map (branch_parts (site o slots)) (map (λ (e : WithBranch). e.0) bs)
    branches-same [] h = refl
    branches-same (e ∷ bs) h =
        let rest = map (λ (e : WithBranch). e.0) bs in
        ap (λ p. p ∷ map (branch_parts (site m slots)) rest) (e.1 (left (branch_keys e.0) (joined_keys (map branch_keys rest)) h))
        ∙ ap (λ l. branch_parts (site o slots) e.0 ∷ l) (branches-same bs (right (branch_keys e.0) (joined_keys (map branch_keys rest)) h))

    two-same : (a b : List WithStep) {X : Type 0} (f : List Piece → List Piece → X) → Same (joined_keys (map step_keys (map (λ (e : WithStep). e.0) a)) ++ joined_keys (map step_keys (map (λ (e : WithStep). e.0) b))) →
        f (map (step_piece (site m slots)) (map (λ (e : WithStep). e.0) a)) (map (step_piece (site m slots)) (map (λ (e : WithStep). e.0) b)) ≡
        f (map (step_piece (site o slots)) (map (λ (e : WithStep). e.0) a)) (map (step_piece (site o slots)) (map (λ (e : WithStep). e.0) b))
    two-same a b f h =
        let first = joined_keys (map step_keys (map (λ (e : WithStep). e.0) a)) in
        let second = joined_keys (map step_keys (map (λ (e : WithStep). e.0) b)) in
        ap (λ p. f p (map (step_piece (site m slots)) (map (λ (e : WithStep). e.0) b))) (row-same a (left first second h))
        ∙ ap (λ p. f (map (step_piece (site o slots)) (map (λ (e : WithStep). e.0) a)) p) (row-same b (right first second h))

    step-case : (y : Step-F WithStep WithBranch) → Same (keys-Step (bare-Step y)) → piece-Step m (bare-Step y) ≡ piece-Step o (bare-Step y)
    step-case (Step-F.Integer text) h = refl
    step-case (Step-F.StringText text) h = refl
    step-case (Step-F.Truth b) h = refl
    step-case (Step-F.Local number of) h = ap (λ w. one (op.Get (slot_in slots number) w)) (words-same of h)
    step-case (Step-F.SelfValue of) h = ap (λ w. one (op.Get 0 w)) (words-same of h)
    step-case (Step-F.Global symbol of) h = ap (λ w. one (op.Load symbol 0 w)) (words-same of h)
    step-case (Step-F.Property context name of) h =
        ap (λ n. one (property n context name (words m of) (offset_of m context name))) (struct-same context (h (nominal context) (inl refl)))
        ∙ ap (λ n. one (property (struct_words o context) context name n (offset_of m context name))) (words-same of (λ key w. h key (inr w)))
        ∙ ap (λ n. one (property (struct_words o context) context name (words o of) n)) (offset-same context name (h (nominal context) (inl refl)))
    step-case (Step-F.Call symbol takes gives) h =
        ap (λ n. one (op.Call symbol n (words m gives))) (total-same takes (left (types_keys takes) (type_keys gives) h))
        ∙ ap (λ n. one (op.Call symbol (total o takes) n)) (words-same gives (right (types_keys takes) (type_keys gives) h))
    step-case (Step-F.Print of) h = refl
    step-case (Step-F.Operate operator of) h = refl
    step-case Step-F.Negate h = refl
    step-case Step-F.Not h = refl
    step-case (Step-F.And more) h = ap (λ p. and_piece (in_row p)) (row-same more h)
    step-case (Step-F.Or more) h = ap (λ p. or_piece (in_row p)) (row-same more h)
    step-case (Step-F.SetLocal number members of) h =
        ap (λ n. one (op.Set (slot_in slots number + n) (words m of))) (along-same members (left (members_keys members) (type_keys of) h))
        ∙ ap (λ n. one (op.Set (slot_in slots number + offset_along o members) n)) (words-same of (right (members_keys members) (type_keys of) h))
    step-case (Step-F.SetGlobal symbol members of) h =
        ap (λ n. one (op.Store symbol n (words m of))) (along-same members (left (members_keys members) (type_keys of) h))
        ∙ ap (λ n. one (op.Store symbol (offset_along o members) n)) (words-same of (right (members_keys members) (type_keys of) h))
    step-case (Step-F.Return of) h = ap (λ w. one (op.Return w)) (words-same of h)
    step-case (Step-F.Drop of) h = ap (λ w. plain (dropped w)) (words-same of h)
    step-case (Step-F.While condition block) h = two-same condition block (λ c b. while_piece (in_row c) (in_row b)) h
    step-case (Step-F.If branches last) h =
        let first = joined_keys (map branch_keys (map (λ (e : WithBranch). e.0) branches)) in
        let second = joined_keys (map step_keys (map (λ (e : WithStep). e.0) last)) in
        ap (λ p. if_piece p (in_row (map (step_piece (site m slots)) (map (λ (e : WithStep). e.0) last)))) (branches-same branches (left first second h))
        ∙ ap (λ p. if_piece (map (branch_parts (site o slots)) (map (λ (e : WithBranch). e.0) branches)) (in_row p)) (row-same last (right first second h))

    abbrev keys-Branch : Branch-F Step Branch → List Key
    keys-Branch x = branch_layer_keys (map-Branch Step Branch (List Key) (List Key) step_keys branch_keys x)

    abbrev parts-Branch : (Key → Meaning) → Branch-F Step Branch → Piece × Piece
    parts-Branch a x = branch_layer (map-Branch Step Branch Piece (Piece × Piece) (step_piece (site a slots)) (branch_parts (site a slots)) x)

    branch-case : (y : Branch-F WithStep WithBranch) → Same (keys-Branch (bare-Branch y)) → parts-Branch m (bare-Branch y) ≡ parts-Branch o (bare-Branch y)
    branch-case y h = two-same y.condition y.block (λ c b. (in_row c, in_row b)) h

    step-same : (x : Step) → SameStep x
    unfolding step_piece branch_parts step_keys branch_keys
    step-same = ind-Step SameStep SameBranch
        (λ x y is. subst (λ z. SameStep (roll-Step z)) is (λ h.
        fold-roll-Step Piece (Piece × Piece) (step_layer (site m slots)) branch_layer (bare-Step y)
        ∙ step-case y (subst Same (fold-roll-Step (List Key) (List Key) step_layer_keys branch_layer_keys (bare-Step y)) h)
        ∙ sym (fold-roll-Step Piece (Piece × Piece) (step_layer (site o slots)) branch_layer (bare-Step y))))
        (λ x y is. subst (λ z. SameBranch (roll-Branch z)) is (λ h.
        fold-roll-Branch Piece (Piece × Piece) (step_layer (site m slots)) branch_layer (bare-Branch y)
        ∙ branch-case y (subst Same (fold-roll-Branch (List Key) (List Key) step_layer_keys branch_layer_keys (bare-Branch y)) h)
        ∙ sym (fold-roll-Branch Piece (Piece × Piece) (step_layer (site o slots)) branch_layer (bare-Branch y))))

    pieces-same : (steps : List Step) → Same (steps_keys steps) → map (step_piece (site m slots)) steps ≡ map (step_piece (site o slots)) steps
    pieces-same [] h = refl
    pieces-same (x ∷ steps) h =
        ap (λ p. p ∷ map (step_piece (site m slots)) steps) (step-same x (left (step_keys x) (steps_keys steps) h))
        ∙ ap (λ l. step_piece (site o slots) x ∷ l) (pieces-same steps (right (step_keys x) (steps_keys steps) h))

    steps-same : (steps : List Step) → Same (steps_keys steps) → steps_piece (site m slots) steps ≡ steps_piece (site o slots) steps
    unfolding steps_piece
    steps-same steps h = ap in_row (pieces-same steps h)

  -- Units.

  body-same : (f : Function) → Same (receiver_keys f.receiver) → Same (types_keys f.types) → Same (steps_keys f.code) → body_piece m f ≡ body_piece o f
  body-same f r t c =
      steps-same (slots_from m (receiver_words m f.receiver) f.types) f.code c
      ∙ ap (λ slots. steps_piece (site o slots) f.code) (slots-same f.types (receiver_words m f.receiver) t ∙ ap (λ w. slots_from o w f.types) (receiver-same f.receiver r))

  body-text-same : (symbol : List ℕ) (f : Function) → Same (receiver_keys f.receiver ++ (types_keys f.types ++ (type_keys f.result ++ steps_keys f.code))) → body_text m symbol f ≡ body_text o symbol f
  body-text-same symbol f h =
      let behind_receiver = right (receiver_keys f.receiver) (types_keys f.types ++ (type_keys f.result ++ steps_keys f.code)) h in
      let r : Same (receiver_keys f.receiver) = left (receiver_keys f.receiver) (types_keys f.types ++ (type_keys f.result ++ steps_keys f.code)) h in
      let t : Same (types_keys f.types) = left (types_keys f.types) (type_keys f.result ++ steps_keys f.code) behind_receiver in
      let behind_types = right (types_keys f.types) (type_keys f.result ++ steps_keys f.code) behind_receiver in
      let front = take f.params f.types in
      ap (λ w. function_text symbol (w + total m front) (w + total m f.types) (words m f.result) (code_of (body_piece m f))) (receiver-same f.receiver r)
      ∙ ap (λ n. function_text symbol (receiver_words o f.receiver + n) (receiver_words o f.receiver + total m f.types) (words m f.result) (code_of (body_piece m f))) (total-same front (λ key w. t key (take-among f.params f.types key w)))
      ∙ ap (λ n. function_text symbol (receiver_words o f.receiver + total o front) (receiver_words o f.receiver + n) (words m f.result) (code_of (body_piece m f))) (total-same f.types t)
      ∙ ap (λ n. function_text symbol (receiver_words o f.receiver + total o front) (receiver_words o f.receiver + total o f.types) n (code_of (body_piece m f))) (words-same f.result (left (type_keys f.result) (steps_keys f.code) behind_types))
      ∙ ap (λ p. function_text symbol (receiver_words o f.receiver + total o front) (receiver_words o f.receiver + total o f.types) (words o f.result) (code_of p)) (body-same f r t (right (type_keys f.result) (steps_keys f.code) behind_types))

  global-same : (symbol : List ℕ) (of : Ty) (steps : List Step) → Same (type_keys of ++ steps_keys steps) → global_text m symbol of steps ≡ global_text o symbol of steps
  global-same symbol of steps h =
      ap (λ w. global_line symbol w ++ function_text (init_symbol symbol) 0 0 0 (code_of (joined (bare_piece m steps) (plain (op.Store symbol 0 w ∷ op.Return 0 ∷ []))))) (words-same of (left (type_keys of) (steps_keys steps) h))
      ∙ ap (λ p. global_line symbol (words o of) ++ function_text (init_symbol symbol) 0 0 0 (code_of (joined p (plain (op.Store symbol 0 (words o of) ∷ op.Return 0 ∷ []))))) (steps-same [] steps (right (type_keys of) (steps_keys steps) h))

  given-same : (i : Initial) → Same (initial_keys i) → given_words m i ≡ given_words o i
  given-same (initially.Given of) h = words-same of h
  given-same (initially.Own steps) h = refl

  initial-same : (slot : ℕ) (i : Initial) → Same (initial_keys i) → initial_piece m slot i ≡ initial_piece o slot i
  initial-same slot (initially.Given of) h = ap (λ w. one (op.Get slot w)) (words-same of h)
  initial-same slot (initially.Own steps) h = steps-same [] steps h

  initials-same : (slot : ℕ) (is : List Initial) → Same (flat_map initial_keys is) → initials_piece m slot is ≡ initials_piece o slot is
  initials-same slot [] h = refl
  initials-same slot (i ∷ is) h =
      ap (λ p. joined p (initials_piece m (slot + given_words m i) is)) (initial-same slot i (left (initial_keys i) (flat_map initial_keys is) h))
      ∙ ap (λ w. joined (initial_piece o slot i) (initials_piece m (slot + w) is)) (given-same i (left (initial_keys i) (flat_map initial_keys is) h))
      ∙ ap (λ p. joined (initial_piece o slot i) p) (initials-same (slot + given_words o i) is (right (initial_keys i) (flat_map initial_keys is) h))

  initializer-same : (context : List ℕ) (is : List Initial) → Same (nominal context ∷ flat_map initial_keys is) → initializer_text m context is ≡ initializer_text o context is
  initializer-same context is h =
      let rest : Same (flat_map initial_keys is) = (λ key w. h key (inr w)) in
      ap (λ n. function_text (init_symbol context) n n (struct_words m context) (code_of (initializer_piece m (struct_words m context) is))) (sum-same (given_words m) (given_words o) initial_keys is given-same rest)
      ∙ ap (λ n. function_text (init_symbol context) (sum_by (given_words o) is) (sum_by (given_words o) is) n (code_of (initializer_piece m n is))) (struct-same context (h (nominal context) (inl refl)))
      ∙ ap (λ p. function_text (init_symbol context) (sum_by (given_words o) is) (sum_by (given_words o) is) (struct_words o context) (code_of (joined p (one (op.Return (struct_words o context)))))) (initials-same 0 is rest)

  unit-same : (u : CodeUnit) → Same (unit_keys u) → unit_text m u ≡ unit_text o u
  unit-same (unit.Global symbol of steps) h = global-same symbol of steps h
  unit-same (unit.Function symbol f) h = body-text-same symbol f h
  unit-same (unit.Initializer context is) h = initializer-same context is h

  units-same : (us : List CodeUnit) → Same (flat_map unit_keys us) → flat_map (unit_text m) us ≡ flat_map (unit_text o) us
  units-same [] h = refl
  units-same (u ∷ us) h =
      ap (λ t. t ++ flat_map (unit_text m) us) (unit-same u (left (unit_keys u) (flat_map unit_keys us) h))
      ∙ ap (λ t. unit_text o u ++ t) (units-same us (right (unit_keys u) (flat_map unit_keys us) h))

  -- An object text is the same where the keys that its code is laid out by mean the same.
  pub object-same : (path : List ℕ) (us : List CodeUnit) → Same (flat_map unit_keys us) → object_text m path us ≡ object_text o path us
  unfolding object_text
  object-same path us h = ap (λ t. codes "object " ++ path ++ codes "\n" ++ t) (units-same us h)

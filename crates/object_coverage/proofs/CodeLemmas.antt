-- Code whose structs are all laid out.
use Rattle.std.proofs.Common.{ℕ, Bool, List, [], ◌∷◌, ◌++◌, map, sym, subst}
use Rattle.std.specs.Prelude.{flat_map}
use Rattle.std.specs.List.{AllByRecursion}
use Rattle.dep_key.specs.declared.key.Key.{Key}
use Rattle.dep_key.specs.KeyBuilders.{nominal}
use Rattle.type_rules.specs.declared.ty.Ty.{Ty}
use Rattle.typed_code.specs.declared.step.Operator.{Operator}
use Rattle.typed_code.specs.declared.step.Step.{Step, Step-F, fold-roll-Step, map-Step, roll-Step}
use Rattle.typed_code.specs.declared.step.Step.TheVariants as step
use Rattle.typed_code.specs.declared.step.Branch.{Branch, fold_out-Branch}
use Rattle.typed_code.specs.declared.units.Initial.{Initial}
use Rattle.typed_code.specs.declared.units.Unit.{Unit as CodeUnit}
use Rattle.expr_check.specs.declared.typed.Typed.{Typed}
use Rattle.object_coverage.specs.CodeKeys.{type_keys, types_keys, members_keys, joined_keys, step_layer_keys, branch_layer_keys, step_keys, branch_keys, steps_keys, initial_keys, unit_keys}
use Rattle.object_coverage.proofs.Giving.{all-append}

-- The keys of a type, a step, .. are all among some keys.

abbrev pub LaidType : (Key → Type 0) → Ty → Type 0
LaidType K of = AllByRecursion K (type_keys of)

abbrev pub LaidStep : (Key → Type 0) → Step → Type 0
LaidStep K x = AllByRecursion K (step_keys x)

abbrev pub LaidCode : (Key → Type 0) → List Step → Type 0
LaidCode K code = AllByRecursion (LaidStep K) code

abbrev pub LaidBranch : (Key → Type 0) → Branch → Type 0
LaidBranch K b = AllByRecursion K (branch_keys b)

abbrev pub LaidTyped : (Key → Type 0) → Typed → Type 0
LaidTyped K v = LaidType K v.ty × LaidCode K v.code

abbrev pub LaidInitial : (Key → Type 0) → Initial → Type 0
LaidInitial K i = AllByRecursion K (initial_keys i)

abbrev pub LaidUnit : (Key → Type 0) → CodeUnit → Type 0
LaidUnit K u = AllByRecursion K (unit_keys u)

-- the struct of each member on a way
abbrev pub LaidMembers : (Key → Type 0) → List (List ℕ × List ℕ) → Type 0
LaidMembers K members = AllByRecursion (λ (member : List ℕ × List ℕ). K (nominal member.0)) members

pub all-flat : {X Y : Type 0} (R : Y → Type 0) (f : X → List Y) (xs : List X) → AllByRecursion (λ x. AllByRecursion R (f x)) xs → AllByRecursion R (flat_map f xs)
all-flat R f [] h = tt
all-flat R f (x ∷ xs) h = all-append R (f x) (flat_map f xs) h.0 (all-flat R f xs h.1)

module _ (K : Key → Type 0) where
  all-joined : {X : Type 0} (f : X → List Key) (xs : List X) → AllByRecursion (λ x. AllByRecursion K (f x)) xs → AllByRecursion K (joined_keys (map f xs))
  all-joined f [] h = tt
  all-joined f (x ∷ xs) h = all-append K (f x) (joined_keys (map f xs)) h.0 (all-joined f xs h.1)

  members-laid : (members : List (List ℕ × List ℕ)) → LaidMembers K members → AllByRecursion K (members_keys members)
  members-laid [] h = tt
  members-laid (m ∷ members) h = (h.0, members-laid members h.1)

  -- a step, by its layer
  laid-roll : (y : Step-F Step Branch) → AllByRecursion K (step_layer_keys (map-Step Step Branch (List Key) (List Key) step_keys branch_keys y)) → LaidStep K (roll-Step y)
  unfolding step_keys branch_keys
  laid-roll y h = subst (AllByRecursion K) (sym (fold-roll-Step (List Key) (List Key) step_layer_keys branch_layer_keys y)) h

  pub laid-integer : (text : List ℕ) → LaidStep K (step.Integer text)
  laid-integer text = subst (LaidStep K) (step.rolls-Integer text) (laid-roll (Step-F.Integer text) tt)

  pub laid-string : (text : List ℕ) → LaidStep K (step.StringText text)
  laid-string text = subst (LaidStep K) (step.rolls-StringText text) (laid-roll (Step-F.StringText text) tt)

  pub laid-truth : (value : Bool) → LaidStep K (step.Truth value)
  laid-truth value = subst (LaidStep K) (step.rolls-Truth value) (laid-roll (Step-F.Truth value) tt)

  pub laid-local : (number : ℕ) (of : Ty) → LaidType K of → LaidStep K (step.Local number of)
  laid-local number of h = subst (LaidStep K) (step.rolls-Local number of) (laid-roll (Step-F.Local number of) h)

  pub laid-self : (of : Ty) → LaidType K of → LaidStep K (step.SelfValue of)
  laid-self of h = subst (LaidStep K) (step.rolls-SelfValue of) (laid-roll (Step-F.SelfValue of) h)

  pub laid-global : (symbol : List ℕ) (of : Ty) → LaidType K of → LaidStep K (step.Global symbol of)
  laid-global symbol of h = subst (LaidStep K) (step.rolls-Global symbol of) (laid-roll (Step-F.Global symbol of) h)

  pub laid-property : (context name : List ℕ) (of : Ty) → K (nominal context) → LaidType K of → LaidStep K (step.Property context name of)
  laid-property context name of k h = subst (LaidStep K) (step.rolls-Property context name of) (laid-roll (Step-F.Property context name of) (k, h))

  pub laid-call : (symbol : List ℕ) (takes : List Ty) (gives : Ty) → AllByRecursion (LaidType K) takes → LaidType K gives → LaidStep K (step.Call symbol takes gives)
  laid-call symbol takes gives h g = subst (LaidStep K) (step.rolls-Call symbol takes gives) (laid-roll (Step-F.Call symbol takes gives) (all-append K (types_keys takes) (type_keys gives) (all-flat K type_keys takes h) g))

  pub laid-print : (of : Ty) → LaidStep K (step.Print of)
  laid-print of = subst (LaidStep K) (step.rolls-Print of) (laid-roll (Step-F.Print of) tt)

  pub laid-operate : (operator : Operator) (of : Ty) → LaidStep K (step.Operate operator of)
  laid-operate operator of = subst (LaidStep K) (step.rolls-Operate operator of) (laid-roll (Step-F.Operate operator of) tt)

  pub laid-negate : LaidStep K step.Negate
  laid-negate = subst (LaidStep K) step.rolls-Negate (laid-roll Step-F.Negate tt)

  pub laid-not : LaidStep K step.Not
  laid-not = subst (LaidStep K) step.rolls-Not (laid-roll Step-F.Not tt)

  pub laid-and : (right : List Step) → LaidCode K right → LaidStep K (step.And right)
  laid-and right h = subst (LaidStep K) (step.rolls-And right) (laid-roll (Step-F.And right) (all-joined step_keys right h))

  pub laid-or : (right : List Step) → LaidCode K right → LaidStep K (step.Or right)
  laid-or right h = subst (LaidStep K) (step.rolls-Or right) (laid-roll (Step-F.Or right) (all-joined step_keys right h))

  pub laid-set-local : (number : ℕ) (members : List (List ℕ × List ℕ)) (of : Ty) → LaidMembers K members → LaidType K of → LaidStep K (step.SetLocal number members of)
  laid-set-local number members of h g =
      subst (LaidStep K) (step.rolls-SetLocal number members of) (laid-roll (Step-F.SetLocal number members of) (all-append K (members_keys members) (type_keys of) (members-laid members h) g))

  pub laid-set-global : (symbol : List ℕ) (members : List (List ℕ × List ℕ)) (of : Ty) → LaidMembers K members → LaidType K of → LaidStep K (step.SetGlobal symbol members of)
  laid-set-global symbol members of h g =
      subst (LaidStep K) (step.rolls-SetGlobal symbol members of) (laid-roll (Step-F.SetGlobal symbol members of) (all-append K (members_keys members) (type_keys of) (members-laid members h) g))

  pub laid-return : (of : Ty) → LaidType K of → LaidStep K (step.Return of)
  laid-return of h = subst (LaidStep K) (step.rolls-Return of) (laid-roll (Step-F.Return of) h)

  pub laid-drop : (of : Ty) → LaidType K of → LaidStep K (step.Drop of)
  laid-drop of h = subst (LaidStep K) (step.rolls-Drop of) (laid-roll (Step-F.Drop of) h)

  pub laid-while : (condition block : List Step) → LaidCode K condition → LaidCode K block → LaidStep K (step.While condition block)
  laid-while condition block h g =
      subst (LaidStep K) (step.rolls-While condition block) (laid-roll (Step-F.While condition block)
      (all-append K (joined_keys (map step_keys condition)) (joined_keys (map step_keys block)) (all-joined step_keys condition h) (all-joined step_keys block g)))

  pub laid-if : (branches : List Branch) (last : List Step) → AllByRecursion (LaidBranch K) branches → LaidCode K last → LaidStep K (step.If branches last)
  laid-if branches last h g =
      subst (LaidStep K) (step.rolls-If branches last) (laid-roll (Step-F.If branches last)
      (all-append K (joined_keys (map branch_keys branches)) (joined_keys (map step_keys last)) (all-joined branch_keys branches h) (all-joined step_keys last g)))

  pub laid-branch : (condition block : List Step) → LaidCode K condition → LaidCode K block → LaidBranch K (record { condition = condition; block = block })
  unfolding branch_keys step_keys
  laid-branch condition block h g =
      subst (AllByRecursion K) (sym (fold_out-Branch (List Key) (List Key) step_layer_keys branch_layer_keys (record { condition = condition; block = block })))
      (all-append K (joined_keys (map step_keys condition)) (joined_keys (map step_keys block)) (all-joined step_keys condition h) (all-joined step_keys block g))

  pub steps-laid : (code : List Step) → LaidCode K code → AllByRecursion K (steps_keys code)
  steps-laid code h = all-flat K step_keys code h

  -- one step behind others
  pub laid-behind : (code : List Step) (x : Step) → LaidCode K code → LaidStep K x → LaidCode K (code ++ x ∷ [])
  laid-behind code x h g = all-append (LaidStep K) code (x ∷ []) h (g, tt)

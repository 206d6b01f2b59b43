-- The structs in the code of any statement are laid out.
use Rattle.std.proofs.Common.{ℕ, Bool, List, [], ◌∷◌, ◌++◌, map, length, Option, Some, None, sym, subst}
use Rattle.std.specs.List.{AllByRecursion}
use Rattle.std.specs.Option.{option_map}
use Rattle.dep_key.specs.declared.key.Key.{Key}
use Rattle.dep_key.specs.KeyBuilders.{nominal}
use Rattle.type_rules.specs.declared.ty.Ty.{Ty}
use Rattle.type_rules.specs.declared.ty.Ty.TheVariants as ty
use Rattle.type_rules.specs.declared.meaning.Meaning.{Meaning}
use Rattle.type_rules.specs.declared.meaning.Meaning.TheVariants as means
use Rattle.swift_ast.specs.Leaves.{Leaf}
use Rattle.swift_ast.specs.declared.expressions.Expr.{Expr}
use Rattle.swift_ast.specs.declared.statements.TypeName.{TypeName}
use Rattle.swift_ast.specs.declared.statements.Target.{Target}
use Rattle.swift_ast.specs.declared.statements.Block.{Block, Block-F, fold-roll-Block, map-Block, roll-Block, ind-Block}
use Rattle.swift_ast.specs.declared.statements.Stmt.{Stmt, Stmt-F, fold-Stmt, fold-roll-Stmt, map-Stmt, roll-Stmt}
use Rattle.swift_ast.specs.declared.statements.If.{If, If-F, fold-If, fold-roll-If, map-If, roll-If}
use Rattle.swift_ast.specs.declared.statements.ElseIf.{ElseIf, ElseIf-F, fold-ElseIf, fold-roll-ElseIf, map-ElseIf, roll-ElseIf}
use Rattle.typed_code.specs.declared.step.Step.{Step}
use Rattle.typed_code.specs.declared.step.Step.TheVariants as step
use Rattle.typed_code.specs.declared.step.Branch.{Branch}
use Rattle.checks.specs.Checks.{both, tried, go_on}
use Rattle.expr_check.specs.declared.place.Place.{Place}
use Rattle.expr_check.specs.declared.typed.Typed.{Typed}
use Rattle.expr_check.specs.declared.named.Named.{Named}
use Rattle.expr_check.specs.declared.named.Named.TheVariants as named
use Rattle.expr_check.specs.declared.scope.Local.{Local}
use Rattle.expr_check.specs.declared.scope.Scope.{Scope}
use Rattle.expr_check.specs.Messages.{place_of}
use Rattle.expr_check.specs.Scopes.{in_innermost, declaring, entering, leaving}
use Rattle.expr_check.specs.Types.{CheckOf, Found, valued, type_written}
use Rattle.expr_check.specs.Expressions.{self_value, converted, name_of, member_named}
use Rattle.expr_check.specs.Phrases.{Phrase, expr_phrase, postfix_phrase}
use Rattle.body_check.specs.Statements.{Statement, of_both, row_behind, in_block, plain, annotated, binding_type, fitting, not_declared, is_var, set_local, local_read, Destination, can_assign, is_assignable, storing, root_value, named_destination, root_destination, through, member_meant, member_destination, members_destination, target_destination, assigned, assign_check, return_none, converted_to, return_value, return_check, condition, while_read, Clause, branch, clauses_behind, if_read, call_check, one_stmt, one_block, one_else_if, one_if, block_statements}
use Rattle.type_infer.specs.Sound.{Anything, IfThere}
use Rattle.object_coverage.proofs.Giving.{Gives, BothAre, all-append, gives-any, gives-bind, gives-both, gives-noting, gives-tried}
use Rattle.object_coverage.proofs.CodeLemmas.{LaidType, LaidStep, LaidCode, LaidBranch, LaidTyped, LaidMembers, laid-set-local, laid-set-global, laid-return, laid-drop, laid-while, laid-if, laid-branch, laid-behind}
use Rattle.object_coverage.proofs.ExpressionLemmas.{IsLaidScope, LaidNamed, LaidSelf, LaidFound, Laid, valued-laid, written-laid, self-laid, name-of-laid, name-value-laid, member-named-laid, converted-laid}
use Rattle.object_coverage.proofs.TreeLemmas.{expression-laid, postfix-laid}

if-both : {X Y Z : Type 0} (R : X → Type 0) (S : Y → Type 0) (T : Z → Type 0) (f : X → Y → Z) (x : Option X) (y : Option Y) → ((x : X) (y : Y) → R x → S y → T (f x y)) → IfThere R x → IfThere S y → IfThere T (of_both f x y)
if-both R S T f (Some x) (Some y) w h g = w x y h g
if-both R S T f (Some x) None w h g = tt
if-both R S T f None (Some y) w h g = tt
if-both R S T f None None w h g = tt

module _ (m : Key → Meaning) (K : Key → Type 0) where
  abbrev Fine : {X : Type 0} → (X → Type 0) → CheckOf X → Type 0
  Fine R c = Gives m K R c

  -- Scopes.

  innermost-laid : (bs : List (List Local)) (l : Local) → AllByRecursion (λ b. AllByRecursion (λ (l : Local). IfThere (LaidType K) l.ty) b) bs → IfThere (LaidType K) l.ty →
      AllByRecursion (λ b. AllByRecursion (λ (l : Local). IfThere (LaidType K) l.ty) b) (in_innermost bs l)
  innermost-laid [] l h g = ((g, tt), tt)
  innermost-laid (b ∷ []) l h g = (all-append (λ (l : Local). IfThere (LaidType K) l.ty) b (l ∷ []) h.0 (g, tt), tt)
  innermost-laid (b ∷ c ∷ bs) l h g = (h.0, innermost-laid (c ∷ bs) l h.1 g)

  pub declaring-laid : (s : Scope) (name : List ℕ) (of : Option Ty) (mutable : Bool) → IsLaidScope K s → IfThere (LaidType K) of → IsLaidScope K (declaring s name of mutable)
  declaring-laid s name of mutable p h = record {
    emits = p.emits;
    self = p.self;
    receiver = p.receiver;
    locals = innermost-laid s.blocks (record { name = name; ty = of; mutable = mutable; number = length s.types }) p.locals h;
    types = all-append (IfThere (LaidType K)) s.types (of ∷ []) p.types (h, tt);
  }

  entering-laid : (s : Scope) → IsLaidScope K s → IsLaidScope K (entering s)
  entering-laid s p = record {
    emits = p.emits;
    self = p.self;
    receiver = p.receiver;
    locals = all-append (λ b. AllByRecursion (λ (l : Local). IfThere (LaidType K) l.ty) b) s.blocks ([] ∷ []) p.locals (tt, tt);
    types = p.types;
  }

  leaving-laid : (s inner : Scope) → IsLaidScope K s → IsLaidScope K inner → IsLaidScope K (leaving s inner)
  leaving-laid s inner p q = record { emits = p.emits; self = p.self; receiver = p.receiver; locals = p.locals; types = q.types }

  -- a laid out scope, and such code where there is any
  abbrev pub LaidRead : Scope × Option (List Step) → Type 0
  LaidRead r = IsLaidScope K r.0 × IfThere (LaidCode K) r.1

  abbrev LaidPhraseAt : Phrase → Type 0
  LaidPhraseAt v = (s : Scope) → IsLaidScope K s → Fine (LaidTyped K) (v.check s)

  abbrev LaidStatement : Statement → Type 0
  LaidStatement x = (s : Scope) → IsLaidScope K s → Fine LaidRead (x.read s)

  abbrev pub LaidStatements : List Statement → Type 0
  LaidStatements xs = AllByRecursion LaidStatement xs

  append-both : (a b : Option (List Step)) → IfThere (LaidCode K) a → IfThere (LaidCode K) b → IfThere (LaidCode K) (of_both (λ a b. a ++ b) a b)
  append-both a b h g = if-both (LaidCode K) (LaidCode K) (LaidCode K) (λ a b. a ++ b) a b (λ a b h g. all-append (LaidStep K) a b h g) h g

  row-laid : (code : Option (List Step)) (xs : List Statement) (s : Scope) → LaidStatements xs → IsLaidScope K s → IfThere (LaidCode K) code → Fine LaidRead (row_behind code xs s)
  row-laid code [] s h p g = (p, g)
  row-laid code (x ∷ xs) s h p g =
      gives-bind m K LaidRead LaidRead (x.read s) _ (h.0 s p) (λ r l. row-laid (of_both (λ a b. a ++ b) code r.1) xs r.0 h.1 l.0 (append-both code r.1 g l.1))

  pub block-laid : (xs : List Statement) (s : Scope) → LaidStatements xs → IsLaidScope K s → Fine LaidRead (in_block xs s)
  block-laid xs s h p =
      gives-bind m K LaidRead LaidRead (row_behind (Some []) xs (entering s)) _ (row-laid (Some []) xs (entering s) h (entering-laid s p) tt) (λ r l. (leaving-laid s r.0 p l.0, l.1))

  plain-laid : (check : Scope → CheckOf (List Step)) (s : Scope) → IsLaidScope K s → Fine (LaidCode K) (check s) → Fine LaidRead (plain check s)
  plain-laid check s p h = gives-bind m K (IfThere (LaidCode K)) LaidRead (tried (check s)) _ (gives-tried m K (LaidCode K) (check s) h) (λ code l. (p, l))

  -- Locals.

  pub annotated-laid : (s : Scope) → IsLaidScope K s → (o : Option (Leaf × TypeName)) → Fine (IfThere (LaidType K)) (annotated s o)
  annotated-laid s p None = tt
  annotated-laid s p (Some (colon, t)) = gives-bind m K (LaidType K) (IfThere (LaidType K)) (type_written s t.name) _ (written-laid m K s p t.name) (λ of h. h)

  binding-laid : (wanted : Option (Option Ty)) (value : Option Typed) → IfThere (IfThere (LaidType K)) wanted → IfThere (LaidTyped K) value → IfThere (LaidType K) (binding_type wanted value)
  binding-laid None value h g = tt
  binding-laid (Some (Some of)) value h g = h
  binding-laid (Some None) None h g = tt
  binding-laid (Some None) (Some v) h g = g.0

  pub fitting-laid : (first : Place) (wanted : Option (Option Ty)) (value : Option Typed) → IfThere (LaidTyped K) value → Fine (LaidTyped K) (fitting first wanted value)
  fitting-laid first (Some (Some of)) (Some v) h = converted-laid m K first of v h
  fitting-laid first (Some None) (Some v) h = h
  fitting-laid first (Some (Some of)) None h = tt
  fitting-laid first (Some None) None h = tt
  fitting-laid first None value h = tt

  set-local-laid : (s : Scope) (name : Leaf) (first : Place) (wanted : Option (Option Ty)) (found : Option Typed) → IfThere (LaidTyped K) found → Fine (LaidCode K) (set_local s name first wanted found)
  set-local-laid s name first wanted found h =
      gives-noting m K (LaidCode K) (not_declared s name) _ (gives-bind m K (LaidTyped K) (LaidCode K) (fitting first wanted found) _ (fitting-laid first wanted found h) (λ v l.
      laid-behind K v.code (step.SetLocal (length s.types) [] v.ty) l.1 (laid-set-local K (length s.types) [] v.ty tt l.0)))

  local-laid : (mutable : Bool) (name : Leaf) (annotation : Option (Leaf × TypeName)) (value : Phrase) (s : Scope) → LaidPhraseAt value → IsLaidScope K s → Fine LaidRead (local_read mutable name annotation value s)
  local-laid mutable name annotation value s h p =
      gives-bind m K (IfThere (IfThere (LaidType K))) LaidRead (tried (annotated s annotation)) _ (gives-tried m K (IfThere (LaidType K)) (annotated s annotation) (annotated-laid s p annotation)) (λ wanted w.
      gives-bind m K (IfThere (LaidTyped K)) LaidRead (tried (value.check s)) _ (gives-tried m K (LaidTyped K) (value.check s) (h s p)) (λ found f.
      gives-bind m K (IfThere (LaidCode K)) LaidRead (tried (set_local s name value.first wanted found)) _ (gives-tried m K (LaidCode K) (set_local s name value.first wanted found) (set-local-laid s name value.first wanted found f)) (λ code c.
      (declaring-laid s name.text (binding_type wanted found) mutable p (binding-laid wanted found w f), c))))

  -- Assignments.

  -- Whatever members it goes through, a store puts values of such types into such structs.
  abbrev LaidStore : (List (List ℕ × List ℕ) → Ty → Step) → Type 0
  LaidStore store = (members : List (List ℕ × List ℕ)) (of : Ty) → LaidMembers K members → LaidType K of → LaidStep K (store members of)

  pub record LaidDestination (d : Destination) : Type 0 where
    pub of : LaidType K d.of
    pub store : LaidStore d.store
    pub members : LaidMembers K d.members

  storing-laid : (n : Named) → LaidStore (storing n)
  storing-laid (named.Local l) = λ members of h g. laid-set-local K l.number members of h g
  storing-laid (named.Global key mutable of) = λ members of h g. laid-set-global K key.name members of h g
  storing-laid (named.OfSelf key mutable of) = λ members of h g. laid-set-global K key.name members of h g

  root-value-laid : (s : Scope) (t : Leaf) (n : Named) → IsLaidScope K s → LaidNamed m K s n → Fine (LaidTyped K) (root_value s t n)
  root-value-laid s t (named.Local l) p h = name-value-laid m K s t (named.Local l) p h
  root-value-laid s t (named.Global key mutable of) p h = name-value-laid m K s t (named.Global key mutable of) p h
  root-value-laid s t (named.OfSelf key mutable of) p h =
      gives-bind m K (BothAre (LaidSelf m K s.context) (Laid m K of)) (LaidTyped K) (both (self_value s t) (valued s (place_of t) of)) _
      (gives-both m K (LaidSelf m K s.context) (Laid m K of) (self_value s t) (valued s (place_of t) of) (self-laid m K s t p) (valued-laid m K s p (place_of t) of)) (λ q l. (l.1.1, tt))

  named-laid : (s : Scope) (t : Leaf) (n : Named) → IsLaidScope K s → LaidNamed m K s n → Fine LaidDestination (named_destination s t n)
  named-laid s t n p h =
      gives-bind m K (BothAre (LaidTyped K) Anything) LaidDestination (both (root_value s t n) (can_assign (is_assignable n) t)) _
      (gives-both m K (LaidTyped K) Anything (root_value s t n) (can_assign (is_assignable n) t) (root-value-laid s t n p h) (gives-any m K (can_assign (is_assignable n) t)))
      (λ q l. record { of = l.0.0; store = storing-laid n; members = tt })

  root-laid : (s : Scope) (t : Leaf) → IsLaidScope K s → Fine LaidDestination (root_destination s t)
  root-laid s t p = gives-bind m K (LaidNamed m K s) LaidDestination (name_of s t) _ (name-of-laid m K s t p) (λ n h. named-laid s t n p h)

  through-laid : (d : Destination) (key : Key) (of : Ty) → LaidDestination d → K (nominal key.context) → LaidType K of → LaidDestination (through d key of)
  through-laid d key of h k g = record { of = g; store = h.store; members = all-append (λ (member : List ℕ × List ℕ). K (nominal member.0)) d.members ((key.context, key.name) ∷ []) h.members (k, tt) }

  member-meant-laid : (s : Scope) → IsLaidScope K s → (root t : Leaf) (d : Destination) (f : Found) → LaidDestination d → LaidFound m K f → Fine LaidDestination (member_meant s root t d f)
  member-meant-laid s p root t d (key, means.Value mutable of) h k =
      gives-bind m K (BothAre (Laid m K of) Anything) LaidDestination (both (valued s (place_of root) of) (can_assign mutable t)) _
      (gives-both m K (Laid m K of) Anything (valued s (place_of root) of) (can_assign mutable t) (valued-laid m K s p (place_of root) of) (gives-any m K (can_assign mutable t))) (λ q l. through-laid d key of h k l.0.0)
  member-meant-laid s p root t d (key, means.NoProvider) h k = tt
  member-meant-laid s p root t d (key, means.Ambiguous) h k = tt
  member-meant-laid s p root t d (key, means.Broken) h k = tt
  member-meant-laid s p root t d (key, means.Circular) h k = tt
  member-meant-laid s p root t d (key, means.Function ps r) h k = tt
  member-meant-laid s p root t d (key, means.Struct c) h k = tt
  member-meant-laid s p root t d (key, means.Alias of) h k = tt
  member-meant-laid s p root t d (key, means.Fields fs w) h k = tt

  member-laid : (s : Scope) → IsLaidScope K s → (root t : Leaf) (d : Destination) → LaidDestination d → Fine LaidDestination (member_destination s root t d)
  member-laid s p root t d h = gives-bind m K (LaidFound m K) LaidDestination (member_named s d.of t) _ (member-named-laid m K s d.of t h.of) (λ f k. member-meant-laid s p root t d f h k)

  members-laid : (s : Scope) → IsLaidScope K s → (root : Leaf) (c : CheckOf Destination) (ts : List (Leaf × Leaf)) → Fine LaidDestination c → Fine LaidDestination (members_destination s root c ts)
  members-laid s p root c [] h = h
  members-laid s p root c ((dot, t) ∷ ts) h =
      members-laid s p root (go_on c (member_destination s root t)) ts (gives-bind m K LaidDestination LaidDestination c (member_destination s root t) h (λ d l. member-laid s p root t d l))

  target-laid : (s : Scope) (t : Target) → IsLaidScope K s → Fine LaidDestination (target_destination s t)
  target-laid s t p = members-laid s p t.root (root_destination s t.root) t.members (root-laid s t.root p)

  assigned-laid : (first : Place) (q : Destination × Typed) → BothAre LaidDestination (LaidTyped K) q → Fine (LaidCode K) (assigned first q)
  assigned-laid first (d, v) h =
      gives-bind m K (LaidTyped K) (LaidCode K) (converted first d.of v) _ (converted-laid m K first d.of v h.1) (λ v l. laid-behind K v.code (d.store d.members d.of) l.1 (h.0.store d.members d.of h.0.members h.0.of))

  assign-laid : (target : Target) (value : Phrase) (s : Scope) → LaidPhraseAt value → IsLaidScope K s → Fine (LaidCode K) (assign_check target value s)
  assign-laid target value s h p =
      gives-bind m K (BothAre LaidDestination (LaidTyped K)) (LaidCode K) (both (target_destination s target) (value.check s)) _
      (gives-both m K LaidDestination (LaidTyped K) (target_destination s target) (value.check s) (target-laid s target p) (h s p)) (λ q l. assigned-laid value.first q l)

  -- Control.

  return-none-laid : (t : Leaf) (o : Option Ty) → Fine (LaidCode K) (return_none t o)
  return-none-laid t None = tt
  return-none-laid t (Some ty.Void) = (laid-return K ty.Void tt, tt)
  return-none-laid t (Some ty.Int) = tt
  return-none-laid t (Some ty.String) = tt
  return-none-laid t (Some ty.Bool) = tt
  return-none-laid t (Some (ty.Struct c)) = tt

  converted-to-laid : (first : Place) (o : Option Ty) (v : Typed) → LaidTyped K v → Fine (LaidTyped K) (converted_to first o v)
  converted-to-laid first None v h = tt
  converted-to-laid first (Some of) v h = converted-laid m K first of v h

  return-value-laid : (value : Phrase) (s : Scope) → LaidPhraseAt value → IsLaidScope K s → Fine (LaidCode K) (return_value value s)
  return-value-laid value s h p =
      gives-bind m K (LaidTyped K) (LaidCode K) (value.check s) _ (h s p) (λ v l.
      gives-bind m K (LaidTyped K) (LaidCode K) (converted_to value.first s.result v) _ (converted-to-laid value.first s.result v l) (λ w g. laid-behind K w.code (step.Return w.ty) g.1 (laid-return K w.ty g.0)))

  return-laid : (t : Leaf) (o : Option Expr) (s : Scope) → IsLaidScope K s → Fine (LaidCode K) (return_check t (option_map expr_phrase o) s)
  return-laid t None s p = return-none-laid t s.result
  return-laid t (Some e) s p = return-value-laid (expr_phrase e) s (expression-laid m K e) p

  condition-laid : (value : Phrase) (s : Scope) → LaidPhraseAt value → IsLaidScope K s → Fine (LaidCode K) (condition value s)
  condition-laid value s h p =
      gives-bind m K (LaidTyped K) (LaidCode K) (value.check s) _ (h s p) (λ v l. gives-bind m K (LaidTyped K) (LaidCode K) (converted value.first ty.Bool v) _ (converted-laid m K value.first ty.Bool v l) (λ w g. g.1))

  condition-tried : (value : Phrase) (s : Scope) → LaidPhraseAt value → IsLaidScope K s → Fine (IfThere (LaidCode K)) (tried (condition value s))
  condition-tried value s h p = gives-tried m K (LaidCode K) (condition value s) (condition-laid value s h p)

  while-laid : (value : Phrase) (xs : List Statement) (s : Scope) → LaidPhraseAt value → LaidStatements xs → IsLaidScope K s → Fine LaidRead (while_read value xs s)
  while-laid value xs s h g p =
      gives-bind m K (IfThere (LaidCode K)) LaidRead (tried (condition value s)) _ (condition-tried value s h p) (λ first f.
      gives-bind m K LaidRead LaidRead (in_block xs s) _ (block-laid xs s g p) (λ r l.
      (l.0, if-both (LaidCode K) (LaidCode K) (LaidCode K) (λ c b. step.While c b ∷ []) first r.1 (λ c b h g. (laid-while K c b h g, tt)) f l.1)))

  abbrev LaidClause : Clause → Type 0
  LaidClause c = LaidPhraseAt c.condition × LaidStatements c.block

  -- a laid out scope, and such branches where there are any
  abbrev LaidBranches : Scope × Option (List Branch) → Type 0
  LaidBranches r = IsLaidScope K r.0 × IfThere (AllByRecursion (LaidBranch K)) r.1

  branch-more : (branches : Option (List Branch)) (first code : Option (List Step)) → IfThere (AllByRecursion (LaidBranch K)) branches → IfThere (LaidCode K) first → IfThere (LaidCode K) code →
      IfThere (AllByRecursion (LaidBranch K)) (of_both (λ bs b. bs ++ b ∷ []) branches (of_both branch first code))
  branch-more branches first code h f g =
      if-both (AllByRecursion (LaidBranch K)) (LaidBranch K) (AllByRecursion (LaidBranch K)) (λ bs b. bs ++ b ∷ []) branches (of_both branch first code) (λ bs b hs l. all-append (LaidBranch K) bs (b ∷ []) hs (l, tt)) h
      (if-both (LaidCode K) (LaidCode K) (LaidBranch K) branch first code (λ c b hc hb. laid-branch K c b hc hb) f g)

  clauses-laid : (branches : Option (List Branch)) (cs : List Clause) (s : Scope) → IfThere (AllByRecursion (LaidBranch K)) branches → AllByRecursion LaidClause cs → IsLaidScope K s → Fine LaidBranches (clauses_behind branches cs s)
  clauses-laid branches [] s g h p = (p, g)
  clauses-laid branches (c ∷ cs) s g h p =
      gives-bind m K (IfThere (LaidCode K)) LaidBranches (tried (condition c.condition s)) _ (condition-tried c.condition s h.0.0 p) (λ first f.
      gives-bind m K LaidRead LaidBranches (in_block c.block s) _ (block-laid c.block s h.0.1 p) (λ r l.
      clauses-laid (of_both (λ bs b. bs ++ b ∷ []) branches (of_both branch first r.1)) cs r.0 (branch-more branches first r.1 g f l.1) h.1 l.0))

  if-laid : (cs : List Clause) (last : List Statement) (s : Scope) → AllByRecursion LaidClause cs → LaidStatements last → IsLaidScope K s → Fine LaidRead (if_read cs last s)
  if-laid cs last s h g p =
      gives-bind m K LaidBranches LaidRead (clauses_behind (Some []) cs s) _ (clauses-laid (Some []) cs s tt h p) (λ front f.
      gives-bind m K LaidRead LaidRead (in_block last front.0) _ (block-laid last front.0 g f.0) (λ r l.
      (l.0, if-both (AllByRecursion (LaidBranch K)) (LaidCode K) (LaidCode K) (λ branches code. step.If branches code ∷ []) front.1 r.1 (λ bs c hs hc. (laid-if K bs c hs hc, tt)) f.1 l.1)))

  call-laid : (value : Phrase) (s : Scope) → LaidPhraseAt value → IsLaidScope K s → Fine (LaidCode K) (call_check value s)
  call-laid value s h p = gives-bind m K (LaidTyped K) (LaidCode K) (value.check s) _ (h s p) (λ v l. laid-behind K v.code (step.Drop v.ty) l.1 (laid-drop K v.ty l.0))

  -- Each tree as it is read, and beside that it is laid out.

  stmt-read : Stmt → Statement
  stmt-read = fold-Stmt Statement (List Statement) Clause Statement one_stmt one_block one_else_if one_if

  else-if-read : ElseIf → Clause
  else-if-read = fold-ElseIf Statement (List Statement) Clause Statement one_stmt one_block one_else_if one_if

  if-statement : If → Statement
  if-statement = fold-If Statement (List Statement) Clause Statement one_stmt one_block one_else_if one_if

  abbrev WithStmt : Type 0
  WithStmt = (x : Stmt) × LaidStatement (stmt-read x)

  abbrev WithBlock : Type 0
  WithBlock = (x : Block) × LaidStatements (block_statements x)

  abbrev WithElseIf : Type 0
  WithElseIf = (x : ElseIf) × LaidClause (else-if-read x)

  abbrev WithIf : Type 0
  WithIf = (x : If) × LaidStatement (if-statement x)

  all-statements : (xs : List WithStmt) → LaidStatements (map stmt-read (map (λ (e : WithStmt). e.0) xs))
  all-statements [] = tt
  all-statements (x ∷ xs) = (x.1, all-statements xs)

  all-clauses : (xs : List WithElseIf) → AllByRecursion LaidClause (map else-if-read (map (λ (e : WithElseIf). e.0) xs))
  all-clauses [] = tt
  all-clauses (x ∷ xs) = (x.1, all-clauses xs)

  abbrev bare-Stmt : Stmt-F WithStmt WithBlock WithElseIf WithIf → Stmt-F Stmt Block ElseIf If
  bare-Stmt y = map-Stmt WithStmt WithBlock WithElseIf WithIf Stmt Block ElseIf If (λ e. e.0) (λ e. e.0) (λ e. e.0) (λ e. e.0) y

  abbrev bare-Block : Block-F WithStmt WithBlock WithElseIf WithIf → Block-F Stmt Block ElseIf If
  bare-Block y = map-Block WithStmt WithBlock WithElseIf WithIf Stmt Block ElseIf If (λ e. e.0) (λ e. e.0) (λ e. e.0) (λ e. e.0) y

  abbrev bare-ElseIf : ElseIf-F WithStmt WithBlock WithElseIf WithIf → ElseIf-F Stmt Block ElseIf If
  bare-ElseIf y = map-ElseIf WithStmt WithBlock WithElseIf WithIf Stmt Block ElseIf If (λ e. e.0) (λ e. e.0) (λ e. e.0) (λ e. e.0) y

  abbrev bare-If : If-F WithStmt WithBlock WithElseIf WithIf → If-F Stmt Block ElseIf If
  bare-If y = map-If WithStmt WithBlock WithElseIf WithIf Stmt Block ElseIf If (λ e. e.0) (λ e. e.0) (λ e. e.0) (λ e. e.0) y

  abbrev made-If : If-F Stmt Block ElseIf If → Statement
  made-If x = one_if (map-If Stmt Block ElseIf If Statement (List Statement) Clause Statement stmt-read block_statements else-if-read if-statement x)

  stmt-step : (y : Stmt-F WithStmt WithBlock WithElseIf WithIf) → LaidStatement (one_stmt (map-Stmt Stmt Block ElseIf If Statement (List Statement) Clause Statement stmt-read block_statements else-if-read if-statement (bare-Stmt y)))
  stmt-step (Stmt-F.Local specifier name annotation assign value) = λ s p. local-laid (is_var specifier) name annotation (expr_phrase value) s (expression-laid m K value) p
  stmt-step (Stmt-F.Assign target assign value) = λ s p. plain-laid (assign_check target (expr_phrase value)) s p (assign-laid target (expr_phrase value) s (expression-laid m K value) p)
  stmt-step (Stmt-F.Return keyword value) = λ s p. plain-laid (return_check keyword (option_map expr_phrase value)) s p (return-laid keyword value s p)
  stmt-step (Stmt-F.If x) = x.1
  stmt-step (Stmt-F.While keyword value block) = λ s p. while-laid (expr_phrase value) (block_statements block.0) s (expression-laid m K value) block.1 p
  stmt-step (Stmt-F.Call call) = λ s p. plain-laid (call_check (postfix_phrase call.postfix)) s p (call-laid (postfix_phrase call.postfix) s (postfix-laid m K call.postfix) p)

  block-step : (y : Block-F WithStmt WithBlock WithElseIf WithIf) → LaidStatements (one_block (map-Block Stmt Block ElseIf If Statement (List Statement) Clause Statement stmt-read block_statements else-if-read if-statement (bare-Block y)))
  block-step y = all-statements y.stmts

  else-if-step : (y : ElseIf-F WithStmt WithBlock WithElseIf WithIf) → LaidClause (one_else_if (map-ElseIf Stmt Block ElseIf If Statement (List Statement) Clause Statement stmt-read block_statements else-if-read if-statement (bare-ElseIf y)))
  else-if-step y = (expression-laid m K y.condition, y.block.1)

  if-step : (y : If-F WithStmt WithBlock WithElseIf WithIf) → LaidStatement (made-If (bare-If y))
  if-step y = elim y.last as (λ o. LaidStatement (made-If (bare-If (record { keyword = y.keyword; condition = y.condition; block = y.block; else_ifs = y.else_ifs; last = o })))) [
    | None ↦ λ s p. if-laid (record { condition = expr_phrase y.condition; block = block_statements y.block.0 } ∷ map else-if-read (map (λ (e : WithElseIf). e.0) y.else_ifs)) [] s
        ((expression-laid m K y.condition, y.block.1), all-clauses y.else_ifs) tt p
    | Some l ↦ λ s p. if-laid (record { condition = expr_phrase y.condition; block = block_statements y.block.0 } ∷ map else-if-read (map (λ (e : WithElseIf). e.0) y.else_ifs)) (block_statements l.1.0) s
        ((expression-laid m K y.condition, y.block.1), all-clauses y.else_ifs) l.1.1 p
  ]

  -- The structs in the code of the statements of a block are laid out.
  pub statements-laid : (b : Block) → LaidStatements (block_statements b)
  unfolding block_statements stmt-read else-if-read if-statement
  statements-laid = ind-Block (λ x. LaidStatement (stmt-read x)) (λ x. LaidStatements (block_statements x)) (λ x. LaidClause (else-if-read x)) (λ x. LaidStatement (if-statement x))
      (λ x y is. subst (λ z. LaidStatement (stmt-read (roll-Stmt z))) is (subst LaidStatement (sym (fold-roll-Stmt Statement (List Statement) Clause Statement one_stmt one_block one_else_if one_if (bare-Stmt y))) (stmt-step y)))
      (λ x y is. subst (λ z. LaidStatements (block_statements (roll-Block z))) is (subst LaidStatements (sym (fold-roll-Block Statement (List Statement) Clause Statement one_stmt one_block one_else_if one_if (bare-Block y))) (block-step y)))
      (λ x y is. subst (λ z. LaidClause (else-if-read (roll-ElseIf z))) is (subst LaidClause (sym (fold-roll-ElseIf Statement (List Statement) Clause Statement one_stmt one_block one_else_if one_if (bare-ElseIf y))) (else-if-step y)))
      (λ x y is. subst (λ z. LaidStatement (if-statement (roll-If z))) is (subst LaidStatement (sym (fold-roll-If Statement (List Statement) Clause Statement one_stmt one_block one_else_if one_if (bare-If y))) (if-step y)))

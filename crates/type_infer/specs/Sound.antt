-- Queries that ask only what look-ups ask, and end well where the answers are plain.
use Rattle.std.specs.Prelude.{◌≡◌, ℕ, Bool, true, false, List, Option, Some, None}
use Rattle.std.specs.List.{AllByRecursion}
use Rattle.queries.specs.Queries.{Done, Fetch}
use Rattle.dep_key.specs.declared.key.Key.{Key}
use Rattle.dep_key.specs.declared.kind.Kind.{Kind}
use Rattle.dep_key.specs.declared.kind.Kind.TheVariants.{TopLevel, Nominal, PotentialMember, Member, DynamicLookup, ExternalDepend, SourceFileProvide}
use Rattle.swift_ast.specs.declared.expressions.Expr.{Expr}
use Rattle.decl_index.specs.Declarations.{Item}
use Rattle.type_rules.specs.declared.meaning.Meaning.{Meaning}
use Rattle.checks.specs.Checks.{Checked}
use Rattle.expr_check.specs.declared.line.Line.{Line}
use Rattle.expr_check.specs.declared.typed.Typed.{Typed}
use Rattle.expr_check.specs.declared.scope.Local.{Local}
use Rattle.expr_check.specs.declared.scope.Scope.{Scope}
use Rattle.expr_check.specs.Types.{CheckOf}
use Rattle.expr_check.specs.Phrases.{expr_phrase}
use Rattle.type_infer.specs.Readings.{Query, item_query}
use Rattle.type_infer.specs.Plain.{IsPlain, IsPlainType}

-- the kinds of keys that look-ups ask
abbrev pub is_asked_kind : Kind → Bool
is_asked_kind TopLevel = true
is_asked_kind Nominal = true
is_asked_kind Member = true
is_asked_kind PotentialMember = false
is_asked_kind DynamicLookup = false
is_asked_kind ExternalDepend = false
is_asked_kind SourceFileProvide = false

-- The query asks keys that look-ups ask, and where all answers are plain it ends with such a value.
abbrev pub Sound : {X : Type 0} → (X → Type 0) → Query X → Type 0
Sound R (Done x) = R x
Sound R (Fetch k g) = (is_asked_kind k.kind ≡ true) × ((a : Meaning) → IsPlain a → Sound R (g a))

abbrev pub Anything : {X : Type 0} → X → Type 0
Anything x = Unit {0}

-- What a query asks, whatever the plain answers, are keys that look-ups ask.
abbrev pub AsksKeys : {X : Type 0} → Query X → Type 0
AsksKeys query = Sound Anything query

abbrev pub IfThere : {X : Type 0} → (X → Type 0) → Option X → Type 0
IfThere P None = Unit {0}
IfThere P (Some x) = P x

-- a check is sound: its value, where there is one, is so
abbrev pub OfValue : {X : Type 0} → (X → Type 0) → Checked Line X → Type 0
OfValue P c = IfThere P c.value

abbrev pub SoundCheck : {X : Type 0} → (X → Type 0) → CheckOf X → Type 0
SoundCheck P check = Sound (OfValue P) check

-- an expression that has a plain type
abbrev pub PlainTyped : Typed → Type 0
PlainTyped v = IsPlainType v.ty

-- The types in a scope are plain.
pub record IsPlainScope (s : Scope) : Type 0 where
  pub self : IfThere IsPlainType s.self_type
  pub locals : AllByRecursion (λ block. AllByRecursion (λ (l : Local). IfThere IsPlainType l.ty) block) s.blocks

-- Checking an expression asks keys that look-ups ask, and gives it a plain type, wherever it stands.
abbrev pub ExpressionsAskKeys : Type 0
ExpressionsAskKeys = (e : Expr) (s : Scope) → IsPlainScope s → SoundCheck PlainTyped ((expr_phrase e).check s)

-- Reading a declaration asks keys that look-ups ask.
abbrev pub ReadingsAskKeys : Type 0
ReadingsAskKeys = (path : List ℕ) (key : Key) (item : Item) → AsksKeys (item_query path key item)

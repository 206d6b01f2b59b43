-- A print fixes the meaning of its key.
use Rattle.std.proofs.Common.{◌≡◌, ℕ, ◌+◌, ◌<◌, ◌≤◌, ◌^◌, ◌%◌, Bool, true, false, List, [], ◌∷◌, ◌++◌, Option, Some, None, refl, ap, sym, ◌∙◌, arith, ◌⊎◌, inl, inr}
use Rattle.std.specs.Prelude.{not, ◌==◌, nat_eq, codes, decimal, if◌then◌else◌}
use Rattle.std.specs.List.{AllByRecursion}
use Rattle.std.specs.Cmp.Lexicographic.{pointwise}
use Rattle.std.proofs.lemmas.Bool.{eqb-true}
use Rattle.std.proofs.lemmas.Fmt.{decimal_injective, decimal_by_steps}
use Rattle.dep_key.specs.declared.key.Key.{Key}
use Rattle.dep_key.specs.declared.kind.Kind.TheVariants.{TopLevel, Nominal, PotentialMember, Member, DynamicLookup, ExternalDepend, SourceFileProvide}
use Rattle.swift_ast.specs.declared.declarations.Access.{Access}
use Rattle.swift_ast.specs.declared.declarations.Access.TheVariants.{Private, Fileprivate, Internal, Public}
use Rattle.decl_index.specs.Declarations.{Item, Declaration, GlobalItem, FuncItem, AliasItem, StructItem, StoredItem, ComputedItem, ExtensionItem}
use Rattle.type_rules.specs.declared.ty.Ty.{Ty}
use Rattle.type_rules.specs.declared.meaning.Meaning.{Meaning}
use Rattle.type_rules.specs.declared.meaning.Meaning.TheVariants as means
use Rattle.type_rules.specs.declared.meaning.Field.{Field}
use Rattle.type_infer.specs.Readings.{is_var, most_words}
use Rattle.type_infer.specs.Kinds.{CanMean, MayMean, MeansByKind, DefinitionMeans, StructMeans}
use Rattle.type_infer.specs.Plain.{is_separator, is_word, IsPlain, IsPlainType, blank, opening, colon, equals, bar}
use Rattle.type_infer.specs.Sound.{is_asked_kind}
use Rattle.type_infer.proofs.ListFacts.{both-true}
use Rattle.iface_print.specs.Prints.{access_text, item_text, mutable_text, type_text, value_mark, fields_text, meaning_text, declaration_text}
use Rattle.iface_print.proofs.Cuts.{cut, Stops}
use Rattle.iface_print.proofs.PrintTypes.{same-types, type-word, params, first-apart, rest-same, cons-same}

differ : (s c : ℕ) → (s < c) ⊎ (c < s) → (s == c) ≡ false
differ s c h = (elim (s == c) as (λ v. (s == c) ≡ v → v ≡ false) [
  | true ↦ λ e. absurd (let same : s ≡ c = eqb-true s c e in omega (arith, same, h))
  | false ↦ λ e. refl
]) refl

digit-apart : (c : ℕ) → 48 ≤ c → c ≤ 57 → is_separator c ≡ false
digit-apart c l u =
    rw (
      differ 10 c (inl (omega (arith, l))),
      differ 32 c (inl (omega (arith, l))),
      differ 40 c (inl (omega (arith, l))),
      differ 41 c (inl (omega (arith, l))),
      differ 44 c (inl (omega (arith, l))),
      differ 58 c (inr (omega (arith, u))),
      differ 61 c (inr (omega (arith, u))),
      differ 124 c (inr (omega (arith, u))),
    ) refl

word-append : (xs ys : List ℕ) → is_word xs ≡ true → is_word ys ≡ true → is_word (xs ++ ys) ≡ true
word-append [] ys h g = g
word-append (x ∷ xs) ys h g =
    let here : not (is_separator x) ≡ true = (both-true _ _ h).0 in
    rw here (word-append xs ys (both-true _ _ h).1 g)

-- the text begins with a digit
abbrev BeginsDigit : List ℕ → Type 0
BeginsDigit [] = ⊥
BeginsDigit (c ∷ cs) = (48 ≤ c) × (c ≤ 57)

begins-append : (xs ys : List ℕ) → BeginsDigit xs → BeginsDigit (xs ++ ys)
begins-append [] ys h = absurd h
begins-append (x ∷ xs) ys h = h

digit-word : (c : ℕ) → 48 ≤ c → c ≤ 57 → is_word (c ∷ []) ≡ true
digit-word c l u = rw (digit-apart c l u) refl

within : (n : ℕ) → n ≤ most_words → n < 2 ^ 64
within n h = omega (arith, h)

-- A numeral is a word that begins with a digit.
numeral : (n : ℕ) → n < 2 ^ 64 → (is_word (decimal n) ≡ true) × BeginsDigit (decimal n)
numeral = decimal_by_steps (λ m ds. (is_word ds ≡ true) × BeginsDigit ds)
    (λ m l. (digit-word (48 + m) (omega arith) (omega (arith, l)), (omega arith, omega (arith, l))))
    (λ m ds l h. (word-append ds ((48 + m % 10) ∷ []) h.0 (digit-word (48 + m % 10) (omega arith) (omega arith)), begins-append ds ((48 + m % 10) ∷ []) h.1))

pub number-word : (n : ℕ) → n ≤ most_words → is_word (decimal n) ≡ true
number-word n h = (numeral n (within n h)).0

fields-stop : (fs : List Field) → Stops is_separator (fields_text fs)
fields-stop [] = tt
fields-stop (f ∷ fs) = refl

mark-stops : (b : Bool) (fs : List Field) → Stops is_separator (value_mark b (fields_text fs))
mark-stops true fs = refl
mark-stops false fs = fields-stop fs

pub keyword-word : (m : Bool) → is_word (mutable_text m) ≡ true
keyword-word true = refl
keyword-word false = refl

-- whether a keyword says that it may be assigned
abbrev reads_var : List ℕ → Bool
reads_var text = pointwise nat_eq text (codes "var")

reads-mutable : (m : Bool) → reads_var (mutable_text m) ≡ m
reads-mutable true = refl
reads-mutable false = refl

same-mutable : (m n : Bool) → mutable_text m ≡ mutable_text n → m ≡ n
same-mutable m n h = sym (reads-mutable m) ∙ ap reads_var h ∙ reads-mutable n

-- a mark and the fields after it
marks : (a b : Bool) (fs gs : List Field) → value_mark a (fields_text fs) ≡ value_mark b (fields_text gs) → (a ≡ b) × (fields_text fs ≡ fields_text gs)
marks true true fs gs h = (refl, rest-same equals _ _ (rest-same blank _ _ h))
marks false false fs gs h = (refl, h)
marks true false fs [] h = absurd cc
marks true false fs (g ∷ gs) h = absurd (first-apart equals bar _ _ refl (rest-same blank _ _ h))
marks false true [] gs h = absurd cc
marks false true (f ∷ fs) gs h = absurd (first-apart bar equals _ _ refl (rest-same blank _ _ h))

abbrev pub PlainFields : List Field → Type 0
PlainFields fs = AllByRecursion (λ f. (is_word f.name ≡ true) × IsPlainType f.ty) fs

abbrev pub SmallFields : List Field → Type 0
SmallFields fs = AllByRecursion (λ f. f.offset ≤ most_words) fs

same-field : (f g : Field) → f.name ≡ g.name → f.ty ≡ g.ty → f.mutable ≡ g.mutable → f.has_value ≡ g.has_value → f.offset ≡ g.offset → f ≡ g
same-field f g n t m v o = λ i. record { name = n i; ty = t i; mutable = m i; has_value = v i; offset = o i }

fields : (fs gs : List Field) → PlainFields fs → PlainFields gs → SmallFields fs → SmallFields gs → fields_text fs ≡ fields_text gs → fs ≡ gs
fields [] [] pf pg sf sg h = refl
fields [] (g ∷ gs) pf pg sf sg h = absurd cc
fields (f ∷ fs) [] pf pg sf sg h = absurd cc
fields (f ∷ fs) (g ∷ gs) pf pg sf sg h =
    let one = cut is_separator (mutable_text f.mutable) (mutable_text g.mutable) _ _ (keyword-word f.mutable) (keyword-word g.mutable) refl refl (rest-same blank _ _ (rest-same bar _ _ (rest-same blank _ _ h))) in
    let two = cut is_separator f.name g.name _ _ pf.0.0 pg.0.0 refl refl (rest-same blank _ _ one.1) in
    let three = cut is_separator (type_text f.ty) (type_text g.ty) _ _ (type-word f.ty pf.0.1) (type-word g.ty pg.0.1) refl refl (rest-same blank _ _ (rest-same colon _ _ two.1)) in
    let four = cut is_separator (decimal f.offset) (decimal g.offset) _ _ (number-word f.offset sf.0) (number-word g.offset sg.0) (mark-stops f.has_value fs) (mark-stops g.has_value gs) (rest-same blank _ _ three.1) in
    let five = marks f.has_value g.has_value fs gs four.1 in
    cons-same f g fs gs
    (same-field f g two.0 (same-types f.ty g.ty pf.0.1 pg.0.1 three.0) (same-mutable f.mutable g.mutable one.0) five.0 (decimal_injective f.offset g.offset (within _ sf.0) (within _ sg.0) four.0))
    (fields fs gs pf.1 pg.1 sf.1 sg.1 five.1)

-- What a meaning is of, as its text shows it.
data Shape : Type 0 where
  ValueShape : Shape
  FunctionShape : Shape
  AliasShape : Shape
  NothingShape : Shape
  FieldsShape : Shape
  BrokenShape : Shape
  CircularShape : Shape
  AmbiguousShape : Shape

abbrev shape_of : Meaning → Shape
shape_of (means.Value mutable of) = ValueShape
shape_of (means.Function params result) = FunctionShape
shape_of (means.Alias of) = AliasShape
shape_of (means.Struct context) = NothingShape
shape_of (means.Fields fields words) = FieldsShape
shape_of means.Broken = BrokenShape
shape_of means.Circular = CircularShape
shape_of means.Ambiguous = AmbiguousShape
shape_of means.NoProvider = NothingShape

abbrev read_second : List ℕ → Shape
read_second [] = FieldsShape
read_second (b ∷ more) = if b == 61 then AliasShape else if b == 98 then BrokenShape else if b == 99 then CircularShape else if b == 97 then AmbiguousShape else FieldsShape

abbrev read_shape : List ℕ → Shape
read_shape [] = NothingShape
read_shape (b ∷ more) = if b == 58 then ValueShape else if b == 40 then FunctionShape else read_second more

read-digit : (xs ys : List ℕ) → BeginsDigit xs → read_second (xs ++ ys) ≡ FieldsShape
read-digit [] ys h = absurd h
read-digit (c ∷ cs) ys h =
    rw (differ c 61 (inl (omega (arith, h.1))), differ c 98 (inl (omega (arith, h.1))), differ c 99 (inl (omega (arith, h.1))), differ c 97 (inl (omega (arith, h.1)))) refl

-- the words of fields, and their offsets, are few
abbrev pub IsSmall : Meaning → Type 0
IsSmall (means.Fields fields words) = (words ≤ most_words) × SmallFields fields
IsSmall _ = Unit {0}

shape-read : (m : Meaning) → IsSmall m → read_shape (meaning_text m) ≡ shape_of m
shape-read (means.Value mutable of) h = refl
shape-read (means.Function params result) h = refl
shape-read (means.Alias of) h = refl
shape-read (means.Struct context) h = refl
shape-read (means.Fields fields words) h = read-digit (decimal words) (fields_text fields) (numeral words (within words h.0)).1
shape-read means.Broken h = refl
shape-read means.Circular h = refl
shape-read means.Ambiguous h = refl
shape-read means.NoProvider h = refl

by-definition : (key : Key) (item : Item) (m : Meaning) → is_asked_kind key.kind ≡ true → CanMean key item m → DefinitionMeans key item m
by-definition key item m a h = (elim key.kind as (λ kind. is_asked_kind kind ≡ true → MeansByKind kind key item m → DefinitionMeans key item m) [
  | TopLevel ↦ λ a h. h
  | Nominal ↦ λ a h. h
  | Member ↦ λ a h. h
  | PotentialMember ↦ λ a h. absurd cc
  | DynamicLookup ↦ λ a h. absurd cc
  | ExternalDepend ↦ λ a h. absurd cc
  | SourceFileProvide ↦ λ a h. absurd cc
]) a h

definition-value : (key : Key) (item : Item) (mu : Bool) (of : Ty) → DefinitionMeans key item (means.Value mu of) → mu ≡ reads_var (item_text item)
definition-value key (GlobalItem d) mu of h = h ∙ sym (reads-mutable (is_var d.specifier))
definition-value key (StoredItem d) mu of h = h ∙ sym (reads-mutable (is_var d.specifier))
definition-value key (ComputedItem d) mu of h = h
definition-value key (FuncItem d) mu of h = absurd h
definition-value key (AliasItem d) mu of h = absurd h
definition-value key (StructItem d) mu of h = absurd ((elim key.kind as (λ kind. StructMeans kind key (means.Value mu of) → ⊥) [
  | TopLevel ↦ λ h. h
  | Nominal ↦ λ h. h
  | Member ↦ λ h. h
  | PotentialMember ↦ λ h. h
  | DynamicLookup ↦ λ h. h
  | ExternalDepend ↦ λ h. h
  | SourceFileProvide ↦ λ h. h
]) h)
definition-value key (ExtensionItem d) mu of h = absurd h

abbrev context_of : Key → List ℕ → List ℕ
context_of key text = if pointwise nat_eq text (codes "extension") then key.context else key.name

definition-struct : (key : Key) (item : Item) (c : List ℕ) → DefinitionMeans key item (means.Struct c) → c ≡ context_of key (item_text item)
definition-struct key (GlobalItem d) c h = absurd h
definition-struct key (StoredItem d) c h = absurd h
definition-struct key (ComputedItem d) c h = absurd h
definition-struct key (FuncItem d) c h = absurd h
definition-struct key (AliasItem d) c h = absurd h
definition-struct key (StructItem d) c h = (elim key.kind as (λ kind. StructMeans kind key (means.Struct c) → c ≡ key.name) [
  | TopLevel ↦ λ h. h
  | Nominal ↦ λ h. absurd h
  | Member ↦ λ h. h
  | PotentialMember ↦ λ h. h
  | DynamicLookup ↦ λ h. h
  | ExternalDepend ↦ λ h. h
  | SourceFileProvide ↦ λ h. h
]) h
definition-struct key (ExtensionItem d) c h = h

definition-small : (key : Key) (item : Item) (fs : List Field) (w : ℕ) → DefinitionMeans key item (means.Fields fs w) → (w ≤ most_words) × SmallFields fs
definition-small key (GlobalItem d) fs w h = absurd h
definition-small key (StoredItem d) fs w h = absurd h
definition-small key (ComputedItem d) fs w h = absurd h
definition-small key (FuncItem d) fs w h = absurd h
definition-small key (AliasItem d) fs w h = absurd h
definition-small key (StructItem d) fs w h = (elim key.kind as (λ kind. StructMeans kind key (means.Fields fs w) → (w ≤ most_words) × SmallFields fs) [
  | Nominal ↦ λ h. h
  | TopLevel ↦ λ h. absurd h
  | Member ↦ λ h. absurd h
  | PotentialMember ↦ λ h. absurd h
  | DynamicLookup ↦ λ h. absurd h
  | ExternalDepend ↦ λ h. absurd h
  | SourceFileProvide ↦ λ h. absurd h
]) h
definition-small key (ExtensionItem d) fs w h = absurd h

definition-given : (key : Key) (item : Item) → DefinitionMeans key item means.NoProvider → ⊥
definition-given key (GlobalItem d) h = h
definition-given key (StoredItem d) h = h
definition-given key (ComputedItem d) h = h
definition-given key (FuncItem d) h = h
definition-given key (AliasItem d) h = h
definition-given key (StructItem d) h = (elim key.kind as (λ kind. StructMeans kind key means.NoProvider → ⊥) [
  | TopLevel ↦ λ h. h
  | Nominal ↦ λ h. h
  | Member ↦ λ h. h
  | PotentialMember ↦ λ h. h
  | DynamicLookup ↦ λ h. h
  | ExternalDepend ↦ λ h. h
  | SourceFileProvide ↦ λ h. h
]) h
definition-given key (ExtensionItem d) h = h

pub small : (key : Key) (item : Item) (m : Meaning) → is_asked_kind key.kind ≡ true → MayMean key item m → IsSmall m
small key item (means.Fields fs w) a h = definition-small key item fs w (by-definition key item (means.Fields fs w) a h)
small key item (means.Value mutable of) a h = tt
small key item (means.Function params result) a h = tt
small key item (means.Alias of) a h = tt
small key item (means.Struct context) a h = tt
small key item means.Broken a h = tt
small key item means.Circular a h = tt
small key item means.Ambiguous a h = tt
small key item means.NoProvider a h = tt

by-shape : (key : Key) (i j : Item) (m n : Meaning) → is_asked_kind key.kind ≡ true → MayMean key i m → MayMean key j n → IsPlain m → IsPlain n →
    item_text i ≡ item_text j → shape_of m ≡ shape_of n → meaning_text m ≡ meaning_text n → m ≡ n
by-shape key i j (means.NoProvider) n a km kn pm pn k s h = absurd (definition-given key i (by-definition key i means.NoProvider a km))
by-shape key i j (means.Struct c) (means.NoProvider) a km kn pm pn k s h = absurd (definition-given key j (by-definition key j means.NoProvider a kn))
by-shape key i j (means.Struct c) (means.Struct d) a km kn pm pn k s h =
    ap (λ x. means.Struct x) (definition-struct key i c (by-definition key i (means.Struct c) a km) ∙ ap (context_of key) k ∙ sym (definition-struct key j d (by-definition key j (means.Struct d) a kn)))
by-shape key i j (means.Value mu of) (means.Value nu as_) a km kn pm pn k s h =
    let m_same : mu ≡ nu = definition-value key i mu of (by-definition key i (means.Value mu of) a km) ∙ ap reads_var k ∙ sym (definition-value key j nu as_ (by-definition key j (means.Value nu as_) a kn)) in
    let t_same : of ≡ as_ = same-types of as_ pm pn (rest-same blank _ _ (rest-same colon _ _ h)) in
    λ x. means.Value (m_same x) (t_same x)
by-shape key i j (means.Function ps r) (means.Function qs t) a km kn pm pn k s h =
    let p = params ps qs (blank ∷ type_text r) (blank ∷ type_text t) pm.0 pn.0 (rest-same opening _ _ h) in
    let t_same : r ≡ t = same-types r t pm.1 pn.1 (rest-same blank _ _ p.1) in
    λ x. means.Function (p.0 x) (t_same x)
by-shape key i j (means.Alias of) (means.Alias as_) a km kn pm pn k s h =
    ap (λ x. means.Alias x) (same-types of as_ pm pn (rest-same blank _ _ (rest-same equals _ _ (rest-same blank _ _ h))))
by-shape key i j (means.Fields fs v) (means.Fields gs w) a km kn pm pn k s h =
    let kf = definition-small key i fs v (by-definition key i (means.Fields fs v) a km) in
    let kg = definition-small key j gs w (by-definition key j (means.Fields gs w) a kn) in
    let one = cut is_separator (decimal v) (decimal w) (fields_text fs) (fields_text gs) (number-word v kf.0) (number-word w kg.0) (fields-stop fs) (fields-stop gs) (rest-same blank _ _ h) in
    let f_same : fs ≡ gs = fields fs gs pm pn kf.1 kg.1 one.1 in
    let w_same : v ≡ w = decimal_injective v w (within _ kf.0) (within _ kg.0) one.0 in
    λ x. means.Fields (f_same x) (w_same x)
by-shape key i j means.Broken means.Broken a km kn pm pn k s h = refl
by-shape key i j means.Circular means.Circular a km kn pm pn k s h = refl
by-shape key i j means.Ambiguous means.Ambiguous a km kn pm pn k s h = refl
by-shape key i j _ _ a km kn pm pn k s h = absurd cc

pub access-word : (access : Option Access) → is_word (access_text access) ≡ true
access-word None = refl
access-word (Some (Private t)) = refl
access-word (Some (Fileprivate t)) = refl
access-word (Some (Internal t)) = refl
access-word (Some (Public t)) = refl

pub item-word : (item : Item) → is_word (item_text item) ≡ true
item-word (GlobalItem d) = keyword-word (is_var d.specifier)
item-word (StoredItem d) = keyword-word (is_var d.specifier)
item-word (ComputedItem d) = refl
item-word (FuncItem d) = refl
item-word (AliasItem d) = refl
item-word (StructItem d) = refl
item-word (ExtensionItem d) = refl

meaning-stops : (m : Meaning) → Stops is_separator (meaning_text m)
meaning-stops (means.Value mutable of) = refl
meaning-stops (means.Function params result) = refl
meaning-stops (means.Alias of) = refl
meaning-stops (means.Struct context) = tt
meaning-stops (means.Fields fields words) = refl
meaning-stops means.Broken = refl
meaning-stops means.Circular = refl
meaning-stops means.Ambiguous = refl
meaning-stops means.NoProvider = tt

-- Where two declarations print one key alike, the key means the same by both.
pub same-meaning : (key : Key) (d e : Declaration) (m n : Meaning) → is_asked_kind key.kind ≡ true → is_word d.name ≡ true → is_word e.name ≡ true →
    MayMean key d.item m → MayMean key e.item n → IsPlain m → IsPlain n → declaration_text d m ≡ declaration_text e n → m ≡ n
same-meaning key d e m n a wd we km kn pm pn h =
    let one = cut is_separator (access_text d.access) (access_text e.access) _ _ (access-word d.access) (access-word e.access) refl refl h in
    let two = cut is_separator (item_text d.item) (item_text e.item) _ _ (item-word d.item) (item-word e.item) refl refl (rest-same blank _ _ one.1) in
    let three = cut is_separator d.name e.name (meaning_text m) (meaning_text n) wd we (meaning-stops m) (meaning-stops n) (rest-same blank _ _ two.1) in
    by-shape key d.item e.item m n a km kn pm pn two.0
    (sym (shape-read m (small key d.item m a km)) ∙ ap read_shape three.1 ∙ shape-read n (small key e.item n a kn)) three.1

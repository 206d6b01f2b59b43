-- With more answers a monotone check keeps its value and asks no less. What is put together of monotone checks is monotone.
use Rattle.std.proofs.Common.{◌≡◌, Bool, true, false, List, [], ◌∷◌, ◌++◌, Option, Some, None, refl, ap, sym, ◌∙◌, subst, ◌⊎◌, inl, inr}
use Rattle.std.specs.Prelude.{if◌then◌else◌}
use Rattle.std.specs.List.{AllByRecursion}
use Rattle.dep_key.specs.declared.key.Key.{Key}
use Rattle.queries.specs.Queries.{Done, Fetch, ◌>>=◌, Among, dependencies, value_with}
use Rattle.queries.proofs.Values.{dependencies-bind}
use Rattle.type_rules.specs.declared.meaning.Meaning.{Meaning}
use Rattle.type_rules.specs.declared.meaning.Meaning.TheVariants as means
use Rattle.checks.specs.Checks.{Checked, behind, on_value, go_on, paired, and_then, both, appended, observing, all_behind, all, grouped}
use Rattle.expr_check.specs.declared.line.Line.{Line}
use Rattle.expr_check.specs.Types.{CheckOf, Found, provided, look_up}
use Rattle.type_infer.specs.Readings.{Query}
use Rattle.type_infer.proofs.ListFacts.{among-append, among-left, among-right}

-- Two ways to answer: where they differ, the first has no answer and says Circular.
pub record Approximation : Type 0 where
  pub few : Key → Meaning
  pub more : Key → Meaning
  pub same : (k : Key) → (few k ≡ more k) ⊎ (few k ≡ means.Circular)

-- what the first query asks with few answers, the second asks with more
pub record AsksLess {X Y : Type 0} (q : Query X) (r : Query Y) : Type 0 where
  pub at : (b : Approximation) (k : Key) → Among (dependencies b.few q) k → Among (dependencies b.more r) k

abbrev pub outcome : {X : Type 0} → (Key → Meaning) → CheckOf X → Option X
outcome answers c = (value_with answers c).value

-- With more answers the check keeps its value, and asks no less.
pub record Monotone {X : Type 0} (c : CheckOf X) : Type 0 where
  pub value : (b : Approximation) (x : X) → outcome b.few c ≡ Some x → outcome b.more c ≡ Some x
  pub asks : AsksLess c c

-- Queries.

pub asks-nothing : {X Y : Type 0} (x : X) (r : Query Y) → AsksLess (Done x) r
asks-nothing {X} x r = record { at = λ b k m. absurd (let n : Among (dependencies b.few (Done x)) k = m in n) }

pub asks-then : {X Y V W : Type 0} (q : Query X) (r : Query V) (f : X → Query Y) (h : V → Query W) → AsksLess q r → ((x : X) (v : V) → AsksLess (f x) (h v)) → AsksLess (q >>= f) (r >>= h)
asks-then q r f h s t = record {
  at = λ b k m.
      subst (λ l. Among l k) (sym (dependencies-bind b.more r h))
      (elim (among-append (dependencies b.few q) (dependencies b.few (f (value_with b.few q))) k (subst (λ l. Among l k) (dependencies-bind b.few q f) m)) [
        | inl n ↦ among-left (dependencies b.more r) (dependencies b.more (h (value_with b.more r))) k (s.at b k n)
        | inr n ↦ among-right (dependencies b.more r) (dependencies b.more (h (value_with b.more r))) k ((t (value_with b.few q) (value_with b.more r)).at b k n)
      ]);
}

-- Behind errors, a check is what it is.

asked-behind : {X : Type 0} (answers : Key → Meaning) (before : List Line) (c : CheckOf X) → dependencies answers (behind before c) ≡ dependencies answers c
asked-behind answers before (Done c) = refl
asked-behind answers before (Fetch k g) = ap (λ l. k ∷ l) (asked-behind answers before (g (answers k)))

found-behind : {X : Type 0} (answers : Key → Meaning) (before : List Line) (c : CheckOf X) → outcome answers (behind before c) ≡ outcome answers c
found-behind answers before (Done c) = refl
found-behind answers before (Fetch k g) = found-behind answers before (g (answers k))

-- One check, and then the one that its outcome gives.

asked-observing : {X Y : Type 0} (answers : Key → Meaning) (c : CheckOf X) (f : Option X → CheckOf Y) →
    dependencies answers (observing c f) ≡ dependencies answers c ++ dependencies answers (f (outcome answers c))
asked-observing answers (Done c) f = asked-behind answers c.errors (f c.value)
asked-observing answers (Fetch k g) f = ap (λ l. k ∷ l) (asked-observing answers (g (answers k)) f)

found-observing : {X Y : Type 0} (answers : Key → Meaning) (c : CheckOf X) (f : Option X → CheckOf Y) → outcome answers (observing c f) ≡ outcome answers (f (outcome answers c))
found-observing answers (Done c) f = found-behind answers c.errors (f c.value)
found-observing answers (Fetch k g) f = found-observing answers (g (answers k)) f

-- what follows an outcome gives nothing where there is none, and then asks no more than with any
pub record Follows {X Y : Type 0} (f : Option X → CheckOf Y) : Type 0 where
  pub some : (x : X) → Monotone (f (Some x))
  pub none : (answers : Key → Meaning) → outcome answers (f None) ≡ None
  pub less : (o : Option X) → AsksLess (f None) (f o)

asks-follow : {X Y : Type 0} (f : Option X → CheckOf Y) → Follows f → (b : Approximation) (k : Key) (o p : Option X) → ((x : X) → o ≡ Some x → p ≡ Some x) →
    Among (dependencies b.few (f o)) k → Among (dependencies b.more (f p)) k
asks-follow f s b k None p same m = (s.less p).at b k m
asks-follow f s b k (Some x) p same m = subst (λ o. Among (dependencies b.more (f o)) k) (sym (same x refl)) ((s.some x).asks.at b k m)

found-follow : {X Y : Type 0} (f : Option X → CheckOf Y) → Follows f → (b : Approximation) (y : Y) (o p : Option X) → ((x : X) → o ≡ Some x → p ≡ Some x) →
    outcome b.few (f o) ≡ Some y → outcome b.more (f p) ≡ Some y
found-follow f s b y None p same h = absurd (let n : None ≡ Some y = sym (s.none b.few) ∙ h in cc)
found-follow f s b y (Some x) p same h = subst (λ o. outcome b.more (f o) ≡ Some y) (sym (same x refl)) ((s.some x).value b y h)

pub monotone-observing : {X Y : Type 0} (c : CheckOf X) (f : Option X → CheckOf Y) → Monotone c → Follows f → Monotone (observing c f)
monotone-observing c f s t = record {
  value = λ b y h. found-observing b.more c f ∙ found-follow f t b y (outcome b.few c) (outcome b.more c) (s.value b) (sym (found-observing b.few c f) ∙ h);
  asks = record {
    at = λ b k m.
        subst (λ l. Among l k) (sym (asked-observing b.more c f))
        (elim (among-append (dependencies b.few c) (dependencies b.few (f (outcome b.few c))) k (subst (λ l. Among l k) (asked-observing b.few c f) m)) [
          | inl n ↦ among-left (dependencies b.more c) (dependencies b.more (f (outcome b.more c))) k (s.asks.at b k n)
          | inr n ↦ among-right (dependencies b.more c) (dependencies b.more (f (outcome b.more c))) k (asks-follow f t b k (outcome b.few c) (outcome b.more c) (s.value b) n)
        ]);
  };
}

asks-observing : {X Y : Type 0} (c : CheckOf X) (f h : Option X → CheckOf Y) → AsksLess c c → ((o p : Option X) → AsksLess (f o) (h p)) → AsksLess (observing c f) (observing c h)
asks-observing c f h s t = record {
  at = λ b k m.
      subst (λ l. Among l k) (sym (asked-observing b.more c h))
      (elim (among-append (dependencies b.few c) (dependencies b.few (f (outcome b.few c))) k (subst (λ l. Among l k) (asked-observing b.few c f) m)) [
        | inl n ↦ among-left (dependencies b.more c) (dependencies b.more (h (outcome b.more c))) k (s.at b k n)
        | inr n ↦ among-right (dependencies b.more c) (dependencies b.more (h (outcome b.more c))) k ((t (outcome b.few c) (outcome b.more c)).at b k n)
      ]);
}

pub monotone-done : {X : Type 0} (c : Checked Line X) → Monotone (Done c)
monotone-done c = record { value = λ b x h. h; asks = asks-nothing c (Done c) }

pub monotone-behind : {X : Type 0} (before : List Line) (c : CheckOf X) → Monotone c → Monotone (behind before c)
monotone-behind before c s = record {
  value = λ b x h. found-behind b.more before c ∙ s.value b x (sym (found-behind b.few before c) ∙ h);
  asks = record { at = λ b k m. subst (λ l. Among l k) (sym (asked-behind b.more before c)) (s.asks.at b k (subst (λ l. Among l k) (asked-behind b.few before c) m)) };
}

-- A check, and then the one that its value gives.

bind-observes : {X Y : Type 0} (c : CheckOf X) (f : X → CheckOf Y) → observing c (λ o. on_value o f) ≡ go_on c f
bind-observes (Done c) f = refl
bind-observes (Fetch k g) f = λ i. Fetch k (λ a. bind-observes (g a) f i)

pub monotone-bind : {X Y : Type 0} (c : CheckOf X) (f : X → CheckOf Y) → Monotone c → ((x : X) → Monotone (f x)) → Monotone (go_on c f)
monotone-bind {X} {Y} c f s t =
    let follows : Follows {X = X} {Y = Y} (λ o. on_value o f) = record { some = t; none = λ answers. refl; less = λ o. asks-nothing _ (on_value o f) } in
    subst Monotone (bind-observes c f) (monotone-observing c (λ o. on_value o f) s follows)

-- Both checks.

both-observes : {X Y : Type 0} (c : CheckOf X) (d : CheckOf Y) → observing c (λ o. and_then o d) ≡ both c d
both-observes (Done c) d = refl
both-observes (Fetch k g) d = λ i. Fetch k (λ a. both-observes (g a) d i)

asked-second : {X Y : Type 0} (answers : Key → Meaning) (o : Option X) (d : CheckOf Y) → dependencies answers (and_then o d) ≡ dependencies answers d
asked-second answers o (Done d) = refl
asked-second answers o (Fetch k g) = ap (λ l. k ∷ l) (asked-second answers o (g (answers k)))

found-second : {X Y : Type 0} (answers : Key → Meaning) (o : Option X) (d : CheckOf Y) → outcome answers (and_then o d) ≡ paired o (outcome answers d)
found-second answers o (Done d) = refl
found-second answers o (Fetch k g) = found-second answers o (g (answers k))

asks-second : {X Y : Type 0} (o p : Option X) (d : CheckOf Y) → AsksLess d d → AsksLess (and_then o d) (and_then p d)
asks-second o p d s = record { at = λ b k m. subst (λ l. Among l k) (sym (asked-second b.more p d)) (s.at b k (subst (λ l. Among l k) (asked-second b.few o d) m)) }

paired-none : {X Y : Type 0} (o : Option Y) → paired {X = X} {Y = Y} None o ≡ None
paired-none None = refl
paired-none (Some y) = refl

paired-some : {X Y : Type 0} (x : X) (o p : Option Y) (r : X × Y) → ((y : Y) → o ≡ Some y → p ≡ Some y) → paired (Some x) o ≡ Some r → paired (Some x) p ≡ Some r
paired-some x None p r same h = absurd cc
paired-some x (Some y) p r same h = ap (paired (Some x)) (same y refl) ∙ h

monotone-second : {X Y : Type 0} (x : X) (d : CheckOf Y) → Monotone d → Monotone (and_then (Some x) d)
monotone-second x d s = record {
  value = λ b r h. found-second b.more (Some x) d ∙ paired-some x (outcome b.few d) (outcome b.more d) r (s.value b) (sym (found-second b.few (Some x) d) ∙ h);
  asks = asks-second (Some x) (Some x) d s.asks;
}

pub monotone-both : {X Y : Type 0} (c : CheckOf X) (d : CheckOf Y) → Monotone c → Monotone d → Monotone (both c d)
monotone-both {X} {Y} c d s t =
    let follows : Follows {X = X} {Y = X × Y} (λ o. and_then o d) = record {
      some = λ x. monotone-second x d t;
      none = λ answers. found-second answers None d ∙ paired-none (outcome answers d);
      less = λ o. asks-second None o d t.asks;
    } in
    subst Monotone (both-observes c d) (monotone-observing c (λ o. and_then o d) s follows)

-- All checks of a list.

abbrev pub AreMonotone : {X : Type 0} → List (CheckOf X) → Type 0
AreMonotone cs = AllByRecursion (λ c. Monotone c) cs

appended-none : {X : Type 0} (before : Option (List X)) → appended before None ≡ None
appended-none None = refl
appended-none (Some xs) = refl

none-appended : {X : Type 0} (o : Option X) → appended {X = X} None o ≡ None
none-appended None = refl
none-appended (Some x) = refl

found-none : {X : Type 0} (answers : Key → Meaning) (cs : List (CheckOf X)) → outcome answers (all_behind None cs) ≡ None
found-none answers [] = refl
found-none answers (c ∷ cs) =
    found-observing answers c (λ o. all_behind (appended None o) cs) ∙ ap (λ o. outcome answers (all_behind o cs)) (none-appended (outcome answers c)) ∙ found-none answers cs

asks-rest : {X : Type 0} (before other : Option (List X)) (cs : List (CheckOf X)) → AreMonotone cs → AsksLess (all_behind before cs) (all_behind other cs)
asks-rest before other [] s = asks-nothing _ (all_behind other [])
asks-rest before other (c ∷ cs) s =
    asks-observing c (λ o. all_behind (appended before o) cs) (λ o. all_behind (appended other o) cs) s.0.asks (λ o p. asks-rest (appended before o) (appended other p) cs s.1)

monotone-rest : {X : Type 0} (before : Option (List X)) (cs : List (CheckOf X)) → AreMonotone cs → Monotone (all_behind before cs)
monotone-rest before [] s = monotone-done _
monotone-rest before (c ∷ cs) s = monotone-observing c (λ o. all_behind (appended before o) cs) s.0 (record {
  some = λ x. monotone-rest (appended before (Some x)) cs s.1;
  none = λ answers. ap (λ o. outcome answers (all_behind o cs)) (appended-none before) ∙ found-none answers cs;
  less = λ o. asks-rest (appended before None) (appended before o) cs s.1;
})

pub monotone-all : {X : Type 0} (cs : List (CheckOf X)) → AreMonotone cs → Monotone (all cs)
monotone-all cs s = monotone-rest (Some []) cs s

pub monotone-choice : {X : Type 0} (t : Bool) (c d : CheckOf X) → Monotone c → Monotone d → Monotone (if t then c else d)
monotone-choice true c d s r = s
monotone-choice false c d s r = r

-- a chain whose every step is monotone
pub monotone-grouped : {T X Y : Type 0} (step : T → X × Y → CheckOf X) (left : CheckOf X) (more : List (T × CheckOf Y)) →
    ((t : T) (p : X × Y) → Monotone (step t p)) → Monotone left → AllByRecursion (λ m. Monotone m.1) more → Monotone (grouped step left more)
monotone-grouped step left [] h s r = s
monotone-grouped step left ((t, right) ∷ more) h s r = monotone-grouped step (go_on (both left right) (step t)) more h (monotone-bind (both left right) (step t) (monotone-both left right s r.0) (h t)) r.1

-- What is asked of the module.

-- the check ends at once, with no value
abbrev pub IsSilent : {X : Type 0} → CheckOf X → Type 0
IsSilent (Done c) = c.value ≡ None
IsSilent (Fetch k g) = ⊥

silent-none : {X : Type 0} (answers : Key → Meaning) (c : CheckOf X) → IsSilent c → outcome answers c ≡ None
silent-none answers (Done c) h = h
silent-none answers (Fetch k g) h = absurd h

silent-asks : {X : Type 0} (answers : Key → Meaning) (c : CheckOf X) (k : Key) → IsSilent c → Among (dependencies answers c) k → ⊥
silent-asks answers (Done c) k h m = m
silent-asks answers (Fetch u g) k h m = h

-- A key is asked, and with the answer Circular nothing goes on.
pub monotone-fetch : {X : Type 0} (k : Key) (g : Meaning → CheckOf X) → ((m : Meaning) → Monotone (g m)) → IsSilent (g means.Circular) → Monotone (Fetch k g)
monotone-fetch k g s silent = record {
  value = λ b x h. elim (b.same k) [
    | inl e ↦ subst (λ m. outcome b.more (g m) ≡ Some x) e ((s (b.few k)).value b x h)
    | inr e ↦ absurd (let n : None ≡ Some x = sym (silent-none b.few (g means.Circular) silent) ∙ subst (λ m. outcome b.few (g m) ≡ Some x) e h in cc)
  ];
  asks = record {
    at = λ b u m. elim m [
      | inl same ↦ inl same
      | inr n ↦ elim (b.same k) [
        | inl e ↦ inr (subst (λ a. Among (dependencies b.more (g a)) u) e ((s (b.few k)).asks.at b u n))
        | inr e ↦ absurd (silent-asks b.few (g means.Circular) u silent (subst (λ a. Among (dependencies b.few (g a)) u) e n))
      ]
    ];
  };
}

monotone-provided : {X : Type 0} (k : Key) (m : Meaning) (others : CheckOf (Option Found)) (f : Option Found → CheckOf X) →
    Monotone (go_on others f) → ((m : Meaning) → Monotone (f (Some (k, m)))) → Monotone (go_on (provided k m others) f)
monotone-provided k means.NoProvider others f s t = s
monotone-provided k means.Ambiguous others f s t = monotone-behind [] _ (t means.Ambiguous)
monotone-provided k means.Broken others f s t = monotone-behind [] _ (t means.Broken)
monotone-provided k means.Circular others f s t = monotone-behind [] _ (t means.Circular)
monotone-provided k (means.Value mutable of) others f s t = monotone-behind [] _ (t (means.Value mutable of))
monotone-provided k (means.Function ps r) others f s t = monotone-behind [] _ (t (means.Function ps r))
monotone-provided k (means.Struct c) others f s t = monotone-behind [] _ (t (means.Struct c))
monotone-provided k (means.Alias of) others f s t = monotone-behind [] _ (t (means.Alias of))
monotone-provided k (means.Fields fs w) others f s t = monotone-behind [] _ (t (means.Fields fs w))

silent-behind : {X : Type 0} (before : List Line) (c : CheckOf X) → IsSilent c → IsSilent (behind before c)
silent-behind before (Done c) h = h
silent-behind before (Fetch k g) h = absurd h

-- A look-up, and then a check with which nothing goes on where a key is found to be Circular.
pub monotone-look : {X : Type 0} (ks : List Key) (f : Option Found → CheckOf X) → ((o : Option Found) → Monotone (f o)) → ((k : Key) → IsSilent (f (Some (k, means.Circular)))) → Monotone (go_on (look_up ks) f)
unfolding look_up
monotone-look [] f s silent = monotone-behind [] _ (s None)
monotone-look (k ∷ ks) f s silent =
    monotone-fetch k (λ m. go_on (provided k m (look_up ks)) f) (λ m. monotone-provided k m (look_up ks) f (monotone-look ks f s silent) (λ m. s (Some (k, m)))) (silent-behind [] _ (silent k))

-- What checks give, where all that they ask is among some keys.
use Rattle.std.proofs.Common.{Bool, true, false, List, [], ◌∷◌, ◌++◌, Option, Some, None, refl, inl, inr}
use Rattle.std.specs.Prelude.{if◌then◌else◌}
use Rattle.std.specs.List.{AllByRecursion}
use Rattle.queries.specs.Queries.{Task, Done, Fetch, Among, value_with}
use Rattle.checks.specs.Checks.{Checked, Check, behind, on_value, go_on, paired, and_then, both, appended, observing, all_behind, all, noting, tried, hushed, grouped}
use Rattle.checks.specs.OwnKeys.{Asked, key_of, answering, used, asks}
use Rattle.type_infer.specs.Sound.{Anything, IfThere}

-- With these answers, a task that asks none but these keys ends with such a value.
abbrev pub EndsIn : {K A X : Type 0} → (K → A) → (K → Type 0) → (X → Type 0) → Task K A X → Type 0
EndsIn answers P R (Done x) = R x
EndsIn answers P R (Fetch k g) = P k → EndsIn answers P R (g (answers k))

-- and so a check whose value, where it has one, is such
abbrev pub HasValue : {E X : Type 0} → (X → Type 0) → Checked E X → Type 0
HasValue R c = IfThere R c.value

abbrev pub Gives : {K A E X : Type 0} → (K → A) → (K → Type 0) → (X → Type 0) → Check K A E X → Type 0
Gives answers P R check = EndsIn answers P (HasValue R) check

abbrev pub BothAre : {X Y : Type 0} → (X → Type 0) → (Y → Type 0) → X × Y → Type 0
BothAre R S p = R p.0 × S p.1

pub all-append : {X : Type 0} (R : X → Type 0) (xs ys : List X) → AllByRecursion R xs → AllByRecursion R ys → AllByRecursion R (xs ++ ys)
all-append R [] ys h g = g
all-append R (x ∷ xs) ys h g = (h.0, all-append R xs ys h.1 g)

pub if-any : {X : Type 0} (o : Option X) → IfThere Anything o
if-any None = tt
if-any (Some x) = tt

if-weaker : {X : Type 0} (R S : X → Type 0) (o : Option X) → ((x : X) → R x → S x) → IfThere R o → IfThere S o
if-weaker R S None w h = tt
if-weaker R S (Some x) w h = w x h

pub if-paired : {X Y : Type 0} (R : X → Type 0) (S : Y → Type 0) (x : Option X) (y : Option Y) → IfThere R x → IfThere S y → IfThere (BothAre R S) (paired x y)
if-paired R S (Some x) (Some y) h g = (h, g)
if-paired R S (Some x) None h g = tt
if-paired R S None (Some y) h g = tt
if-paired R S None None h g = tt

if-appended : {X : Type 0} (R : X → Type 0) (xs : Option (List X)) (x : Option X) → IfThere (AllByRecursion R) xs → IfThere R x → IfThere (AllByRecursion R) (appended xs x)
if-appended R (Some xs) (Some x) h g = all-append R xs (x ∷ []) h (g, tt)
if-appended R (Some xs) None h g = tt
if-appended R None (Some x) h g = tt
if-appended R None None h g = tt

module _ {K A : Type 0} (answers : K → A) (P : K → Type 0) where
  pub ends-weaker : {X : Type 0} (R S : X → Type 0) (task : Task K A X) → ((x : X) → R x → S x) → EndsIn answers P R task → EndsIn answers P S task
  ends-weaker R S (Done x) w h = w x h
  ends-weaker R S (Fetch k g) w h = λ p. ends-weaker R S (g (answers k)) w (h p)

module _ {K A E : Type 0} (answers : K → A) (P : K → Type 0) where
  pub gives-any : {X : Type 0} (c : Check K A E X) → Gives answers P Anything c
  gives-any (Done c) = if-any c.value
  gives-any (Fetch k g) = λ p. gives-any (g (answers k))

  pub gives-weaker : {X : Type 0} (R S : X → Type 0) (c : Check K A E X) → ((x : X) → R x → S x) → Gives answers P R c → Gives answers P S c
  gives-weaker R S c w h = ends-weaker answers P (HasValue R) (HasValue S) c (λ d. if-weaker R S d.value w) h

  pub gives-behind : {X : Type 0} (R : X → Type 0) (before : List E) (c : Check K A E X) → Gives answers P R c → Gives answers P R (behind before c)
  gives-behind R before (Done c) h = h
  gives-behind R before (Fetch k g) h = λ p. gives-behind R before (g (answers k)) (h p)

  gives-on : {X Y : Type 0} (R : X → Type 0) (S : Y → Type 0) (o : Option X) (f : X → Check K A E Y) → IfThere R o → ((x : X) → R x → Gives answers P S (f x)) → Gives answers P S (on_value o f)
  gives-on R S None f h g = tt
  gives-on R S (Some x) f h g = g x h

  pub gives-bind : {X Y : Type 0} (R : X → Type 0) (S : Y → Type 0) (c : Check K A E X) (f : X → Check K A E Y) → Gives answers P R c → ((x : X) → R x → Gives answers P S (f x)) → Gives answers P S (go_on c f)
  gives-bind R S (Done c) f h g = gives-behind S c.errors (on_value c.value f) (gives-on R S c.value f h g)
  gives-bind R S (Fetch k q) f h g = λ p. gives-bind R S (q (answers k)) f (h p) g

  gives-second : {X Y : Type 0} (R : X → Type 0) (S : Y → Type 0) (o : Option X) (d : Check K A E Y) → IfThere R o → Gives answers P S d → Gives answers P (BothAre R S) (and_then o d)
  gives-second R S o (Done d) h g = if-paired R S o d.value h g
  gives-second R S o (Fetch k q) h g = λ p. gives-second R S o (q (answers k)) h (g p)

  pub gives-both : {X Y : Type 0} (R : X → Type 0) (S : Y → Type 0) (c : Check K A E X) (d : Check K A E Y) → Gives answers P R c → Gives answers P S d → Gives answers P (BothAre R S) (both c d)
  gives-both R S (Done c) d h g = gives-behind (BothAre R S) c.errors (and_then c.value d) (gives-second R S c.value d h g)
  gives-both R S (Fetch k q) d h g = λ p. gives-both R S (q (answers k)) d (h p) g

  gives-observing : {X Y : Type 0} (R : X → Type 0) (S : Y → Type 0) (c : Check K A E X) (f : Option X → Check K A E Y) → Gives answers P R c → ((o : Option X) → IfThere R o → Gives answers P S (f o)) → Gives answers P S (observing c f)
  gives-observing R S (Done c) f h g = gives-behind S c.errors (f c.value) (g c.value h)
  gives-observing R S (Fetch k q) f h g = λ p. gives-observing R S (q (answers k)) f (h p) g

  -- what is so behind the first, whatever that ends with, may be known of the second
  pub gives-noting-what : {X Y : Type 0} (Q : Type 0) (S : Y → Type 0) (c : Check K A E X) (d : Check K A E Y) → EndsIn answers P (λ x. Q) c → (Q → Gives answers P S d) → Gives answers P S (noting c d)
  gives-noting-what Q S (Done c) d h g = gives-behind S c.errors d (g h)
  gives-noting-what Q S (Fetch k q) d h g = λ p. gives-noting-what Q S (q (answers k)) d (h p) g

  pub gives-noting : {X Y : Type 0} (S : Y → Type 0) (c : Check K A E X) (d : Check K A E Y) → Gives answers P S d → Gives answers P S (noting c d)
  gives-noting S c d g = gives-observing Anything S c (λ value. d) (gives-any c) (λ o _. g)

  pub gives-tried : {X : Type 0} (R : X → Type 0) (c : Check K A E X) → Gives answers P R c → Gives answers P (IfThere R) (tried c)
  gives-tried R (Done c) h = h
  gives-tried R (Fetch k g) h = λ p. gives-tried R (g (answers k)) (h p)

  pub gives-hushed : {X : Type 0} (R : X → Type 0) (c : Check K A E X) → Gives answers P R c → Gives answers P R (hushed c)
  gives-hushed R (Done c) h = h
  gives-hushed R (Fetch k g) h = λ p. gives-hushed R (g (answers k)) (h p)

  gives-rest : {X : Type 0} (R : X → Type 0) (before : Option (List X)) (cs : List (Check K A E X)) → IfThere (AllByRecursion R) before → AllByRecursion (λ c. Gives answers P R c) cs → Gives answers P (AllByRecursion R) (all_behind before cs)
  gives-rest R before [] h g = h
  gives-rest R before (c ∷ cs) h g = gives-observing R (AllByRecursion R) c _ g.0 (λ o v. gives-rest R (appended before o) cs (if-appended R before o h v) g.1)

  pub gives-all : {X : Type 0} (R : X → Type 0) (cs : List (Check K A E X)) → AllByRecursion (λ c. Gives answers P R c) cs → Gives answers P (AllByRecursion R) (all cs)
  gives-all R cs g = gives-rest R (Some []) cs tt g

  pub gives-choice : {X : Type 0} (R : X → Type 0) (b : Bool) (c d : Check K A E X) → Gives answers P R c → Gives answers P R d → Gives answers P R (if b then c else d)
  gives-choice R true c d h g = h
  gives-choice R false c d h g = g

  -- a chain, each step of which gives such a value from two
  pub gives-grouped : {T X Y : Type 0} (R : X → Type 0) (S : Y → Type 0) (step : T → X × Y → Check K A E X) (left : Check K A E X) (more : List (T × Check K A E Y)) →
      ((t : T) (p : X × Y) → BothAre R S p → Gives answers P R (step t p)) → Gives answers P R left → AllByRecursion (λ m. Gives answers P S m.1) more → Gives answers P R (grouped step left more)
  gives-grouped R S step left [] w h g = h
  gives-grouped R S step left ((t, right) ∷ more) w h g =
      gives-grouped R S step (go_on (both left right) (step t)) more w (gives-bind (BothAre R S) R (both left right) (step t) (gives-both R S left right h g.0) (w t)) g.1

-- the keys of those that are asked
abbrev pub KeyIs : {K : Type 0} → (K → Type 0) → Asked K → Type 0
KeyIs P asked = P (key_of asked)

pub ends-used : {K A X : Type 0} (answers : K → A) (P : K → Type 0) (R : X → Type 0) (task : Task K A X) → EndsIn answers P R task → EndsIn (answering answers) (KeyIs P) R (used task)
ends-used answers P R (Done x) h = h
ends-used answers P R (Fetch k g) h = λ p. ends-used answers P R (g (answers k)) (h p)

-- What holds of all that a task asks holds of its value what it has to.
pub value-is : {K A X : Type 0} (answers : K → A) (P : K → Type 0) (R : X → Type 0) (task : Task (Asked K) A X) → EndsIn (answering answers) (KeyIs P) R task → ((k : K) → Among (asks answers task) k → P k) → R (value_with (answering answers) task)
value-is answers P R (Done x) h w = h
value-is answers P R (Fetch asked g) h w = value-is answers P R (g (answers (key_of asked))) (h (w (key_of asked) (inl refl))) (λ k n. w k (inr n))

-- What is put together of sound checks is sound.
use Rattle.std.proofs.Common.{Bool, true, false, List, [], ◌∷◌, ◌++◌, Option, Some, None}
use Rattle.std.specs.Prelude.{if◌then◌else◌}
use Rattle.std.specs.List.{AllByRecursion}
use Rattle.queries.specs.Queries.{Done, Fetch, ◌>>=◌}
use Rattle.checks.specs.Checks.{behind, on_value, go_on, paired, and_then, both, appended, observing, all_behind, all, noting, tried, hushed, grouped}
use Rattle.expr_check.specs.declared.line.Line.{Line}
use Rattle.expr_check.specs.Types.{CheckOf}
use Rattle.type_infer.specs.Readings.{Query}
use Rattle.type_infer.specs.Sound.{Sound, IfThere, SoundCheck}

-- one query, and then the one that its value gives
pub sound-then : {X Y : Type 0} (R : X → Type 0) (S : Y → Type 0) (q : Query X) (f : X → Query Y) → Sound R q → ((x : X) → R x → Sound S (f x)) → Sound S (q >>= f)
sound-then R S (Done x) f s h = h x s
sound-then R S (Fetch k g) f s h = (s.0, λ a p. sound-then R S (g a) f (s.1 a p) h)

-- what is true of less is sound of it
pub sound-weaker : {X : Type 0} (R S : X → Type 0) (q : Query X) → ((x : X) → R x → S x) → Sound R q → Sound S q
sound-weaker R S (Done x) h s = h x s
sound-weaker R S (Fetch k g) h s = (s.0, λ a p. sound-weaker R S (g a) h (s.1 a p))

pub sound-behind : {X : Type 0} (P : X → Type 0) (before : List Line) (c : CheckOf X) → SoundCheck P c → SoundCheck P (behind before c)
sound-behind P before (Done c) s = s
sound-behind P before (Fetch k g) s = (s.0, λ a p. sound-behind P before (g a) (s.1 a p))

on-value : {X Y : Type 0} (P : X → Type 0) (Q : Y → Type 0) (o : Option X) (f : X → CheckOf Y) → IfThere P o → ((x : X) → P x → SoundCheck Q (f x)) → SoundCheck Q (on_value o f)
on-value P Q None f s h = tt
on-value P Q (Some x) f s h = h x s

pub sound-bind : {X Y : Type 0} (P : X → Type 0) (Q : Y → Type 0) (c : CheckOf X) (f : X → CheckOf Y) → SoundCheck P c → ((x : X) → P x → SoundCheck Q (f x)) → SoundCheck Q (go_on c f)
sound-bind P Q (Done c) f s h = sound-behind Q c.errors (on_value c.value f) (on-value P Q c.value f s h)
sound-bind P Q (Fetch k g) f s h = (s.0, λ a p. sound-bind P Q (g a) f (s.1 a p) h)

abbrev pub BothAre : {X Y : Type 0} → (X → Type 0) → (Y → Type 0) → X × Y → Type 0
BothAre P Q p = P p.0 × Q p.1

paired-are : {X Y : Type 0} (P : X → Type 0) (Q : Y → Type 0) (x : Option X) (y : Option Y) → IfThere P x → IfThere Q y → IfThere (BothAre P Q) (paired x y)
paired-are P Q (Some x) (Some y) h g = (h, g)
paired-are P Q (Some x) None h g = tt
paired-are P Q None (Some y) h g = tt
paired-are P Q None None h g = tt

sound-second : {X Y : Type 0} (P : X → Type 0) (Q : Y → Type 0) (x : Option X) (d : CheckOf Y) → IfThere P x → SoundCheck Q d → SoundCheck (BothAre P Q) (and_then x d)
sound-second P Q x (Done d) h s = paired-are P Q x d.value h s
sound-second P Q x (Fetch k g) h s = (s.0, λ a p. sound-second P Q x (g a) h (s.1 a p))

pub sound-both : {X Y : Type 0} (P : X → Type 0) (Q : Y → Type 0) (c : CheckOf X) (d : CheckOf Y) → SoundCheck P c → SoundCheck Q d → SoundCheck (BothAre P Q) (both c d)
sound-both P Q (Done c) d s t = sound-behind (BothAre P Q) c.errors (and_then c.value d) (sound-second P Q c.value d s t)
sound-both P Q (Fetch k g) d s t = (s.0, λ a p. sound-both P Q (g a) d (s.1 a p) t)

-- one check, and then the one that its outcome gives
pub sound-observing : {X Y : Type 0} (P : X → Type 0) (Q : Y → Type 0) (c : CheckOf X) (f : Option X → CheckOf Y) → SoundCheck P c → ((o : Option X) → IfThere P o → SoundCheck Q (f o)) → SoundCheck Q (observing c f)
sound-observing P Q (Done c) f s h = sound-behind Q c.errors (f c.value) (h c.value s)
sound-observing P Q (Fetch k g) f s h = (s.0, λ a p. sound-observing P Q (g a) f (s.1 a p) h)

pub sound-noting : {X Y : Type 0} (P : X → Type 0) (Q : Y → Type 0) (c : CheckOf X) (d : CheckOf Y) → SoundCheck P c → SoundCheck Q d → SoundCheck Q (noting c d)
sound-noting P Q c d s t = sound-observing P Q c (λ value. d) s (λ o _. t)

pub sound-tried : {X : Type 0} (P : X → Type 0) (c : CheckOf X) → SoundCheck P c → SoundCheck (IfThere P) (tried c)
sound-tried P (Done c) s = s
sound-tried P (Fetch k g) s = (s.0, λ a p. sound-tried P (g a) (s.1 a p))

pub sound-hushed : {X : Type 0} (P : X → Type 0) (c : CheckOf X) → SoundCheck P c → SoundCheck P (hushed c)
sound-hushed P (Done c) s = s
sound-hushed P (Fetch k g) s = (s.0, λ a p. sound-hushed P (g a) (s.1 a p))

unfoldable pub AreSound : {X : Type 0} → (X → Type 0) → List (CheckOf X) → Type 0
AreSound P cs = AllByRecursion (λ c. SoundCheck P c) cs

pub one-more : {X : Type 0} (P : X → Type 0) (xs : List X) (x : X) → AllByRecursion P xs → P x → AllByRecursion P (xs ++ x ∷ [])
one-more P [] x h g = (g, tt)
one-more P (y ∷ xs) x h g = (h.0, one-more P xs x h.1 g)

appended-are : {X : Type 0} (P : X → Type 0) (xs : Option (List X)) (x : Option X) → IfThere (AllByRecursion P) xs → IfThere P x → IfThere (AllByRecursion P) (appended xs x)
appended-are P (Some xs) (Some x) h g = one-more P xs x h g
appended-are P (Some xs) None h g = tt
appended-are P None (Some x) h g = tt
appended-are P None None h g = tt

sound-rest : {X : Type 0} (P : X → Type 0) (xs : Option (List X)) (cs : List (CheckOf X)) → IfThere (AllByRecursion P) xs → AreSound P cs → SoundCheck (AllByRecursion P) (all_behind xs cs)
unfolding AreSound
sound-rest P xs [] h s = h
sound-rest P xs (c ∷ cs) h s = sound-observing P (AllByRecursion P) c _ s.0 (λ o v. sound-rest P (appended xs o) cs (appended-are P xs o h v) s.1)

pub sound-all : {X : Type 0} (P : X → Type 0) (cs : List (CheckOf X)) → AreSound P cs → SoundCheck (AllByRecursion P) (all cs)
sound-all P cs s = sound-rest P (Some []) cs tt s

pub sound-choice : {X : Type 0} (R : X → Type 0) (b : Bool) (q r : Query X) → Sound R q → Sound R r → Sound R (if b then q else r)
sound-choice R true q r h g = h
sound-choice R false q r h g = g

-- a chain whose every step is sound
pub sound-grouped : {T X Y : Type 0} (P : X → Type 0) (Q : Y → Type 0) (step : T → X × Y → CheckOf X) (left : CheckOf X) (more : List (T × CheckOf Y)) →
    ((t : T) (p : X × Y) → BothAre P Q p → SoundCheck P (step t p)) → SoundCheck P left → AllByRecursion (λ m. SoundCheck Q m.1) more → SoundCheck P (grouped step left more)
sound-grouped P Q step left [] h s t = s
sound-grouped P Q step left ((t, right) ∷ more) h s r =
    sound-grouped P Q step (go_on (both left right) (step t)) more h (sound-bind (BothAre P Q) P (both left right) (step t) (sound-both P Q left right s r.0) (h t)) r.1

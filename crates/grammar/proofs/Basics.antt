-- Lists of tokens: how they begin, and where they stop.
use Rattle.std.proofs.Common.{ap, ◌≡◌, ℕ, suc, ◌<◌, Bool, true, false, ◌&&◌, ◌||◌, List, [], ◌∷◌, ◌++◌, length, refl, sym, ◌∙◌, subst, arith, ◌≤◌}
use Rattle.std.proofs.lemmas.List.{append_assoc, length-append}
use Rattle.std.proofs.lemmas.Bool.{true≢false, false≢true}
use Rattle.grammar.specs.Forms.{Form, begins_by}
use Rattle.grammar.specs.Faults.{Stops, StartsAs, Parsed, FailsAt, IsUnambiguousBelow, IsUnambiguous, StartsWithin, AreDisjoint, IsSubset, NeverContinuesWith, ContinuesWith, Begins, IsBare}

pub or_left : (a b : Bool) → (a || b) ≡ false → a ≡ false
or_left true b e = e
or_left false b e = refl

pub or_right : (a b : Bool) → (a || b) ≡ false → b ≡ false
or_right true b e = absurd (true≢false e)
or_right false b e = e

pub or_both : (a b : Bool) → a ≡ false → b ≡ false → (a || b) ≡ false
or_both true b e h = absurd (true≢false e)
or_both false b e h = h

pub or_true_left : (a b : Bool) → a ≡ true → (a || b) ≡ true
or_true_left true b e = refl
or_true_left false b e = absurd (false≢true e)

pub or_true_right : (a b : Bool) → b ≡ true → (a || b) ≡ true
or_true_right true b e = refl
or_true_right false b e = e

pub both_false : (b : Bool) → b ≡ false → b ≡ true → ⊥
both_false true e h = true≢false e
both_false false e h = false≢true h

pub and_no_left : (a b : Bool) → a ≡ false → (a && b) ≡ false
and_no_left true b e = absurd (true≢false e)
and_no_left false b e = refl

pub and_no_right : (a b : Bool) → b ≡ false → (a && b) ≡ false
and_no_right true b e = e
and_no_right false b e = refl

pub stops_left : {T : Type 0} (f g : T → Bool) (v : List T) → Stops (λ t. f t || g t) v → Stops f v
stops_left f g [] s = tt
stops_left f g (t ∷ v) s = or_left (f t) (g t) s

pub stops_right : {T : Type 0} (f g : T → Bool) (v : List T) → Stops (λ t. f t || g t) v → Stops g v
stops_right f g [] s = tt
stops_right f g (t ∷ v) s = or_right (f t) (g t) s

-- what begins as a list that stops does stop
pub stops_as : {T : Type 0} (f : T → Bool) (rest v : List T) → StartsAs rest v → Stops f rest → Stops f v
stops_as f [] v e s = subst (λ u. Stops f u) (sym e) tt
stops_as f (t ∷ rest) v e s = subst (λ u. Stops f u) (sym e.1) s

pub stops_behind : {T : Type 0} (f : T → Bool) (before rest v : List T) → StartsAs rest v → Stops f (before ++ rest) → Stops f (before ++ v)
stops_behind f [] rest v e s = stops_as f rest v e s
stops_behind f (t ∷ before) rest v e s = s

pub none_left : {T : Type 0} (t : T) (ts us : List T) → t ∷ ts ≡ us → us ≡ [] → ⊥
none_left t ts us e n = cc

pub head_of : {T : Type 0} (s t : T) (ss ts : List T) → s ∷ ss ≡ t ∷ ts → s ≡ t
head_of s t ss ts e = cc

pub tail_of : {T : Type 0} (s t : T) (ss ts : List T) → s ∷ ss ≡ t ∷ ts → ss ≡ ts
tail_of s t ss ts e = cc

pub stops_or : {T : Type 0} (f g : T → Bool) (v : List T) → Stops f v → Stops g v → Stops (λ t. f t || g t) v
stops_or f g [] a b = tt
stops_or f g (t ∷ v) a b = or_both (f t) (g t) a b

pub stops_nothing : {T : Type 0} (v : List T) → Stops (λ t. false) v
stops_nothing [] = tt
stops_nothing (t ∷ v) = refl

pub stops_never : {T : Type 0} (on : T → Bool) (v : List T) → ((t : T) → on t ≡ false) → Stops on v
stops_never on [] never = tt
stops_never on (t ∷ v) never = never t

pub and_stops : {T : Type 0} (b : Bool) (on : T → Bool) (v : List T) → Stops on v → Stops (λ t. b && on t) v
and_stops b on [] s = tt
and_stops b on (t ∷ v) s = and_no_right b (on t) s

pub not_begins : {T : Type 0} (test : T → Bool) (v : List T) → begins_by test v ≡ false → Stops test v
not_begins test [] e = tt
not_begins test (t ∷ v) e = e

pub pair_is : {A B : Type 0} (p q : A × B) → p.0 ≡ q.0 → p.1 ≡ q.1 → p ≡ q
pair_is (a, b) (c, d) e h = cc

pub cons_is : {A : Type 0} (p q : A) (ps qs : List A) → p ≡ q → ps ≡ qs → p ∷ ps ≡ q ∷ qs
cons_is p q ps qs e h = cc

pub part_small : {T : Type 0} (a b : List T) (n : ℕ) → length (a ++ b) < n → length a < n
part_small a b n h = omega (arith, length-append a b)

pub rest_small : {T : Type 0} (a b : List T) (n : ℕ) → length (a ++ b) < n → length b < n
rest_small a b n h = omega (arith, length-append a b)

pub moved : {T : Type 0} (a b v c d w : List T) → a ++ b ++ v ≡ c ++ d ++ w → a ++ (b ++ v) ≡ c ++ (d ++ w)
moved a b v c d w e = sym (append_assoc a b v) ∙ e ∙ append_assoc c d w

pub begins_left : {T : Type 0} (test : T → Bool) (a b : List T) → begins_by test a ≡ true → begins_by test (a ++ b) ≡ true
begins_left test [] b h = absurd (false≢true h)
begins_left test (t ∷ a) b h = h

pub begins_stops : {T : Type 0} (test : T → Bool) (v : List T) → begins_by test v ≡ true → Stops test v → ⊥
begins_stops test [] h s = false≢true h
begins_stops test (t ∷ v) h s = both_false (test t) s h

pub begins_at : {T : Type 0} (test : T → Bool) (v w : List T) → v ≡ w → begins_by test v ≡ true → begins_by test w ≡ true
begins_at test v w e h = subst (λ u. begins_by test u ≡ true) e h

pub apart_stops : {T : Type 0} (mark on : T → Bool) (v : List T) → ((t : T) → mark t ≡ true → on t ≡ false) → begins_by mark v ≡ true → Stops on v
apart_stops mark on [] apart h = tt
apart_stops mark on (t ∷ v) apart h = apart t h

pub begins_as : {T : Type 0} (test : T → Bool) (b new v : List T) → StartsAs new v → begins_by test (b ++ new) ≡ true → begins_by test (b ++ v) ≡ true
begins_as test [] [] v a h = absurd (false≢true h)
begins_as test [] (t ∷ new) v a h = begins_at test (t ∷ a.0) v (sym a.1) h
begins_as test (t ∷ b) new v a h = h

pub begins_more : {T : Type 0} (test more : T → Bool) (v : List T) → IsSubset test more → begins_by test v ≡ true → begins_by more v ≡ true
begins_more test more [] weaker h = h
begins_more test more (t ∷ v) weaker h = weaker t h

-- of a list that is not empty, the first token stands whatever is behind
pub head_begins : {T : Type 0} (one two : T → Bool) (a b : List T) → begins_by one a ≡ true → begins_by two (a ++ b) ≡ true → begins_by two a ≡ true
head_begins one two [] b h k = absurd (false≢true h)
head_begins one two (t ∷ a) b h k = k

pub weaker_begun : {T X : Type 0} (test more : T → Bool) (f : Form T X) → IsSubset test more → StartsWithin test f → StartsWithin more f
weaker_begun test more f weaker begun x r = begins_more test more (f.tokens x) weaker (begun x r)

pub one_of_any : {T X : Type 0} (f : Form T X) → ((n : ℕ) → IsUnambiguousBelow n f) → IsUnambiguous f
one_of_any f one x y v w rx ry sv sw e = one (suc (length (f.tokens x))) x y v w (omega arith) rx ry sv sw e

pub one_to : {T X : Type 0} (f : Form T X) → IsUnambiguous f → (n : ℕ) → IsUnambiguousBelow n f
one_to f one n x y v w small rx ry sv sw e = one x y v w rx ry sv sw e

pub none_smaller : {T X : Type 0} (f : Form T X) → IsUnambiguousBelow 0 f
none_smaller f x y v w small rx ry sv sw e = absurd (omega arith)

pub one_holds : (a b c : Bool) → (a ≡ true → c ≡ true) → (b ≡ true → c ≡ true) → (a || b) ≡ true → c ≡ true
one_holds true b c f g h = f refl
one_holds false b c f g h = g h

pub not_true : (b : Bool) → (b ≡ true → ⊥) → b ≡ false
not_true true h = absurd (h refl)
not_true false h = refl

-- a form that continues with certain tokens does not continue with others
pub goes_apart : {T X : Type 0} (test on : T → Bool) (f : Form T X) → ContinuesWith on f → AreDisjoint test on → NeverContinuesWith test f
goes_apart test on f goes apart x t m = not_true (f.continues x t) (λ h. both_false (on t) (apart t m) (goes x t h))

pub goes_more : {T X : Type 0} (on more : T → Bool) (f : Form T X) → ContinuesWith on f → IsSubset on more → ContinuesWith more f
goes_more on more f goes within x t h = within t (goes x t h)

pub taken_at : {T X : Type 0} (f : Form T X) (x : X) (ends : T → Bool) (old a b : List T) → Parsed f x ends old a → a ≡ b → Parsed f x ends old b
taken_at f x ends old a b t e = subst (λ z. Parsed f x ends old z) e t

pub refused_from : {T X : Type 0} (f : Form T X) (a b new : List T) → FailsAt f a new → b ≡ a → FailsAt f b new
refused_from f a b new r e = subst (λ z. FailsAt f z new) (sym e) r

starts_same : {T : Type 0} (v : List T) → StartsAs v v
starts_same [] = refl
starts_same (t ∷ v) = (v, refl)

-- a form that continues with nothing
pub ends_goes : {T X : Type 0} (on : T → Bool) (f : Form T X) → ((x : X) (t : T) → f.continues x t ≡ false) → ContinuesWith on f
ends_goes on f ends x t h = absurd (both_false (f.continues x t) (ends x t) h)

pub ends_apart : {T X : Type 0} (test : T → Bool) (f : Form T X) → ((x : X) (t : T) → f.continues x t ≡ false) → NeverContinuesWith test f
ends_apart test f ends x t m = ends x t

-- what was taken was not refused
pub taken_not_refused : {T X : Type 0} {f : Form T X} {x : X} {old mid new : List T} → Parsed f x (f.continues x) old mid → FailsAt f old new → ⊥
taken_not_refused {T} {X} {f} {x} {old} {mid} {new} t r = r.refuses x new mid t.right (starts_same new) t.stops (sym t.spelled ∙ r.spelled)

-- a tree of one token is some tree
pub bare_begins : {T X : Type 0} {f : Form T X} {t : T} → IsBare f t → Begins f []
bare_begins {T} {X} {f} {t} b = record { tree = b.tree; more = t ∷ []; right = b.right; spelled = b.spelled }

-- a tree that continues with nothing ends anywhere
pub taken_ended : {T X : Type 0} {f : Form T X} {x : X} {e : T → Bool} {old new : List T} → ((y : X) (t : T) → f.continues y t ≡ false) → Parsed f x e old new → Parsed f x (f.continues x) old new
taken_ended {T} {X} {f} {x} {e} {old} {new} ends t = record { spelled = t.spelled; right = t.right; stops = stops_never (f.continues x) new (ends x) }

pub taken_nothing : {T X : Type 0} {f : Form T X} {x : X} {e : T → Bool} {old new : List T} → Parsed f x e old new → Parsed f x (λ t. false) old new
taken_nothing {T} {X} {f} {x} {e} {old} {new} t = record { spelled = t.spelled; right = t.right; stops = stops_nothing new }

-- a tree of one token stands at the front of a list
pub single_taken : {T X : Type 0} (f : Form T X) (x : X) (t : T) (old new : List T) → f.tokens x ≡ t ∷ [] → f.is_well_formed x ≡ true → old ≡ t ∷ new → Parsed f x (λ u. false) old new
single_taken f x t old new e r h = record { spelled = h ∙ ap (λ ts. ts ++ new) (sym e); right = r; stops = stops_nothing new }

begins_some : {T : Type 0} (test : T → Bool) (v : List T) → begins_by test v ≡ true → 0 < length v
begins_some test [] h = absurd (false≢true h)
begins_some test (t ∷ v) h = omega arith

-- a tree that begins with a token takes one at least
pub taken_shorter : {T X : Type 0} {f : Form T X} {x : X} {ends : T → Bool} {old new : List T} (test : T → Bool) → StartsWithin test f → Parsed f x ends old new → length new < length old
taken_shorter {T} {X} {f} {x} {ends} {old} {new} test begun t =
    let some = begins_some test (f.tokens x) (begun x t.right) in
    let e : length old ≡ length (f.tokens x ++ new) = ap length t.spelled in
    omega (arith, length-append (f.tokens x) new)

-- no tree takes more than there is
pub taken_no_longer : {T X : Type 0} {f : Form T X} {x : X} {ends : T → Bool} {old new : List T} → Parsed f x ends old new → length new ≤ length old
taken_no_longer {T} {X} {f} {x} {ends} {old} {new} t =
    let e : length old ≡ length (f.tokens x ++ new) = ap length t.spelled in
    omega (arith, length-append (f.tokens x) new)

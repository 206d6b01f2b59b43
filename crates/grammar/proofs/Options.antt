-- Trees that may be left out, and trees that pass a test.
use Rattle.std.proofs.Common.{◌||◌, ◌≡◌, ℕ, ◌<◌, Bool, true, false, List, [], ◌∷◌, ◌++◌, length, refl, sym, ◌∙◌, ap, subst, Option, Some, None}
use Rattle.std.proofs.lemmas.List.{append_assoc, append-nil}
use Rattle.std.proofs.lemmas.Bool.{and_parts, and_from}
use Rattle.grammar.specs.Forms.{Form, begins_by, token, both, perhaps, perhaps_tokens, perhaps_well_formed, once, once_on, beginning, narrow}
use Rattle.grammar.specs.Faults.{Stops, StartsAs, Parsed, Refuses, Begins, FailsAt, IsUnambiguousBelow, IsUnambiguous, StartsWithin, AreDisjoint, IsSubset, NeverContinuesWith, ContinuesWith, Follows, Widens, IsBare}
use Rattle.grammar.proofs.Basics.{both_false, stops_left, stops_right, stops_or, stops_as, stops_behind, pair_is, part_small, rest_small, moved, begins_left, begins_stops, begins_at, begins_as, apart_stops, head_begins, one_of_any, one_to, one_holds, begins_more, or_true_left, or_true_right}

-- ---- a tree that may be left out

pub perhaps_one : {T X : Type 0} (test : T → Bool) (f : Form T X) (n : ℕ) → StartsWithin test f → IsUnambiguousBelow n f → IsUnambiguousBelow n (perhaps test f)
perhaps_one test f n begun one None None v w small rx ry sv sw e = (refl, e)
perhaps_one test f n begun one None (Some y) v w small rx ry sv sw e = absurd (begins_stops test v (begins_at test (f.tokens y ++ w) v (sym e) (begins_left test (f.tokens y) w (begun y ry))) sv)
perhaps_one test f n begun one (Some x) None v w small rx ry sv sw e = absurd (begins_stops test w (begins_at test (f.tokens x ++ v) w e (begins_left test (f.tokens x) v (begun x rx))) sw)
perhaps_one test f n begun one (Some x) (Some y) v w small rx ry sv sw e = let found = one x y v w small rx ry sv sw e in (ap (λ z. Some z) found.0, found.1)

pub left_out : {T X : Type 0} (test : T → Bool) (f : Form T X) (old : List T) → Stops test old → Parsed (perhaps test f) None test old old
left_out test f old s = record { spelled = refl; right = refl; stops = s }

pub put_in : {T X : Type 0} (test : T → Bool) (f : Form T X) (x : X) (old new : List T) → Parsed f x (f.continues x) old new → Parsed (perhaps test f) (Some x) (f.continues x) old new
put_in test f x old new t = record { spelled = t.spelled; right = t.right; stops = t.stops }

-- what closes is not there, so the tree is wanted, and refused
wanted_refuses : {T X : Type 0} (test close : T → Bool) (f : Form T X) (before new : List T) → NeverContinuesWith close f → Refuses f before new → Stops close (before ++ new) → Refuses (both (perhaps test f) (token close)) before new
wanted_refuses test close f before new apart refuses s (None, c) v w r sv sw e = begins_stops close (before ++ v) (begins_at close (c ∷ w) (before ++ v) e r) (stops_behind close before new v sv s)
wanted_refuses test close f before new apart refuses s (Some x, c) v w r sv sw e =
    let r2 = and_parts (f.is_well_formed x) (close c) r in
    refuses x v (c ∷ w) r2.0 sv (apart x c r2.1) (sym (append_assoc (f.tokens x) (c ∷ []) w) ∙ e)

pub wanted_refused : {T X : Type 0} (test close : T → Bool) (f : Form T X) (some : T) (old new : List T) → NeverContinuesWith close f → close some ≡ true → Stops close old → FailsAt f old new → FailsAt (both (perhaps test f) (token close)) old new
wanted_refused test close f some old new apart m s r = record {
  before = r.before;
  spelled = r.spelled;
  refuses = wanted_refuses test close f r.before new apart r.refuses (subst (λ ts. Stops close ts) r.spelled s);
  begins = record {
    tree = (Some r.begins.tree, some);
    more = r.begins.more ++ (some ∷ []);
    right = and_from (f.is_well_formed r.begins.tree) (close some) r.begins.right m;
    spelled = ap (λ ts. ts ++ (some ∷ [])) r.begins.spelled ∙ append_assoc r.before r.begins.more (some ∷ []);
  };
}

-- a tree that may be left out, and was begun
pub perhaps_refuses : {T X : Type 0} (test : T → Bool) (f : Form T X) (before new : List T) → begins_by test (before ++ new) ≡ true → Refuses f before new → Refuses (perhaps test f) before new
perhaps_refuses test f before new h r (Some x) v w rx sv sw e = r x v w rx sv sw e
perhaps_refuses test f before new h r None v w rx sv sw e = begins_stops test w (begins_at test (before ++ v) w (sym e) (begins_as test before new v sv h)) sw

pub perhaps_refused : {T X : Type 0} (test : T → Bool) (f : Form T X) (old new : List T) → begins_by test old ≡ true → FailsAt f old new → FailsAt (perhaps test f) old new
perhaps_refused test f old new h r = record {
  before = r.before;
  spelled = r.spelled;
  refuses = perhaps_refuses test f r.before new (begins_at test old (r.before ++ new) r.spelled h) r.refuses;
  begins = record { tree = Some r.begins.tree; more = r.begins.more; right = r.begins.right; spelled = r.begins.spelled };
}

pub perhaps_goes : {T X : Type 0} (more test : T → Bool) (f : Form T X) → IsSubset test more → ContinuesWith more f → ContinuesWith more (perhaps test f)
perhaps_goes more test f tests goes None t h = tests t h
perhaps_goes more test f tests goes (Some x) t h = goes x t h

pub perhaps_some : {T X : Type 0} (test : T → Bool) (f : Form T X) → Begins (perhaps test f) []
perhaps_some test f = record { tree = None; more = []; right = refl; spelled = refl }

-- What a tree that may be left out owes for its laws.
pub record Optional {T : Type 0} {X : Type 0} (test : T → Bool) (f : Form T X) : Type 0 where
  pub begun : StartsWithin test f
  pub one : IsUnambiguous f

pub optional_one : {T X : Type 0} {test : T → Bool} {f : Form T X} → Optional test f → IsUnambiguous (perhaps test f)
optional_one {T} {X} {test} {f} optional = one_of_any (perhaps test f) (λ n. perhaps_one test f n optional.begun (one_to f optional.one n))

-- what follows must not continue with the tree, nor begin as it does
pub perhaps_follows : {T X Y : Type 0} (test : T → Bool) (f : Form T X) (g : Form T Y) (begins : T → Bool) → StartsWithin begins g → AreDisjoint begins test → NeverContinuesWith begins f → Follows (perhaps test f) g
perhaps_follows test f g begins begun apart all None y w r s = apart_stops begins test (g.tokens y ++ w) apart (begins_left begins (g.tokens y) w (begun y r))
perhaps_follows test f g begins begun apart all (Some x) y w r s = apart_stops begins (f.continues x) (g.tokens y ++ w) (all x) (begins_left begins (g.tokens y) w (begun y r))

-- ---- a tree, and one more that may be left out

-- what is behind the first tree doesn't continue with it
once_stops : {T X Y : Type 0} (test : T → Bool) (f : Form T X) (g : Form T Y) (x : X) (o : Option Y) (w : List T) → StartsWithin test g → NeverContinuesWith test f → perhaps_well_formed g o ≡ true → Stops (once_on test f g x o) w → Stops (f.continues x) (perhaps_tokens g o ++ w)
once_stops test f g x None w begun apart r s = stops_right test (f.continues x) w s
once_stops test f g x (Some y) w begun apart r s = apart_stops test (f.continues x) (g.tokens y ++ w) (apart x) (begins_left test (g.tokens y) w (begun y r))

option_one : {T X Y : Type 0} (test : T → Bool) (f : Form T X) (g : Form T Y) (n : ℕ) → StartsWithin test g → IsUnambiguousBelow n g → (x : X) (o p : Option Y) (v w : List T) → length (perhaps_tokens g o) < n → perhaps_well_formed g o ≡ true → perhaps_well_formed g p ≡ true → Stops (once_on test f g x o) v → Stops (once_on test f g x p) w → perhaps_tokens g o ++ v ≡ perhaps_tokens g p ++ w → (o ≡ p) × (v ≡ w)
option_one test f g n begun one x None None v w small ro rp sv sw e = (refl, e)
option_one test f g n begun one x None (Some y) v w small ro rp sv sw e = absurd (begins_stops test v (begins_at test (g.tokens y ++ w) v (sym e) (begins_left test (g.tokens y) w (begun y rp))) (stops_left test (f.continues x) v sv))
option_one test f g n begun one x (Some y) None v w small ro rp sv sw e = absurd (begins_stops test w (begins_at test (g.tokens y ++ v) w e (begins_left test (g.tokens y) v (begun y ro))) (stops_left test (f.continues x) w sw))
option_one test f g n begun one x (Some y) (Some z) v w small ro rp sv sw e = let found = one y z v w small ro rp sv sw e in (ap (λ u. Some u) found.0, found.1)

pub once_one : {T X Y : Type 0} (test : T → Bool) (f : Form T X) (g : Form T Y) (n : ℕ) → StartsWithin test g → NeverContinuesWith test f → IsUnambiguousBelow n f → IsUnambiguousBelow n g → IsUnambiguousBelow n (once test f g)
once_one test f g n begun apart one two x y v w small rx ry sv sw e =
    let rx2 = and_parts (f.is_well_formed x.0) (perhaps_well_formed g x.1) rx in
    let ry2 = and_parts (f.is_well_formed y.0) (perhaps_well_formed g y.1) ry in
    let found = one x.0 y.0 (perhaps_tokens g x.1 ++ v) (perhaps_tokens g y.1 ++ w) (part_small (f.tokens x.0) (perhaps_tokens g x.1) n small) rx2.0 ry2.0
    (once_stops test f g x.0 x.1 v begun apart rx2.1 sv) (once_stops test f g y.0 y.1 w begun apart ry2.1 sw) (moved (f.tokens x.0) (perhaps_tokens g x.1) v (f.tokens y.0) (perhaps_tokens g y.1) w e) in
    let rest = option_one test f g n begun two x.0 x.1 y.1 v w (rest_small (f.tokens x.0) (perhaps_tokens g x.1) n small) rx2.1 ry2.1 sv (subst (λ z. Stops (once_on test f g z y.1) w) (sym found.0) sw) found.1 in
    (pair_is x y found.0 rest.0, rest.1)

once_refuses : {T X Y : Type 0} (test : T → Bool) (f : Form T X) (g : Form T Y) (x : X) (b new : List T) → begins_by test (b ++ new) ≡ true → Refuses g b new → (o : Option Y) (v w : List T) → perhaps_well_formed g o ≡ true → StartsAs new v → Stops (once_on test f g x o) w → perhaps_tokens g o ++ w ≡ b ++ v → ⊥
once_refuses test f g x b new h r None v w ro sv sw e = begins_stops test w (begins_at test (b ++ v) w (sym e) (begins_as test b new v sv h)) (stops_left test (f.continues x) w sw)
once_refuses test f g x b new h r (Some y) v w ro sv sw e = r y v w ro sv sw e

-- the second tree was begun, and is refused
pub once_refused : {T X Y : Type 0} (test : T → Bool) (f : Form T X) (g : Form T Y) (x : X) (old mid new : List T) → StartsWithin test g → NeverContinuesWith test f → IsUnambiguous f → Parsed f x (f.continues x) old mid → begins_by test mid ≡ true → FailsAt g mid new → FailsAt (once test f g) old new
once_refused test f g x old mid new begun apart one t h r = record {
  before = f.tokens x ++ r.before;
  spelled = t.spelled ∙ ap (λ ts. f.tokens x ++ ts) r.spelled ∙ sym (append_assoc (f.tokens x) r.before new);
  refuses = λ y v w ry sv sw e.
      let ry2 = and_parts (f.is_well_formed y.0) (perhaps_well_formed g y.1) ry in
      let stops : Stops (f.continues x) (r.before ++ v) = stops_behind (f.continues x) r.before new v sv (subst (λ ts. Stops (f.continues x) ts) r.spelled t.stops) in
      let found = one y.0 x (perhaps_tokens g y.1 ++ w) (r.before ++ v) ry2.0 t.right (once_stops test f g y.0 y.1 w begun apart ry2.1 sw) stops (moved (f.tokens y.0) (perhaps_tokens g y.1) w (f.tokens x) r.before v e) in
      once_refuses test f g y.0 r.before new (begins_at test mid (r.before ++ new) r.spelled h) r.refuses y.1 v w ry2.1 sv sw found.1;
  begins = record {
    tree = (x, Some r.begins.tree);
    more = r.begins.more;
    right = and_from (f.is_well_formed x) _ t.right r.begins.right;
    spelled = ap (λ ts. f.tokens x ++ ts) r.begins.spelled ∙ sym (append_assoc (f.tokens x) r.before r.begins.more);
  };
}

pub once_begun : {T X Y : Type 0} (begins test : T → Bool) (f : Form T X) (g : Form T Y) → StartsWithin begins f → StartsWithin begins (once test f g)
once_begun begins test f g begun x r = begins_left begins (f.tokens x.0) (perhaps_tokens g x.1) (begun x.0 ((and_parts (f.is_well_formed x.0) (perhaps_well_formed g x.1) r).0))

once_goes_at : {T X Y : Type 0} (more test : T → Bool) (f : Form T X) (g : Form T Y) → IsSubset test more → ContinuesWith more f → ContinuesWith more g → (x : X) (o : Option Y) (t : T) → once_on test f g x o t ≡ true → more t ≡ true
once_goes_at more test f g tests goes_f goes_g x None t h = one_holds (test t) (f.continues x t) (more t) (tests t) (goes_f x t) h
once_goes_at more test f g tests goes_f goes_g x (Some y) t h = goes_g y t h

pub once_goes : {T X Y : Type 0} (more test : T → Bool) (f : Form T X) (g : Form T Y) → IsSubset test more → ContinuesWith more f → ContinuesWith more g → ContinuesWith more (once test f g)
once_goes more test f g tests goes_f goes_g x t h = once_goes_at more test f g tests goes_f goes_g x.0 x.1 t h

-- What it owes for its laws.
pub record Onces {T : Type 0} {X : Type 0} {Y : Type 0} (test : T → Bool) (f : Form T X) (g : Form T Y) : Type 0 where
  pub begun : StartsWithin test g
  pub apart : NeverContinuesWith test f
  pub one : IsUnambiguous f
  pub later : IsUnambiguous g

pub onces_one : {T X Y : Type 0} {test : T → Bool} {f : Form T X} {g : Form T Y} → Onces test f g → IsUnambiguous (once test f g)
onces_one {T} {X} {Y} {test} {f} {g} onces = one_of_any (once test f g) (λ n. once_one test f g n onces.begun onces.apart (one_to f onces.one n) (one_to g onces.later n))

-- the first tree is refused
pub once_first : {T X Y : Type 0} {test : T → Bool} {f : Form T X} {g : Form T Y} {old new : List T} → Onces test f g → FailsAt f old new → FailsAt (once test f g) old new
once_first {T} {X} {Y} {test} {f} {g} {old} {new} onces r = record {
  before = r.before;
  spelled = r.spelled;
  refuses = λ x v w rx sv sw e.
      let rx2 = and_parts (f.is_well_formed x.0) (perhaps_well_formed g x.1) rx in
      r.refuses x.0 v (perhaps_tokens g x.1 ++ w) rx2.0 sv (once_stops test f g x.0 x.1 w onces.begun onces.apart rx2.1 sw) (sym (append_assoc (f.tokens x.0) (perhaps_tokens g x.1) w) ∙ e);
  begins = record {
    tree = (r.begins.tree, None);
    more = r.begins.more;
    right = and_from (f.is_well_formed r.begins.tree) true r.begins.right refl;
    spelled = append-nil (f.tokens r.begins.tree) ∙ r.begins.spelled;
  };
}

-- the second was begun, and is refused
pub once_later : {T X Y : Type 0} {test : T → Bool} {f : Form T X} {g : Form T Y} {x : X} {old mid new : List T} → Onces test f g → Parsed f x (f.continues x) old mid → begins_by test mid ≡ true → FailsAt g mid new → FailsAt (once test f g) old new
once_later {T} {X} {Y} {test} {f} {g} {x} {old} {mid} {new} onces t h r = once_refused test f g x old mid new onces.begun onces.apart onces.one t h r

-- the second is left out
pub once_alone : {T X Y : Type 0} (test : T → Bool) (f : Form T X) (g : Form T Y) (x : X) {old new : List T} → Parsed f x (f.continues x) old new → Stops test new → Parsed (once test f g) (x, None) (once_on test f g x None) old new
once_alone test f g x {old} {new} t s = record { spelled = t.spelled ∙ ap (λ ts. ts ++ new) (sym (append-nil (f.tokens x))); right = and_from (f.is_well_formed x) true t.right refl; stops = stops_or test (f.continues x) new s t.stops }

-- both are taken
pub once_taken : {T X Y : Type 0} (test : T → Bool) (f : Form T X) (g : Form T Y) (x : X) (y : Y) {old mid new : List T} → Parsed f x (f.continues x) old mid → Parsed g y (g.continues y) mid new → Parsed (once test f g) (x, Some y) (g.continues y) old new
once_taken test f g x y {old} {mid} {new} t u = record { spelled = t.spelled ∙ ap (λ ts. f.tokens x ++ ts) u.spelled ∙ sym (append_assoc (f.tokens x) (g.tokens y) new); right = and_from (f.is_well_formed x) _ t.right u.right; stops = u.stops }

-- ---- trees that begin with a token of a test

pub beginning_begun : {T X : Type 0} (test : T → Bool) (f : Form T X) → StartsWithin test (beginning test f)
beginning_begun test f x r = (and_parts (f.is_well_formed x) (begins_by test (f.tokens x)) r).1

pub beginning_one : {T X : Type 0} (test : T → Bool) (f : Form T X) (n : ℕ) → IsUnambiguousBelow n f → IsUnambiguousBelow n (beginning test f)
beginning_one test f n one x y v w small rx ry sv sw e = one x y v w small ((and_parts (f.is_well_formed x) _ rx).0) ((and_parts (f.is_well_formed y) _ ry).0) sv sw e

-- a tree that is wanted by its first token, and is refused
beginning_begins : {T X : Type 0} (test : T → Bool) (f : Form T X) (some : X) (before new : List T) → (beginning test f).is_well_formed some ≡ true → begins_by test (before ++ new) ≡ true → Begins f before → Begins (beginning test f) before
beginning_begins test f some [] new ok h b = record { tree = some; more = f.tokens some; right = ok; spelled = refl }
beginning_begins test f some (t ∷ before) new ok h b = record { tree = b.tree; more = b.more; right = and_from (f.is_well_formed b.tree) _ b.right (begins_at test (t ∷ (before ++ b.more)) (f.tokens b.tree) (sym b.spelled) h); spelled = b.spelled }

pub beginning_refused : {T X : Type 0} (test : T → Bool) (f : Form T X) (some : X) (old new : List T) → (beginning test f).is_well_formed some ≡ true → begins_by test old ≡ true → FailsAt f old new → FailsAt (beginning test f) old new
beginning_refused test f some old new ok h r = record {
  before = r.before;
  spelled = r.spelled;
  refuses = λ x v w rx sv sw e. r.refuses x v w ((and_parts (f.is_well_formed x) _ rx).0) sv sw e;
  begins = beginning_begins test f some r.before new ok (begins_at test old (r.before ++ new) r.spelled h) r.begins;
}

pub beginning_taken : {T X : Type 0} (test : T → Bool) (f : Form T X) (x : X) (begins : T → Bool) {ends : T → Bool} {old new : List T} → StartsWithin begins f → begins_by test old ≡ true → Parsed f x ends old new → Parsed (beginning test f) x ends old new
beginning_taken test f x begins {ends} {old} {new} begun h t = record { spelled = t.spelled; right = and_from (f.is_well_formed x) _ t.right (head_begins begins test (f.tokens x) new (begun x t.right) (begins_at test old (f.tokens x ++ new) t.spelled h)); stops = t.stops }

-- ---- trees that pass a test

pub narrow_one : {T X : Type 0} (ok : X → Bool) (f : Form T X) (n : ℕ) → IsUnambiguousBelow n f → IsUnambiguousBelow n (narrow ok f)
narrow_one ok f n one x y v w small rx ry sv sw e = one x y v w small ((and_parts (f.is_well_formed x) (ok x) rx).0) ((and_parts (f.is_well_formed y) (ok y) ry).0) sv sw e

pub narrow_refused : {T X : Type 0} (ok : X → Bool) (f : Form T X) (old new : List T) → Widens (narrow ok f) f → FailsAt f old new → FailsAt (narrow ok f) old new
narrow_refused ok f old new widens r =
    let b = widens.at r.begins.tree r.begins.right in
    record {
      before = r.before;
      spelled = r.spelled;
      refuses = λ x v w rx sv sw e. r.refuses x v w ((and_parts (f.is_well_formed x) (ok x) rx).0) sv sw e;
      begins = record { tree = b.tree; more = r.begins.more ++ b.more; right = b.right; spelled = b.spelled ∙ ap (λ ts. ts ++ b.more) r.begins.spelled ∙ append_assoc r.before r.begins.more b.more };
    }

-- a tree that does not pass ends where a token was wanted that continues with it
pub narrow_not : {T X : Type 0} (ok : X → Bool) (f : Form T X) (x : X) (old new : List T) → Widens (narrow ok f) f → IsUnambiguous f → Parsed f x (f.continues x) old new → ok x ≡ false → FailsAt (narrow ok f) old new
narrow_not ok f x old new widens one t fails = record {
  before = f.tokens x;
  spelled = t.spelled;
  refuses = λ y v w ry sv sw e.
      let r2 = and_parts (f.is_well_formed y) (ok y) ry in
      let found = one y x w v r2.0 t.right sw (stops_as (f.continues x) new v sv t.stops) e in
      both_false (ok x) fails (subst (λ z. ok z ≡ true) found.0 r2.1);
  begins = widens.at x t.right;
}

pub narrow_taken : {T X : Type 0} (ok : X → Bool) (f : Form T X) (x : X) {ends : T → Bool} {old new : List T} → Parsed f x ends old new → ok x ≡ true → Parsed (narrow ok f) x ends old new
narrow_taken ok f x {ends} {old} {new} t passes = record { spelled = t.spelled; right = and_from (f.is_well_formed x) (ok x) t.right passes; stops = t.stops }

pub narrow_begun : {T X : Type 0} (test : T → Bool) (ok : X → Bool) (f : Form T X) → StartsWithin test f → StartsWithin test (narrow ok f)
narrow_begun test ok f begun x r = begun x ((and_parts (f.is_well_formed x) (ok x) r).0)

-- ---- an optional tree before another

optional_begun_at : {T X Y : Type 0} (one two : T → Bool) (f : Form T X) (g : Form T Y) → StartsWithin one f → StartsWithin two g → (o : Option X) (y : Y) → perhaps_well_formed f o ≡ true → g.is_well_formed y ≡ true → begins_by (λ t. one t || two t) (perhaps_tokens f o ++ g.tokens y) ≡ true
optional_begun_at one two f g bf bg None y ro ry = begins_more two (λ t. one t || two t) (g.tokens y) (λ t h. or_true_right (one t) (two t) h) (bg y ry)
optional_begun_at one two f g bf bg (Some x) y ro ry = begins_left (λ t. one t || two t) (f.tokens x) (g.tokens y) (begins_more one (λ t. one t || two t) (f.tokens x) (λ t h. or_true_left (one t) (two t) h) (bf x ro))

pub optional_begun : {T X Y : Type 0} (test one two : T → Bool) (f : Form T X) (g : Form T Y) → StartsWithin one f → StartsWithin two g → StartsWithin (λ t. one t || two t) (both (perhaps test f) g)
optional_begun test one two f g bf bg x r = let r2 = and_parts (perhaps_well_formed f x.0) (g.is_well_formed x.1) r in optional_begun_at one two f g bf bg x.0 x.1 r2.0 r2.1

pub without_bare : {T X Y : Type 0} (test : T → Bool) (f : Form T X) {g : Form T Y} {t : T} → IsBare g t → IsBare (both (perhaps test f) g) t
without_bare test f {g} {t} b = record { tree = (None, b.tree); right = b.right; spelled = b.spelled }

pub once_bare : {T X Y : Type 0} (test : T → Bool) {f : Form T X} (g : Form T Y) {t : T} → IsBare f t → IsBare (once test f g) t
once_bare test {f} g {t} b = record { tree = (b.tree, None); right = and_from (f.is_well_formed b.tree) true b.right refl; spelled = append-nil (f.tokens b.tree) ∙ b.spelled }

-- the tree stands, or is left out, and what is behind is refused
pub without_taken : {T X Y : Type 0} (test : T → Bool) (f : Form T X) (g : Form T Y) {y : Y} {ends : T → Bool} {old new : List T} → Parsed g y ends old new → Parsed (both (perhaps test f) g) (None, y) ends old new
without_taken test f g {y} {ends} {old} {new} t = record { spelled = t.spelled; right = t.right; stops = t.stops }

pub with_taken : {T X Y : Type 0} (test : T → Bool) (f : Form T X) (g : Form T Y) {x : X} {y : Y} {on ends : T → Bool} {old mid new : List T} → Parsed f x on old mid → Parsed g y ends mid new → Parsed (both (perhaps test f) g) (Some x, y) ends old new
with_taken test f g {x} {y} {on} {ends} {old} {mid} {new} t u = record { spelled = t.spelled ∙ ap (λ ts. f.tokens x ++ ts) u.spelled ∙ sym (append_assoc (f.tokens x) (g.tokens y) new); right = and_from (f.is_well_formed x) _ t.right u.right; stops = u.stops }

-- a tree of one token of the test begins so
pub bare_later : {T X : Type 0} (next : T → Bool) (f : Form T X) (t : T) (b : IsBare f t) → next t ≡ true → (beginning next f).is_well_formed b.tree ≡ true
bare_later next f t b m = and_from (f.is_well_formed b.tree) _ b.right (begins_at next (t ∷ []) (f.tokens b.tree) (sym b.spelled) m)

-- One of two trees.
use Rattle.std.proofs.Common.{◌≡◌, ℕ, Bool, true, false, ◌||◌, List, ◌++◌, sym, ap, subst, ◌⊎◌, inl, inr}
use Rattle.grammar.specs.Forms.{Form, begins_by, either}
use Rattle.grammar.specs.Faults.{Stops, Parsed, Refuses, FailsAt, IsUnambiguousBelow, StartsWithin, AreDisjoint, ContinuesWith, IsBare, IsUnambiguous}
use Rattle.grammar.proofs.Basics.{or_true_left, or_true_right, stops_behind, begins_left, begins_stops, begins_at, apart_stops, begins_more, one_of_any, one_to}

pub either_one : {T X Y : Type 0} (one two : T → Bool) (f : Form T X) (g : Form T Y) (n : ℕ) → StartsWithin one f → StartsWithin two g → ((t : T) → one t ≡ true → two t ≡ false) → IsUnambiguousBelow n f → IsUnambiguousBelow n g → IsUnambiguousBelow n (either f g)
either_one one two f g n bf bg apart of og (inl x) (inl y) v w small rx ry sv sw e = let found = of x y v w small rx ry sv sw e in (ap (λ z. inl z) found.0, found.1)
either_one one two f g n bf bg apart of og (inl x) (inr y) v w small rx ry sv sw e =
    absurd (begins_stops two (g.tokens y ++ w) (begins_left two (g.tokens y) w (bg y ry)) (apart_stops one two (g.tokens y ++ w) apart (begins_at one (f.tokens x ++ v) (g.tokens y ++ w) e (begins_left one (f.tokens x) v (bf x rx)))))
either_one one two f g n bf bg apart of og (inr x) (inl y) v w small rx ry sv sw e =
    absurd (begins_stops two (g.tokens x ++ v) (begins_left two (g.tokens x) v (bg x rx)) (apart_stops one two (g.tokens x ++ v) apart (begins_at one (f.tokens y ++ w) (g.tokens x ++ v) (sym e) (begins_left one (f.tokens y) w (bf y ry)))))
either_one one two f g n bf bg apart of og (inr x) (inr y) v w small rx ry sv sw e = let found = og x y v w small rx ry sv sw e in (ap (λ z. inr z) found.0, found.1)

pub left_taken : {T X Y : Type 0} (f : Form T X) (g : Form T Y) (x : X) (old new : List T) → Parsed f x (f.continues x) old new → Parsed (either f g) (inl x) (f.continues x) old new
left_taken f g x old new t = record { spelled = t.spelled; right = t.right; stops = t.stops }

pub right_taken : {T X Y : Type 0} (f : Form T X) (g : Form T Y) (x : Y) (old new : List T) → Parsed g x (g.continues x) old new → Parsed (either f g) (inr x) (g.continues x) old new
right_taken f g x old new t = record { spelled = t.spelled; right = t.right; stops = t.stops }

left_refuses : {T X Y : Type 0} (two : T → Bool) (f : Form T X) (g : Form T Y) (before new : List T) → StartsWithin two g → Stops two (before ++ new) → Refuses f before new → Refuses (either f g) before new
left_refuses two f g before new bg s refuses (inl x) v w r sv sw e = refuses x v w r sv sw e
left_refuses two f g before new bg s refuses (inr y) v w r sv sw e = begins_stops two (before ++ v) (begins_at two (g.tokens y ++ w) (before ++ v) e (begins_left two (g.tokens y) w (bg y r))) (stops_behind two before new v sv s)

pub left_refused : {T X Y : Type 0} (two : T → Bool) (f : Form T X) (g : Form T Y) (old new : List T) → StartsWithin two g → Stops two old → FailsAt f old new → FailsAt (either f g) old new
left_refused two f g old new bg s r = record {
  before = r.before;
  spelled = r.spelled;
  refuses = left_refuses two f g r.before new bg (subst (λ ts. Stops two ts) r.spelled s) r.refuses;
  begins = record { tree = inl r.begins.tree; more = r.begins.more; right = r.begins.right; spelled = r.begins.spelled };
}

right_refuses : {T X Y : Type 0} (one : T → Bool) (f : Form T X) (g : Form T Y) (before new : List T) → StartsWithin one f → Stops one (before ++ new) → Refuses g before new → Refuses (either f g) before new
right_refuses one f g before new bf s refuses (inr x) v w r sv sw e = refuses x v w r sv sw e
right_refuses one f g before new bf s refuses (inl y) v w r sv sw e = begins_stops one (before ++ v) (begins_at one (f.tokens y ++ w) (before ++ v) e (begins_left one (f.tokens y) w (bf y r))) (stops_behind one before new v sv s)

pub right_refused : {T X Y : Type 0} (one : T → Bool) (f : Form T X) (g : Form T Y) (old new : List T) → StartsWithin one f → Stops one old → FailsAt g old new → FailsAt (either f g) old new
right_refused one f g old new bf s r = record {
  before = r.before;
  spelled = r.spelled;
  refuses = right_refuses one f g r.before new bf (subst (λ ts. Stops one ts) r.spelled s) r.refuses;
  begins = record { tree = inr r.begins.tree; more = r.begins.more; right = r.begins.right; spelled = r.begins.spelled };
}

pub either_begun : {T X Y : Type 0} (one two : T → Bool) (f : Form T X) (g : Form T Y) → StartsWithin one f → StartsWithin two g → StartsWithin (λ t. one t || two t) (either f g)
either_begun one two f g bf bg (inl x) r = begins_more one (λ t. one t || two t) (f.tokens x) (λ t h. or_true_left (one t) (two t) h) (bf x r)
either_begun one two f g bf bg (inr y) r = begins_more two (λ t. one t || two t) (g.tokens y) (λ t h. or_true_right (one t) (two t) h) (bg y r)

pub either_begun_by : {T X Y : Type 0} (test : T → Bool) (f : Form T X) (g : Form T Y) → StartsWithin test f → StartsWithin test g → StartsWithin test (either f g)
either_begun_by test f g bf bg (inl x) r = bf x r
either_begun_by test f g bf bg (inr y) r = bg y r

pub either_goes : {T X Y : Type 0} (on : T → Bool) (f : Form T X) (g : Form T Y) → ContinuesWith on f → ContinuesWith on g → ContinuesWith on (either f g)
either_goes on f g goes_f goes_g (inl x) t h = goes_f x t h
either_goes on f g goes_f goes_g (inr y) t h = goes_g y t h

pub either_ends : {T X Y : Type 0} (f : Form T X) (g : Form T Y) → ((x : X) (t : T) → f.continues x t ≡ false) → ((y : Y) (t : T) → g.continues y t ≡ false) → (p : X ⊎ Y) (t : T) → (either f g).continues p t ≡ false
either_ends f g ends_f ends_g (inl x) t = ends_f x t
either_ends f g ends_f ends_g (inr y) t = ends_g y t

-- What a choice owes for its laws: the tests that its trees begin with.
pub record Choices {T : Type 0} {X : Type 0} {Y : Type 0} (one two : T → Bool) (f : Form T X) (g : Form T Y) : Type 0 where
  pub left : StartsWithin one f
  pub right : StartsWithin two g
  pub apart : AreDisjoint one two

pub choice_one : {T X Y : Type 0} {one two : T → Bool} {f : Form T X} {g : Form T Y} (n : ℕ) → Choices one two f g → IsUnambiguousBelow n f → IsUnambiguousBelow n g → IsUnambiguousBelow n (either f g)
choice_one {T} {X} {Y} {one} {two} {f} {g} n choices of og = either_one one two f g n choices.left choices.right choices.apart of og

pub choice_begun : {T X Y : Type 0} {one two : T → Bool} {f : Form T X} {g : Form T Y} → Choices one two f g → StartsWithin (λ t. one t || two t) (either f g)
choice_begun {T} {X} {Y} {one} {two} {f} {g} choices = either_begun one two f g choices.left choices.right

-- the first was begun, and is refused
pub choice_left : {T X Y : Type 0} {one two : T → Bool} {f : Form T X} {g : Form T Y} {old new : List T} → Choices one two f g → begins_by one old ≡ true → FailsAt f old new → FailsAt (either f g) old new
choice_left {T} {X} {Y} {one} {two} {f} {g} {old} {new} choices h r = left_refused two f g old new choices.right (apart_stops one two old choices.apart h) r

-- the first was not begun, and the second is refused
pub choice_right : {T X Y : Type 0} {one two : T → Bool} {f : Form T X} {g : Form T Y} {old new : List T} → Choices one two f g → Stops one old → FailsAt g old new → FailsAt (either f g) old new
choice_right {T} {X} {Y} {one} {two} {f} {g} {old} {new} choices s r = right_refused one f g old new choices.left s r

pub choice_took_left : {T X Y : Type 0} (f : Form T X) (g : Form T Y) {x : X} {ends : T → Bool} {old new : List T} → Parsed f x ends old new → Parsed (either f g) (inl x) ends old new
choice_took_left f g {x} {ends} {old} {new} t = record { spelled = t.spelled; right = t.right; stops = t.stops }

pub choice_took_right : {T X Y : Type 0} (f : Form T X) (g : Form T Y) {y : Y} {ends : T → Bool} {old new : List T} → Parsed g y ends old new → Parsed (either f g) (inr y) ends old new
choice_took_right f g {y} {ends} {old} {new} t = record { spelled = t.spelled; right = t.right; stops = t.stops }

pub left_bare : {T X Y : Type 0} {f : Form T X} (g : Form T Y) {t : T} → IsBare f t → IsBare (either f g) t
left_bare {T} {X} {Y} {f} g {t} b = record { tree = inl b.tree; right = b.right; spelled = b.spelled }

pub choice_is_one : {T X Y : Type 0} {one two : T → Bool} {f : Form T X} {g : Form T Y} → Choices one two f g → IsUnambiguous f → IsUnambiguous g → IsUnambiguous (either f g)
choice_is_one {T} {X} {Y} {one} {two} {f} {g} choices of og = one_of_any (either f g) (λ n. choice_one n choices (one_to f of n) (one_to g og n))

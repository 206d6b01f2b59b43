-- One token, and trees one behind the other.
use Rattle.std.proofs.Common.{◌≡◌, ℕ, suc, Bool, true, false, List, [], ◌∷◌, ◌++◌, refl, sym, ◌∙◌, ap, subst, arith}
use Rattle.std.proofs.lemmas.List.{append_assoc, append-nil}
use Rattle.std.proofs.lemmas.Bool.{and_parts, and_from, false≢true}
use Rattle.grammar.specs.Forms.{Form, token, both, both_on}
use Rattle.grammar.specs.Faults.{Stops, StartsAs, Parsed, Begins, FailsAt, IsUnambiguousBelow, IsUnambiguous, StartsWithin, NeverContinuesWith, ContinuesWith, Follows, FollowsOn, Refuses}
use Rattle.grammar.proofs.Basics.{both_false, stops_as, stops_behind, stops_nothing, stops_never, none_left, head_of, tail_of, pair_is, part_small, rest_small, moved, begins_left, apart_stops, one_of_any, one_to}

-- ---- one token

pub token_one : {T : Type 0} (test : T → Bool) (n : ℕ) → IsUnambiguousBelow n (token test)
token_one test n x y v w small rx ry sv sw e = (head_of x y v w e, tail_of x y v w e)

pub token_is_one : {T : Type 0} (test : T → Bool) → IsUnambiguous (token test)
token_is_one test x y v w rx ry sv sw e = (head_of x y v w e, tail_of x y v w e)

pub token_begun : {T : Type 0} (test : T → Bool) → StartsWithin test (token test)
token_begun test t r = r

pub token_goes : {T : Type 0} (test on : T → Bool) → ContinuesWith on (token test)
token_goes test on x t h = absurd (false≢true h)

pub token_taken : {T : Type 0} (test : T → Bool) (t : T) (old new : List T) → old ≡ t ∷ new → test t ≡ true → Parsed (token test) t (λ u. false) old new
token_taken test t old new e m = record { spelled = e; right = m; stops = stops_nothing new }

-- the token at the front of a list
pub took : {T : Type 0} (test : T → Bool) (t : T) (new : List T) → test t ≡ true → Parsed (token test) t (λ u. false) (t ∷ new) new
took test t new m = token_taken test t (t ∷ new) new refl m

refuses_token : {T : Type 0} (test : T → Bool) (old v : List T) (t : T) (w : List T) → Stops test old → StartsAs old v → test t ≡ true → t ∷ w ≡ v → ⊥
refuses_token test [] v t w s a m e = none_left t w v e a
refuses_token test (u ∷ old) v t w s a m e = both_false (test u) s (subst (λ z. test z ≡ true) (head_of t u w a.0 (e ∙ a.1)) m)

pub token_refused : {T : Type 0} (test : T → Bool) (some : T) (old : List T) → test some ≡ true → Stops test old → FailsAt (token test) old old
token_refused test some old m s = record {
  before = [];
  spelled = refl;
  refuses = λ t v w rt sv sw e. refuses_token test old v t w s sv rt e;
  begins = record { tree = some; more = some ∷ []; right = m; spelled = refl };
}

pub token_some : {T : Type 0} (test : T → Bool) (some : T) → test some ≡ true → Begins (token test) []
token_some test some m = record { tree = some; more = some ∷ []; right = m; spelled = refl }

-- ---- a tree behind another

pub both_one : {T X Y : Type 0} (f : Form T X) (g : Form T Y) (n : ℕ) → Follows f g → IsUnambiguousBelow n f → IsUnambiguousBelow n g → IsUnambiguousBelow n (both f g)
both_one f g n follows one two x y v w small rx ry sv sw e =
    let rx2 = and_parts (f.is_well_formed x.0) (g.is_well_formed x.1) rx in
    let ry2 = and_parts (f.is_well_formed y.0) (g.is_well_formed y.1) ry in
    let found = one x.0 y.0 (g.tokens x.1 ++ v) (g.tokens y.1 ++ w) (part_small (f.tokens x.0) (g.tokens x.1) n small) rx2.0 ry2.0
    (follows x.0 x.1 v rx2.1 sv) (follows y.0 y.1 w ry2.1 sw) (moved (f.tokens x.0) (g.tokens x.1) v (f.tokens y.0) (g.tokens y.1) w e) in
    let rest = two x.1 y.1 v w (rest_small (f.tokens x.0) (g.tokens x.1) n small) rx2.1 ry2.1 sv sw found.1 in
    (pair_is x y found.0 rest.0, rest.1)

pub both_first_refused : {T X Y : Type 0} (f : Form T X) (g : Form T Y) (old new : List T) → Follows f g → Begins g [] → FailsAt f old new → FailsAt (both f g) old new
both_first_refused f g old new follows some r = record {
  before = r.before;
  spelled = r.spelled;
  refuses = λ x v w rx sv sw e.
      let rx2 = and_parts (f.is_well_formed x.0) (g.is_well_formed x.1) rx in
      r.refuses x.0 v (g.tokens x.1 ++ w) rx2.0 sv (follows x.0 x.1 w rx2.1 sw) (sym (append_assoc (f.tokens x.0) (g.tokens x.1) w) ∙ e);
  begins = record {
    tree = (r.begins.tree, some.tree);
    more = r.begins.more ++ g.tokens some.tree;
    right = and_from (f.is_well_formed r.begins.tree) _ r.begins.right some.right;
    spelled = ap (λ ts. ts ++ g.tokens some.tree) r.begins.spelled ∙ append_assoc r.before r.begins.more (g.tokens some.tree);
  };
}

pub both_second_refused : {T X Y : Type 0} (f : Form T X) (g : Form T Y) (x : X) (old mid new : List T) → Follows f g → IsUnambiguous f → Parsed f x (f.continues x) old mid → FailsAt g mid new → FailsAt (both f g) old new
both_second_refused f g x old mid new follows one t r = record {
  before = f.tokens x ++ r.before;
  spelled = t.spelled ∙ ap (λ ts. f.tokens x ++ ts) r.spelled ∙ sym (append_assoc (f.tokens x) r.before new);
  refuses = λ y v w ry sv sw e.
      let ry2 = and_parts (f.is_well_formed y.0) (g.is_well_formed y.1) ry in
      let stops : Stops (f.continues x) (r.before ++ v) = stops_behind (f.continues x) r.before new v sv (subst (λ ts. Stops (f.continues x) ts) r.spelled t.stops) in
      let found = one y.0 x (g.tokens y.1 ++ w) (r.before ++ v) ry2.0 t.right (follows y.0 y.1 w ry2.1 sw) stops
      (moved (f.tokens y.0) (g.tokens y.1) w (f.tokens x) r.before v e) in
      r.refuses y.1 v w ry2.1 sv sw found.1;
  begins = record {
    tree = (x, r.begins.tree);
    more = r.begins.more;
    right = and_from (f.is_well_formed x) _ t.right r.begins.right;
    spelled = ap (λ ts. f.tokens x ++ ts) r.begins.spelled ∙ sym (append_assoc (f.tokens x) r.before r.begins.more);
  };
}

pub both_taken : {T X Y : Type 0} (f : Form T X) (g : Form T Y) (x : X) (y : Y) (ends : T → Bool) (old mid new : List T) → Parsed f x (f.continues x) old mid → Parsed g y ends mid new → Parsed (both f g) (x, y) ends old new
both_taken f g x y ends old mid new t u = record {
  spelled = t.spelled ∙ ap (λ ts. f.tokens x ++ ts) u.spelled ∙ sym (append_assoc (f.tokens x) (g.tokens y) new);
  right = and_from (f.is_well_formed x) _ t.right u.right;
  stops = u.stops;
}

pub both_begun : {T X Y : Type 0} (test : T → Bool) (f : Form T X) (g : Form T Y) → StartsWithin test f → StartsWithin test (both f g)
both_begun test f g begun x r = begins_left test (f.tokens x.0) (g.tokens x.1) (begun x.0 ((and_parts (f.is_well_formed x.0) (g.is_well_formed x.1) r).0))

pub both_goes : {T X Y : Type 0} (on : T → Bool) (f : Form T X) (g : Form T Y) → ContinuesWith on g → ContinuesWith on (both f g)
both_goes on f g goes x t h = goes x.1 t h

pub both_apart : {T X Y : Type 0} (test : T → Bool) (f : Form T X) (g : Form T Y) → NeverContinuesWith test g → NeverContinuesWith test (both f g)
both_apart test f g apart x t m = apart x.1 t m

-- some well-formed tree of two
pub both_some : {T X Y : Type 0} (f : Form T X) (g : Form T Y) → Begins f [] → Begins g [] → Begins (both f g) []
both_some f g a b = record { tree = (a.tree, b.tree); more = f.tokens a.tree ++ g.tokens b.tree; right = and_from (f.is_well_formed a.tree) (g.is_well_formed b.tree) a.right b.right; spelled = refl }

-- a tree that continues with nothing, or with nothing that the second begins with
pub ended_follows : {T X Y : Type 0} (f : Form T X) (g : Form T Y) → ((x : X) (t : T) → f.continues x t ≡ false) → Follows f g
ended_follows f g ends x y w r s = stops_never (f.continues x) (g.tokens y ++ w) (ends x)

pub begun_follows : {T X Y : Type 0} (test : T → Bool) (f : Form T X) (g : Form T Y) → StartsWithin test g → NeverContinuesWith test f → Follows f g
begun_follows test f g begun apart x y w r s = apart_stops test (f.continues x) (g.tokens y ++ w) (apart x) (begins_left test (g.tokens y) w (begun y r))

pub after_token : {T Y : Type 0} (test : T → Bool) (g : Form T Y) → Follows (token test) g
after_token test g x y w r s = stops_nothing (g.tokens y ++ w)

-- a token, and a smaller tree behind it
pub headed_one : {T X : Type 0} (test : T → Bool) (g : Form T X) (n : ℕ) → IsUnambiguousBelow n g → IsUnambiguousBelow (suc n) (both (token test) g)
headed_one test g n one x y v w small rx ry sv sw e =
    let rx2 = and_parts (test x.0) (g.is_well_formed x.1) rx in
    let ry2 = and_parts (test y.0) (g.is_well_formed y.1) ry in
    let rest = one x.1 y.1 v w (omega arith) rx2.1 ry2.1 sv sw (tail_of x.0 y.0 (g.tokens x.1 ++ v) (g.tokens y.1 ++ w) e) in
    (pair_is x y (head_of x.0 y.0 _ _ e) rest.0, rest.1)

-- What a sequence owes at each of its joints.
pub record Joins {T : Type 0} {X : Type 0} {Y : Type 0} (f : Form T X) (g : Form T Y) : Type 0 where
  pub follows : Follows f g
  pub one : IsUnambiguous f
  pub some : Begins g []

pub token_joins : {T Y : Type 0} (test : T → Bool) (g : Form T Y) → Begins g [] → Joins (token test) g
token_joins test g some = record { follows = after_token test g; one = token_is_one test; some = some }

-- the first part is refused
pub first : {T X Y : Type 0} {f : Form T X} {g : Form T Y} {old new : List T} → Joins f g → FailsAt f old new → FailsAt (both f g) old new
first {T} {X} {Y} {f} {g} {old} {new} j r = both_first_refused f g old new j.follows j.some r

-- behind the first part what follows is refused
pub behind : {T X Y : Type 0} {f : Form T X} {g : Form T Y} {x : X} {old mid new : List T} → Joins f g → Parsed f x (f.continues x) old mid → FailsAt g mid new → FailsAt (both f g) old new
behind {T} {X} {Y} {f} {g} {x} {old} {mid} {new} j t r = both_second_refused f g x old mid new j.follows j.one t r

-- the same behind one token
pub behind_token : {T Y : Type 0} {g : Form T Y} {old new : List T} (test : T → Bool) (t : T) → test t ≡ true → FailsAt g old new → FailsAt (both (token test) g) (t ∷ old) new
behind_token {T} {Y} {g} {old} {new} test t m r = both_second_refused (token test) g t (t ∷ old) old new (after_token test g) (token_is_one test) (took test t old m) r

-- both parts are taken
pub taken_both : {T X Y : Type 0} {f : Form T X} {g : Form T Y} {x : X} {y : Y} {ends : T → Bool} {old mid new : List T} → Parsed f x (f.continues x) old mid → Parsed g y ends mid new → Parsed (both f g) (x, y) ends old new
taken_both {T} {X} {Y} {f} {g} {x} {y} {ends} {old} {mid} {new} t u = both_taken f g x y ends old mid new t u

pub taken_token : {T Y : Type 0} {g : Form T Y} {y : Y} {ends : T → Bool} {old new : List T} (test : T → Bool) (t : T) → test t ≡ true → Parsed g y ends old new → Parsed (both (token test) g) (t, y) ends (t ∷ old) new
taken_token {T} {Y} {g} {y} {ends} {old} {new} test t m u = both_taken (token test) g t y ends (t ∷ old) old new (took test t old m) u

-- ---- a tree behind another, on which its form depends

pub both_on_one : {T X Y : Type 0} (f : Form T X) (g : X → Form T Y) (n : ℕ) → FollowsOn f g → IsUnambiguousBelow n f → ((x : X) → IsUnambiguousBelow n (g x)) → IsUnambiguousBelow n (both_on f g)
both_on_one f g n follows one two x y v w small rx ry sv sw e =
    let rx2 = and_parts (f.is_well_formed x.0) ((g x.0).is_well_formed x.1) rx in
    let ry2 = and_parts (f.is_well_formed y.0) ((g y.0).is_well_formed y.1) ry in
    let found = one x.0 y.0 ((g x.0).tokens x.1 ++ v) ((g y.0).tokens y.1 ++ w) (part_small (f.tokens x.0) ((g x.0).tokens x.1) n small) rx2.0 ry2.0
    (follows x.0 x.1 v rx2.1 sv) (follows y.0 y.1 w ry2.1 sw) (moved (f.tokens x.0) ((g x.0).tokens x.1) v (f.tokens y.0) ((g y.0).tokens y.1) w e) in
    let back = sym found.0 in
    let rest = two x.0 x.1 y.1 v w (rest_small (f.tokens x.0) ((g x.0).tokens x.1) n small) rx2.1 (subst (λ z. (g z).is_well_formed y.1 ≡ true) back ry2.1) sv (subst (λ z. Stops ((g z).continues y.1) w) back sw)
    (found.1 ∙ ap (λ z. (g z).tokens y.1 ++ w) back) in
    (pair_is x y found.0 rest.0, rest.1)

pub both_on_refused : {T X Y : Type 0} (f : Form T X) (g : X → Form T Y) (x : X) (old mid new : List T) → FollowsOn f g → IsUnambiguous f → Parsed f x (f.continues x) old mid → FailsAt (g x) mid new → FailsAt (both_on f g) old new
both_on_refused f g x old mid new follows one t r = record {
  before = f.tokens x ++ r.before;
  spelled = t.spelled ∙ ap (λ ts. f.tokens x ++ ts) r.spelled ∙ sym (append_assoc (f.tokens x) r.before new);
  refuses = λ y v w ry sv sw e.
      let ry2 = and_parts (f.is_well_formed y.0) ((g y.0).is_well_formed y.1) ry in
      let stops : Stops (f.continues x) (r.before ++ v) = stops_behind (f.continues x) r.before new v sv (subst (λ ts. Stops (f.continues x) ts) r.spelled t.stops) in
      let found = one y.0 x ((g y.0).tokens y.1 ++ w) (r.before ++ v) ry2.0 t.right (follows y.0 y.1 w ry2.1 sw) stops (moved (f.tokens y.0) ((g y.0).tokens y.1) w (f.tokens x) r.before v e) in
      r.refuses y.1 v w (subst (λ z. (g z).is_well_formed y.1 ≡ true) found.0 ry2.1) sv (subst (λ z. Stops ((g z).continues y.1) w) found.0 sw) (ap (λ z. (g z).tokens y.1 ++ w) (sym found.0) ∙ found.1);
  begins = record {
    tree = (x, r.begins.tree);
    more = r.begins.more;
    right = and_from (f.is_well_formed x) _ t.right r.begins.right;
    spelled = ap (λ ts. f.tokens x ++ ts) r.begins.spelled ∙ sym (append_assoc (f.tokens x) r.before r.begins.more);
  };
}

-- Nothing may stand behind this tree: it has to go on itself.
pub both_on_never : {T X Y : Type 0} (f : Form T X) (g : X → Form T Y) (x : X) (old mid : List T) → FollowsOn f g → IsUnambiguous f → Parsed f x (f.continues x) old mid → ((y : Y) → (g x).is_well_formed y ≡ false) → Begins (both_on f g) (f.tokens x) → FailsAt (both_on f g) old mid
both_on_never f g x old mid follows one t never b = record {
  before = f.tokens x;
  spelled = t.spelled;
  refuses = λ y v w ry sv sw e.
      let ry2 = and_parts (f.is_well_formed y.0) ((g y.0).is_well_formed y.1) ry in
      let found = one y.0 x ((g y.0).tokens y.1 ++ w) v ry2.0 t.right (follows y.0 y.1 w ry2.1 sw) (stops_as (f.continues x) mid v sv t.stops) (sym (append_assoc (f.tokens y.0) ((g y.0).tokens y.1) w) ∙ e) in
      false≢true (sym (never y.1) ∙ subst (λ z. (g z).is_well_formed y.1 ≡ true) found.0 ry2.1);
  begins = b;
}

pub both_on_begun : {T X Y : Type 0} (test : T → Bool) (f : Form T X) (g : X → Form T Y) → StartsWithin test f → StartsWithin test (both_on f g)
both_on_begun test f g begun x r = begins_left test (f.tokens x.0) ((g x.0).tokens x.1) (begun x.0 ((and_parts (f.is_well_formed x.0) ((g x.0).is_well_formed x.1) r).0))

pub both_on_goes : {T X Y : Type 0} (on : T → Bool) (f : Form T X) (g : X → Form T Y) → ((x : X) → ContinuesWith on (g x)) → ContinuesWith on (both_on f g)
both_on_goes on f g goes x t h = goes x.0 x.1 t h

pub both_on_first_refused : {T X Y : Type 0} (f : Form T X) (g : X → Form T Y) (old new : List T) → FollowsOn f g → ((x : X) → f.is_well_formed x ≡ true → Begins (both_on f g) (f.tokens x)) → FailsAt f old new → FailsAt (both_on f g) old new
both_on_first_refused f g old new follows some r =
    let b = some r.begins.tree r.begins.right in
    record {
      before = r.before;
      spelled = r.spelled;
      refuses = λ x v w rx sv sw e.
          let rx2 = and_parts (f.is_well_formed x.0) ((g x.0).is_well_formed x.1) rx in
          r.refuses x.0 v ((g x.0).tokens x.1 ++ w) rx2.0 sv (follows x.0 x.1 w rx2.1 sw) (sym (append_assoc (f.tokens x.0) ((g x.0).tokens x.1) w) ∙ e);
      begins = record { tree = b.tree; more = r.begins.more ++ b.more; right = b.right; spelled = b.spelled ∙ ap (λ ts. ts ++ b.more) r.begins.spelled ∙ append_assoc r.before r.begins.more b.more };
    }

pub both_on_taken : {T X Y : Type 0} (f : Form T X) (g : X → Form T Y) (x : X) (y : Y) (ends : T → Bool) (old mid new : List T) → Parsed f x (f.continues x) old mid → Parsed (g x) y ends mid new → Parsed (both_on f g) (x, y) ends old new
both_on_taken f g x y ends old mid new t u = record {
  spelled = t.spelled ∙ ap (λ ts. f.tokens x ++ ts) u.spelled ∙ sym (append_assoc (f.tokens x) ((g x).tokens y) new);
  right = and_from (f.is_well_formed x) _ t.right u.right;
  stops = u.stops;
}

-- what stands behind the first tree is no tree behind it: the first has to go on, or something else stands there
pub both_on_stuck : {T X Y : Type 0} (f : Form T X) (g : X → Form T Y) (x : X) (old mid : List T) → FollowsOn f g → IsUnambiguous f → Parsed f x (f.continues x) old mid → Refuses (g x) [] mid → Begins (both_on f g) (f.tokens x) → FailsAt (both_on f g) old mid
both_on_stuck f g x old mid follows one t refuses b = record {
  before = f.tokens x;
  spelled = t.spelled;
  refuses = λ y v w ry sv sw e.
      let ry2 = and_parts (f.is_well_formed y.0) ((g y.0).is_well_formed y.1) ry in
      let found = one y.0 x ((g y.0).tokens y.1 ++ w) v ry2.0 t.right (follows y.0 y.1 w ry2.1 sw) (stops_as (f.continues x) mid v sv t.stops) (sym (append_assoc (f.tokens y.0) ((g y.0).tokens y.1) w) ∙ e) in
      refuses y.1 v w (subst (λ z. (g z).is_well_formed y.1 ≡ true) found.0 ry2.1) sv (subst (λ z. Stops ((g z).continues y.1) w) found.0 sw) (ap (λ z. (g z).tokens y.1 ++ w) (sym found.0) ∙ found.1);
  begins = b;
}

-- a token in front of a fault that stands behind it can be left out
peeled_at : {T Y : Type 0} (test : T → Bool) (g : Form T Y) (t : T) (old new : List T) → Begins g [] → test t ≡ true → (before : List T) → t ∷ old ≡ before ++ new → Refuses (both (token test) g) before new → Begins (both (token test) g) before → FailsAt g old new
peeled_at test g t old new some m [] e refuses b = absurd (refuses (t, some.tree) (t ∷ g.tokens some.tree) [] (and_from (test t) (g.is_well_formed some.tree) m some.right) (subst (λ ts. StartsAs ts (t ∷ g.tokens some.tree)) e (g.tokens some.tree, refl)) tt (append-nil (t ∷ g.tokens some.tree)))
peeled_at test g t old new some m (u ∷ before) e refuses b =
    let same : t ≡ u = head_of t u old (before ++ new) e in
    record {
      before = before;
      spelled = tail_of t u old (before ++ new) e;
      refuses = λ y v w ry sv sw k. refuses (t, y) v w (and_from (test t) (g.is_well_formed y) m ry) sv sw (ap (λ ts. t ∷ ts) k ∙ ap (λ z. z ∷ (before ++ v)) same);
      begins = record { tree = b.tree.1; more = b.more; right = (and_parts (test b.tree.0) (g.is_well_formed b.tree.1) b.right).1; spelled = tail_of b.tree.0 u (g.tokens b.tree.1) (before ++ b.more) b.spelled };
    }

pub token_peeled : {T Y : Type 0} {g : Form T Y} {old new : List T} (test : T → Bool) (t : T) → Begins g [] → test t ≡ true → FailsAt (both (token test) g) (t ∷ old) new → FailsAt g old new
token_peeled {T} {Y} {g} {old} {new} test t some m r = peeled_at test g t old new some m r.before r.spelled r.refuses r.begins

-- ---- one tree, of any length

pub joined_one : {T X Y : Type 0} {f : Form T X} {g : Form T Y} → Joins f g → IsUnambiguous g → IsUnambiguous (both f g)
joined_one {T} {X} {Y} {f} {g} j one = one_of_any (both f g) (λ n. both_one f g n j.follows (one_to f j.one n) (one_to g one n))

pub behind_token_one : {T Y : Type 0} (test : T → Bool) (g : Form T Y) → IsUnambiguous g → IsUnambiguous (both (token test) g)
behind_token_one test g one = one_of_any (both (token test) g) (λ n. both_one (token test) g n (after_token test g) (token_one test n) (one_to g one n))

-- Trees in a row, and a tree with a row behind it.
use Rattle.std.proofs.Common.{◌≡◌, ℕ, ◌<◌, Bool, true, false, ◌||◌, List, [], ◌∷◌, ◌++◌, length, refl, sym, ◌∙◌, ap, subst}
use Rattle.std.proofs.lemmas.List.{append_assoc, append-nil}
use Rattle.std.proofs.lemmas.Bool.{and_parts, and_from, false≢true}
use Rattle.grammar.specs.Forms.{Form, nothing, begins_by, both, in_row, all_well_formed, last_on, row_on, many, trail, chain}
use Rattle.grammar.specs.Faults.{Stops, StartsAs, Parsed, Refuses, Begins, FailsAt, IsUnambiguousBelow, IsUnambiguous, StartsWithin, AreDisjoint, IsSubset, NeverContinuesWith, ContinuesWith, IsBare}
use Rattle.grammar.proofs.Basics.{stops_left, stops_right, stops_or, stops_nothing, pair_is, cons_is, part_small, rest_small, moved, begins_left, begins_stops, begins_at, begins_as, apart_stops, one_of_any, one_to, one_holds}
use Rattle.grammar.proofs.Sequences.{Joins, behind, taken_both, both_begun, both_one, ended_follows}

-- ---- a row

-- what a row does not continue with does not follow what stands before it
pub row_stops : {T X : Type 0} (test on : T → Bool) (f : Form T X) (xs : List X) (w : List T) → StartsWithin test f → AreDisjoint test on → all_well_formed f xs ≡ true → Stops (row_on test f on xs) w → Stops on (in_row f xs ++ w)
row_stops test on f [] w begun apart r s = stops_left on test w s
row_stops test on f (y ∷ ys) w begun apart r s =
    let h = begins_left test (f.tokens y) (in_row f ys) (begun y ((and_parts (f.is_well_formed y) (all_well_formed f ys) r).0)) in
    apart_stops test on (f.tokens y ++ in_row f ys ++ w) apart (begins_left test (f.tokens y ++ in_row f ys) w h)

-- the same where a token of the test stands behind the row
pub row_stops_at : {T X : Type 0} (test on : T → Bool) (f : Form T X) (xs : List X) (w : List T) → StartsWithin test f → AreDisjoint test on → all_well_formed f xs ≡ true → begins_by test w ≡ true → Stops on (in_row f xs ++ w)
row_stops_at test on f [] w begun apart r h = apart_stops test on w apart h
row_stops_at test on f (y ∷ ys) w begun apart r h =
    let k = begins_left test (f.tokens y) (in_row f ys) (begun y ((and_parts (f.is_well_formed y) (all_well_formed f ys) r).0)) in
    apart_stops test on (f.tokens y ++ in_row f ys ++ w) apart (begins_left test (f.tokens y ++ in_row f ys) w k)

row_clash : {T X : Type 0} (test on : T → Bool) (f : Form T X) (y : X) (rest v : List T) → StartsWithin test f → f.is_well_formed y ≡ true → Stops (λ t. on t || test t) v → v ≡ f.tokens y ++ rest → ⊥
row_clash test on f y rest v begun r s e = begins_stops test v (begins_at test (f.tokens y ++ rest) v (sym e) (begins_left test (f.tokens y) rest (begun y r))) (stops_right on test v s)

pub row_one : {T X : Type 0} (test : T → Bool) (f : Form T X) (n : ℕ) → StartsWithin test f → NeverContinuesWith test f → IsUnambiguousBelow n f → (on off : T → Bool) (xs ys : List X) (v w : List T) → length (in_row f xs) < n → all_well_formed f xs ≡ true → all_well_formed f ys ≡ true → Stops (row_on test f on xs) v → Stops (row_on test f off ys) w → in_row f xs ++ v ≡ in_row f ys ++ w → (xs ≡ ys) × (v ≡ w)
row_one test f n begun apart one on off [] [] v w small rx ry sv sw e = (refl, e)
row_one test f n begun apart one on off [] (y ∷ ys) v w small rx ry sv sw e = absurd (row_clash test on f y (in_row f ys ++ w) v begun ((and_parts (f.is_well_formed y) (all_well_formed f ys) ry).0) sv (e ∙ append_assoc (f.tokens y) (in_row f ys) w))
row_one test f n begun apart one on off (x ∷ xs) [] v w small rx ry sv sw e = absurd (row_clash test off f x (in_row f xs ++ v) w begun ((and_parts (f.is_well_formed x) (all_well_formed f xs) rx).0) sw (sym e ∙ append_assoc (f.tokens x) (in_row f xs) v))
row_one test f n begun apart one on off (x ∷ xs) (y ∷ ys) v w small rx ry sv sw e =
    let rx2 = and_parts (f.is_well_formed x) (all_well_formed f xs) rx in
    let ry2 = and_parts (f.is_well_formed y) (all_well_formed f ys) ry in
    let found = one x y (in_row f xs ++ v) (in_row f ys ++ w) (part_small (f.tokens x) (in_row f xs) n small) rx2.0 ry2.0
    (row_stops test (f.continues x) f xs v begun (apart x) rx2.1 sv) (row_stops test (f.continues y) f ys w begun (apart y) ry2.1 sw)
    (moved (f.tokens x) (in_row f xs) v (f.tokens y) (in_row f ys) w e) in
    let rest = row_one test f n begun apart one (f.continues x) (f.continues y) xs ys v w (rest_small (f.tokens x) (in_row f xs) n small) rx2.1 ry2.1 sv sw found.1 in
    (cons_is x y xs ys found.0 rest.0, rest.1)

pub many_one : {T X : Type 0} (test : T → Bool) (f : Form T X) (n : ℕ) → StartsWithin test f → NeverContinuesWith test f → IsUnambiguousBelow n f → IsUnambiguousBelow n (many test f)
many_one test f n begun apart one = row_one test f n begun apart one nothing nothing

pub row_push : {T X : Type 0} (f : Form T X) (xs : List X) (x : X) → in_row f (xs ++ (x ∷ [])) ≡ in_row f xs ++ f.tokens x
row_push f [] x = append-nil (f.tokens x)
row_push f (y ∷ ys) x = ap (λ ts. f.tokens y ++ ts) (row_push f ys x) ∙ sym (append_assoc (f.tokens y) (in_row f ys) (f.tokens x))

pub right_push : {T X : Type 0} (f : Form T X) (xs : List X) (x : X) → all_well_formed f xs ≡ true → f.is_well_formed x ≡ true → all_well_formed f (xs ++ (x ∷ [])) ≡ true
right_push f [] x r h = and_from (f.is_well_formed x) true h refl
right_push f (y ∷ ys) x r h = let r2 = and_parts (f.is_well_formed y) (all_well_formed f ys) r in and_from (f.is_well_formed y) _ r2.0 (right_push f ys x r2.1 h)

pub last_push : {T X : Type 0} (f : Form T X) (on : T → Bool) (xs : List X) (x : X) → last_on f on (xs ++ (x ∷ [])) ≡ f.continues x
last_push f on [] x = refl
last_push f on (y ∷ ys) x = last_push f (f.continues y) ys x

-- where all continue with the same, so does the last
pub last_same : {T X : Type 0} (f : Form T X) (on : T → Bool) (xs : List X) → ((x : X) → f.continues x ≡ on) → last_on f on xs ≡ on
last_same f on [] same = refl
last_same f on (x ∷ xs) same = subst (λ z. last_on f z xs ≡ on) (sym (same x)) (last_same f on xs same)

pub last_goes : {T X : Type 0} (more on : T → Bool) (f : Form T X) (xs : List X) → IsSubset on more → ContinuesWith more f → IsSubset (last_on f on xs) more
last_goes more on f [] within goes t h = within t h
last_goes more on f (x ∷ xs) within goes t h = last_goes more (f.continues x) f xs (goes x) goes t h

or_goes : {T : Type 0} (a b more : T → Bool) (t : T) → IsSubset a more → IsSubset b more → (a t || b t) ≡ true → more t ≡ true
or_goes a b more t wa wb h = one_holds (a t) (b t) (more t) (wa t) (wb t) h

pub row_goes : {T X : Type 0} (more test on : T → Bool) (f : Form T X) (xs : List X) → IsSubset test more → IsSubset on more → ContinuesWith more f → IsSubset (row_on test f on xs) more
row_goes more test on f xs tests within goes t h = or_goes (last_on f on xs) test more t (last_goes more on f xs within goes) tests h

pub row_refuses : {T X : Type 0} (test : T → Bool) (f : Form T X) → StartsWithin test f → NeverContinuesWith test f → IsUnambiguous f → (b new : List T) → Refuses f b new → (off : T → Bool) (xs ys : List X) (v w : List T) → begins_by test (b ++ v) ≡ true → all_well_formed f xs ≡ true → all_well_formed f ys ≡ true → StartsAs new v → Stops (row_on test f off ys) w → in_row f ys ++ w ≡ in_row f xs ++ (b ++ v) → ⊥
row_refuses test f begun apart one b new refuses off [] [] v w h rx ry sv sw e = begins_stops test w (begins_at test (b ++ v) w (sym e) h) (stops_right off test w sw)
row_refuses test f begun apart one b new refuses off [] (y ∷ ys) v w h rx ry sv sw e =
    let ry2 = and_parts (f.is_well_formed y) (all_well_formed f ys) ry in
    refuses y v (in_row f ys ++ w) ry2.0 sv (row_stops test (f.continues y) f ys w begun (apart y) ry2.1 sw) (sym (append_assoc (f.tokens y) (in_row f ys) w) ∙ e)
row_refuses test f begun apart one b new refuses off (x ∷ xs) [] v w h rx ry sv sw e = row_clash test off f x (in_row f xs ++ (b ++ v)) w begun ((and_parts (f.is_well_formed x) (all_well_formed f xs) rx).0) sw (e ∙ append_assoc (f.tokens x) (in_row f xs) (b ++ v))
row_refuses test f begun apart one b new refuses off (x ∷ xs) (y ∷ ys) v w h rx ry sv sw e =
    let rx2 = and_parts (f.is_well_formed x) (all_well_formed f xs) rx in
    let ry2 = and_parts (f.is_well_formed y) (all_well_formed f ys) ry in
    let found = one y x (in_row f ys ++ w) (in_row f xs ++ (b ++ v)) ry2.0 rx2.0 (row_stops test (f.continues y) f ys w begun (apart y) ry2.1 sw) (row_stops_at test (f.continues x) f xs (b ++ v) begun (apart x) rx2.1 h)
    (moved (f.tokens y) (in_row f ys) w (f.tokens x) (in_row f xs) (b ++ v) e) in
    row_refuses test f begun apart one b new refuses (f.continues y) xs ys v w h rx2.1 ry2.1 sv sw found.1

-- What a row owes for its laws.
pub record Rows {T : Type 0} {X : Type 0} (test : T → Bool) (f : Form T X) : Type 0 where
  pub begun : StartsWithin test f
  pub apart : NeverContinuesWith test f
  pub one : IsUnambiguous f

pub rows_one : {T X : Type 0} {test : T → Bool} {f : Form T X} → Rows test f → IsUnambiguous (many test f)
rows_one {T} {X} {test} {f} rows = one_of_any (many test f) (λ n. many_one test f n rows.begun rows.apart (one_to f rows.one n))

-- the trees of a row so far
abbrev pub RowTaken : {T X : Type 0} → (T → Bool) → Form T X → List X → List T → List T → Type 0
RowTaken test f xs old new = Parsed (many test f) xs (last_on f nothing xs) old new

pub row_none : {T X : Type 0} (test : T → Bool) (f : Form T X) (old : List T) → RowTaken test f [] old old
row_none test f old = record { spelled = refl; right = refl; stops = stops_nothing old }

pub row_pushed : {T X : Type 0} (test : T → Bool) (f : Form T X) (xs : List X) {x : X} {old mid new : List T} → RowTaken test f xs old mid → Parsed f x (f.continues x) mid new → RowTaken test f (xs ++ (x ∷ [])) old new
row_pushed test f xs {x} {old} {mid} {new} t u = record {
  spelled = t.spelled ∙ ap (λ ts. in_row f xs ++ ts) u.spelled ∙ sym (append_assoc (in_row f xs) (f.tokens x) new) ∙ ap (λ ts. ts ++ new) (sym (row_push f xs x));
  right = right_push f xs x t.right u.right;
  stops = subst (λ on. Stops on new) (sym (last_push f nothing xs x)) u.stops;
}

pub row_done : {T X : Type 0} (test : T → Bool) (f : Form T X) (xs : List X) {old new : List T} → RowTaken test f xs old new → Stops test new → Parsed (many test f) xs (row_on test f nothing xs) old new
row_done test f xs {old} {new} t s = record { spelled = t.spelled; right = t.right; stops = stops_or (last_on f nothing xs) test new t.stops s }

pub row_later : {T X : Type 0} {test : T → Bool} {f : Form T X} (xs : List X) {old mid new : List T} → Rows test f → RowTaken test f xs old mid → begins_by test mid ≡ true → FailsAt f mid new → FailsAt (many test f) old new
row_later {T} {X} {test} {f} xs {old} {mid} {new} rows t h r = record {
  before = in_row f xs ++ r.before;
  spelled = t.spelled ∙ ap (λ ts. in_row f xs ++ ts) r.spelled ∙ sym (append_assoc (in_row f xs) r.before new);
  refuses = λ ys v w ry sv sw e.
      row_refuses test f rows.begun rows.apart rows.one r.before new r.refuses nothing xs ys v w (begins_as test r.before new v sv (begins_at test mid (r.before ++ new) r.spelled h)) t.right ry sv sw (e ∙ append_assoc (in_row f xs) r.before v);
  begins = record {
    tree = xs ++ (r.begins.tree ∷ []);
    more = r.begins.more;
    right = right_push f xs r.begins.tree t.right r.begins.right;
    spelled = row_push f xs r.begins.tree ∙ ap (λ ts. in_row f xs ++ ts) r.begins.spelled ∙ sym (append_assoc (in_row f xs) r.before r.begins.more);
  };
}

pub many_goes : {T X : Type 0} (more test : T → Bool) (f : Form T X) → IsSubset test more → ContinuesWith more f → ContinuesWith more (many test f)
many_goes more test f tests goes xs t h = row_goes more test nothing f xs tests (λ u k. absurd (false≢true k)) goes t h

pub many_some : {T X : Type 0} (test : T → Bool) (f : Form T X) → Begins (many test f) []
many_some test f = record { tree = []; more = []; right = refl; spelled = refl }

-- ---- a tree with a row behind it

pub trail_one : {T X Y : Type 0} (test : T → Bool) (f : Form T X) (g : Form T Y) (n : ℕ) → StartsWithin test g → NeverContinuesWith test f → NeverContinuesWith test g → IsUnambiguousBelow n f → IsUnambiguousBelow n g → IsUnambiguousBelow n (trail test f g)
trail_one test f g n begun front apart one two x y v w small rx ry sv sw e =
    let rx2 = and_parts (f.is_well_formed x.0) (all_well_formed g x.1) rx in
    let ry2 = and_parts (f.is_well_formed y.0) (all_well_formed g y.1) ry in
    let found = one x.0 y.0 (in_row g x.1 ++ v) (in_row g y.1 ++ w) (part_small (f.tokens x.0) (in_row g x.1) n small) rx2.0 ry2.0
    (row_stops test (f.continues x.0) g x.1 v begun (front x.0) rx2.1 sv) (row_stops test (f.continues y.0) g y.1 w begun (front y.0) ry2.1 sw)
    (moved (f.tokens x.0) (in_row g x.1) v (f.tokens y.0) (in_row g y.1) w e) in
    let rest = row_one test g n begun apart two (f.continues x.0) (f.continues y.0) x.1 y.1 v w (rest_small (f.tokens x.0) (in_row g x.1) n small) rx2.1 ry2.1 sv sw found.1 in
    (pair_is x y found.0 rest.0, rest.1)

pub trail_begun_by : {T X Y : Type 0} (begins test : T → Bool) (f : Form T X) (g : Form T Y) → StartsWithin begins f → StartsWithin begins (trail test f g)
trail_begun_by begins test f g begun x r = begins_left begins (f.tokens x.0) (in_row g x.1) (begun x.0 ((and_parts (f.is_well_formed x.0) (all_well_formed g x.1) r).0))

pub trail_goes : {T X Y : Type 0} (more test : T → Bool) (f : Form T X) (g : Form T Y) → IsSubset test more → ContinuesWith more f → ContinuesWith more g → ContinuesWith more (trail test f g)
trail_goes more test f g tests goes_f goes_g x t h = row_goes more test (f.continues x.0) g x.1 tests (goes_f x.0) goes_g t h

-- What a trail owes for its laws.
pub record Trails {T : Type 0} {X : Type 0} {Y : Type 0} (test : T → Bool) (f : Form T X) (g : Form T Y) : Type 0 where
  pub begun : StartsWithin test g
  pub front : NeverContinuesWith test f
  pub apart : NeverContinuesWith test g
  pub one : IsUnambiguous f
  pub each : IsUnambiguous g

pub trails_one : {T X Y : Type 0} {test : T → Bool} {f : Form T X} {g : Form T Y} → Trails test f g → IsUnambiguous (trail test f g)
trails_one {T} {X} {Y} {test} {f} {g} trails = one_of_any (trail test f g) (λ n. trail_one test f g n trails.begun trails.front trails.apart (one_to f trails.one n) (one_to g trails.each n))

-- a tree and the trees behind it so far
abbrev pub TrailTaken : {T X Y : Type 0} → (T → Bool) → Form T X → Form T Y → X × List Y → List T → List T → Type 0
TrailTaken test f g x old new = Parsed (trail test f g) x (last_on g (f.continues x.0) x.1) old new

pub trail_begun : {T X Y : Type 0} (test : T → Bool) (f : Form T X) (g : Form T Y) {x : X} {old new : List T} → Parsed f x (f.continues x) old new → TrailTaken test f g (x, []) old new
trail_begun test f g {x} {old} {new} t = record { spelled = t.spelled ∙ ap (λ ts. ts ++ new) (sym (append-nil (f.tokens x))); right = and_from (f.is_well_formed x) true t.right refl; stops = t.stops }

pub trail_pushed : {T X Y : Type 0} (test : T → Bool) (f : Form T X) (g : Form T Y) (x : X × List Y) {y : Y} {old mid new : List T} → TrailTaken test f g x old mid → Parsed g y (g.continues y) mid new → TrailTaken test f g (x.0, x.1 ++ (y ∷ [])) old new
trail_pushed test f g x {y} {old} {mid} {new} t u =
    let whole = f.tokens x.0 ++ in_row g x.1 in
    let r = and_parts (f.is_well_formed x.0) (all_well_formed g x.1) t.right in
    record {
      spelled = t.spelled ∙ ap (λ ts. whole ++ ts) u.spelled ∙ sym (append_assoc whole (g.tokens y) new) ∙ ap (λ ts. ts ++ new) (append_assoc (f.tokens x.0) (in_row g x.1) (g.tokens y) ∙ ap (λ ts. f.tokens x.0 ++ ts) (sym (row_push g x.1 y)));
      right = and_from (f.is_well_formed x.0) _ r.0 (right_push g x.1 y r.1 u.right);
      stops = subst (λ on. Stops on new) (sym (last_push g (f.continues x.0) x.1 y)) u.stops;
    }

pub trail_done : {T X Y : Type 0} (test : T → Bool) (f : Form T X) (g : Form T Y) (x : X × List Y) {old new : List T} → TrailTaken test f g x old new → Stops test new → Parsed (trail test f g) x (row_on test g (f.continues x.0) x.1) old new
trail_done test f g x {old} {new} t s = record { spelled = t.spelled; right = t.right; stops = stops_or (last_on g (f.continues x.0) x.1) test new t.stops s }

-- the first tree is refused
pub trail_first : {T X Y : Type 0} {test : T → Bool} {f : Form T X} {g : Form T Y} {old new : List T} → Trails test f g → FailsAt f old new → FailsAt (trail test f g) old new
trail_first {T} {X} {Y} {test} {f} {g} {old} {new} trails r = record {
  before = r.before;
  spelled = r.spelled;
  refuses = λ x v w rx sv sw e.
      let rx2 = and_parts (f.is_well_formed x.0) (all_well_formed g x.1) rx in
      r.refuses x.0 v (in_row g x.1 ++ w) rx2.0 sv (row_stops test (f.continues x.0) g x.1 w trails.begun (trails.front x.0) rx2.1 sw) (sym (append_assoc (f.tokens x.0) (in_row g x.1) w) ∙ e);
  begins = record {
    tree = (r.begins.tree, []);
    more = r.begins.more;
    right = and_from (f.is_well_formed r.begins.tree) true r.begins.right refl;
    spelled = append-nil (f.tokens r.begins.tree) ∙ r.begins.spelled;
  };
}

-- a later one was begun, and is refused
pub trail_later : {T X Y : Type 0} {test : T → Bool} {f : Form T X} {g : Form T Y} (x : X × List Y) {old mid new : List T} → Trails test f g → TrailTaken test f g x old mid → begins_by test mid ≡ true → FailsAt g mid new → FailsAt (trail test f g) old new
trail_later {T} {X} {Y} {test} {f} {g} x {old} {mid} {new} trails t h r =
    let whole = f.tokens x.0 ++ in_row g x.1 in
    let rx = and_parts (f.is_well_formed x.0) (all_well_formed g x.1) t.right in
    record {
      before = whole ++ r.before;
      spelled = t.spelled ∙ ap (λ ts. whole ++ ts) r.spelled ∙ sym (append_assoc whole r.before new);
      refuses = λ y v w ry sv sw e.
          let ry2 = and_parts (f.is_well_formed y.0) (all_well_formed g y.1) ry in
          let k = begins_as test r.before new v sv (begins_at test mid (r.before ++ new) r.spelled h) in
          let found = trails.one y.0 x.0 (in_row g y.1 ++ w) (in_row g x.1 ++ (r.before ++ v)) ry2.0 rx.0
          (row_stops test (f.continues y.0) g y.1 w trails.begun (trails.front y.0) ry2.1 sw)
          (row_stops_at test (f.continues x.0) g x.1 (r.before ++ v) trails.begun (trails.front x.0) rx.1 k)
          (moved (f.tokens y.0) (in_row g y.1) w (f.tokens x.0) (in_row g x.1) (r.before ++ v) (e ∙ append_assoc whole r.before v)) in
          row_refuses test g trails.begun trails.apart trails.each r.before new r.refuses (f.continues y.0) x.1 y.1 v w k rx.1 ry2.1 sv sw found.1;
      begins = record {
        tree = (x.0, x.1 ++ (r.begins.tree ∷ []));
        more = r.begins.more;
        right = and_from (f.is_well_formed x.0) _ rx.0 (right_push g x.1 r.begins.tree rx.1 r.begins.right);
        spelled = ap (λ ts. f.tokens x.0 ++ ts) (row_push g x.1 r.begins.tree) ∙ sym (append_assoc (f.tokens x.0) (in_row g x.1) (g.tokens r.begins.tree)) ∙ ap (λ ts. whole ++ ts) r.begins.spelled ∙ sym (append_assoc whole r.before r.begins.more);
      };
    }

-- ---- trees with a mark between

-- What a chain owes for its laws: a mark continues with nothing.
pub record Chains {T : Type 0} {M : Type 0} {X : Type 0} (test : T → Bool) (mark : Form T M) (f : Form T X) : Type 0 where
  pub begun : StartsWithin test mark
  pub ends : (m : M) (t : T) → mark.continues m t ≡ false
  pub apart : NeverContinuesWith test f
  pub marks : IsUnambiguous mark
  pub one : IsUnambiguous f
  pub some : Begins f []

pub mark_joins : {T M X : Type 0} {test : T → Bool} {mark : Form T M} {f : Form T X} → Chains test mark f → Joins mark f
mark_joins {T} {M} {X} {test} {mark} {f} chains = record { follows = ended_follows mark f chains.ends; one = chains.marks; some = chains.some }

pub chain_trails : {T M X : Type 0} {test : T → Bool} {mark : Form T M} {f : Form T X} → Chains test mark f → Trails test f (both mark f)
chain_trails {T} {M} {X} {test} {mark} {f} chains = record {
  begun = both_begun test mark f chains.begun;
  front = chains.apart;
  apart = λ p t m. chains.apart p.1 t m;
  one = chains.one;
  each = one_of_any (both mark f) (λ n. both_one mark f n (ended_follows mark f chains.ends) (one_to mark chains.marks n) (one_to f chains.one n));
}

pub chain_one : {T M X : Type 0} (test : T → Bool) (mark : Form T M) (f : Form T X) (n : ℕ) → StartsWithin test mark → ((m : M) (t : T) → mark.continues m t ≡ false) → NeverContinuesWith test f → IsUnambiguousBelow n mark → IsUnambiguousBelow n f → IsUnambiguousBelow n (chain test mark f)
chain_one test mark f n begun ends apart marks one = trail_one test f (both mark f) n (both_begun test mark f begun) apart (λ p t m. apart p.1 t m) one (both_one mark f n (ended_follows mark f ends) marks one)

pub chain_goes : {T M X : Type 0} (more test : T → Bool) (mark : Form T M) (f : Form T X) → IsSubset test more → ContinuesWith more f → ContinuesWith more (chain test mark f)
chain_goes more test mark f tests goes = trail_goes more test f (both mark f) tests goes (λ p t h. goes p.1 t h)

mark_begins : {T M : Type 0} (test : T → Bool) (mark : Form T M) (m : M) (ends : T → Bool) (mid late : List T) → StartsWithin test mark → Parsed mark m ends mid late → begins_by test mid ≡ true
mark_begins test mark m ends mid late begun u = begins_at test (mark.tokens m ++ late) mid (sym u.spelled) (begins_left test (mark.tokens m) late (begun m u.right))

-- behind a mark a tree is refused
pub chain_later : {T M X : Type 0} {test : T → Bool} {mark : Form T M} {f : Form T X} (x : X × List (M × X)) {m : M} {old mid late new : List T} → Chains test mark f → TrailTaken test f (both mark f) x old mid → Parsed mark m (mark.continues m) mid late → FailsAt f late new → FailsAt (chain test mark f) old new
chain_later {T} {M} {X} {test} {mark} {f} x {m} {old} {mid} {late} {new} chains t u r =
    trail_later x (chain_trails chains) t (mark_begins test mark m (mark.continues m) mid late chains.begun u) (behind (mark_joins chains) u r)

-- behind a mark a tree is taken
pub chain_pushed : {T M X : Type 0} {test : T → Bool} {mark : Form T M} {f : Form T X} (x : X × List (M × X)) {m : M} {y : X} {old mid late new : List T} → Chains test mark f → TrailTaken test f (both mark f) x old mid → Parsed mark m (mark.continues m) mid late → Parsed f y (f.continues y) late new → TrailTaken test f (both mark f) (x.0, x.1 ++ ((m, y) ∷ [])) old new
chain_pushed {T} {M} {X} {test} {mark} {f} x {m} {y} {old} {mid} {late} {new} chains t u w = trail_pushed test f (both mark f) x {y = (m, y)} t (taken_both u w)

-- a tree of one token has no row behind it
pub trail_bare : {T X Y : Type 0} (test : T → Bool) {f : Form T X} (g : Form T Y) {t : T} → IsBare f t → IsBare (trail test f g) t
trail_bare test {f} g {t} b = record { tree = (b.tree, []); right = and_from (f.is_well_formed b.tree) true b.right refl; spelled = append-nil (f.tokens b.tree) ∙ b.spelled }

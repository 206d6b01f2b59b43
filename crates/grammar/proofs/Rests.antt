-- Rows that a tree may stop.
use Rattle.std.proofs.Common.{◌≡◌, ℕ, ◌<◌, Bool, true, false, ◌&&◌, ◌||◌, not, List, [], ◌∷◌, ◌++◌, length, refl, sym, ◌∙◌, ap, subst}
use Rattle.std.proofs.lemmas.List.{append_assoc}
use Rattle.std.proofs.lemmas.Bool.{and_parts, and_from, false≢true}
use Rattle.grammar.specs.Forms.{Form, nothing, begins_by, in_row, last_on, still_going, until, until_well_formed, until_on}
use Rattle.grammar.specs.Faults.{Stops, StartsAs, Parsed, Refuses, Begins, FailsAt, IsUnambiguousBelow, IsUnambiguous, StartsWithin, AreDisjoint, IsSubset, NeverContinuesWith, ContinuesWith}
use Rattle.grammar.proofs.Basics.{and_no_left, stops_left, stops_right, stops_or, stops_nothing, stops_never, and_stops, cons_is, part_small, rest_small, moved, begins_left, begins_stops, begins_at, begins_as, apart_stops, one_of_any, one_to, one_holds}
use Rattle.grammar.proofs.Rows.{row_push, last_push, last_goes}

until_stops : {T X : Type 0} (test : T → Bool) (stop : X → Bool) (on : T → Bool) (f : Form T X) (going : Bool) (xs : List X) (w : List T) → StartsWithin test f → AreDisjoint test on → until_well_formed stop f going xs ≡ true → Stops (until_on test stop f on going xs) w → Stops on (in_row f xs ++ w)
until_stops test stop on f going [] w begun apart r s = stops_left on (λ t. going && test t) w s
until_stops test stop on f going (y ∷ ys) w begun apart r s =
    let r2 = and_parts going (f.is_well_formed y && until_well_formed stop f (not (stop y)) ys) r in
    let h = begins_left test (f.tokens y) (in_row f ys) (begun y ((and_parts (f.is_well_formed y) (until_well_formed stop f (not (stop y)) ys) r2.1).0)) in
    apart_stops test on (f.tokens y ++ in_row f ys ++ w) apart (begins_left test (f.tokens y ++ in_row f ys) w h)

until_stops_at : {T X : Type 0} (test : T → Bool) (stop : X → Bool) (on : T → Bool) (f : Form T X) (going : Bool) (xs : List X) (w : List T) → StartsWithin test f → AreDisjoint test on → until_well_formed stop f going xs ≡ true → begins_by test w ≡ true → Stops on (in_row f xs ++ w)
until_stops_at test stop on f going [] w begun apart r h = apart_stops test on w apart h
until_stops_at test stop on f going (y ∷ ys) w begun apart r h =
    let r2 = and_parts going (f.is_well_formed y && until_well_formed stop f (not (stop y)) ys) r in
    let k = begins_left test (f.tokens y) (in_row f ys) (begun y ((and_parts (f.is_well_formed y) (until_well_formed stop f (not (stop y)) ys) r2.1).0)) in
    apart_stops test on (f.tokens y ++ in_row f ys ++ w) apart (begins_left test (f.tokens y ++ in_row f ys) w k)

-- a row that goes on does not stop before a tree of its own
until_clash : {T X : Type 0} (test on : T → Bool) (f : Form T X) (going : Bool) (y : X) (rest v : List T) → StartsWithin test f → going ≡ true → f.is_well_formed y ≡ true → Stops (λ t. on t || (going && test t)) v → v ≡ f.tokens y ++ rest → ⊥
until_clash test on f false y rest v begun g r s e = false≢true g
until_clash test on f true y rest v begun g r s e = begins_stops test v (begins_at test (f.tokens y ++ rest) v (sym e) (begins_left test (f.tokens y) rest (begun y r))) (stops_right on test v s)

until_more : {T : Type 0} (test on : T → Bool) (going : Bool) (v : List T) → going ≡ true → begins_by test v ≡ true → Stops (λ t. on t || (going && test t)) v → ⊥
until_more test on false v g h s = false≢true g
until_more test on true v g h s = begins_stops test v h (stops_right on test v s)

until_row_one : {T X : Type 0} (test : T → Bool) (stop : X → Bool) (f : Form T X) (n : ℕ) → StartsWithin test f → NeverContinuesWith test f → IsUnambiguousBelow n f → (on : T → Bool) (going : Bool) (xs ys : List X) (v w : List T) → length (in_row f xs) < n → until_well_formed stop f going xs ≡ true → until_well_formed stop f going ys ≡ true → Stops (until_on test stop f on going xs) v → Stops (until_on test stop f on going ys) w → in_row f xs ++ v ≡ in_row f ys ++ w → (xs ≡ ys) × (v ≡ w)
until_row_one test stop f n begun apart one on going [] [] v w small rx ry sv sw e = (refl, e)
until_row_one test stop f n begun apart one on going [] (y ∷ ys) v w small rx ry sv sw e =
    let r1 = and_parts going (f.is_well_formed y && until_well_formed stop f (not (stop y)) ys) ry in
    absurd (until_clash test on f going y (in_row f ys ++ w) v begun r1.0 ((and_parts (f.is_well_formed y) (until_well_formed stop f (not (stop y)) ys) r1.1).0) sv (e ∙ append_assoc (f.tokens y) (in_row f ys) w))
until_row_one test stop f n begun apart one on going (x ∷ xs) [] v w small rx ry sv sw e =
    let r1 = and_parts going (f.is_well_formed x && until_well_formed stop f (not (stop x)) xs) rx in
    absurd (until_clash test on f going x (in_row f xs ++ v) w begun r1.0 ((and_parts (f.is_well_formed x) (until_well_formed stop f (not (stop x)) xs) r1.1).0) sw (sym e ∙ append_assoc (f.tokens x) (in_row f xs) v))
until_row_one test stop f n begun apart one on going (x ∷ xs) (y ∷ ys) v w small rx ry sv sw e =
    let rx1 = and_parts going (f.is_well_formed x && until_well_formed stop f (not (stop x)) xs) rx in
    let ry1 = and_parts going (f.is_well_formed y && until_well_formed stop f (not (stop y)) ys) ry in
    let rx2 = and_parts (f.is_well_formed x) (until_well_formed stop f (not (stop x)) xs) rx1.1 in
    let ry2 = and_parts (f.is_well_formed y) (until_well_formed stop f (not (stop y)) ys) ry1.1 in
    let found = one x y (in_row f xs ++ v) (in_row f ys ++ w) (part_small (f.tokens x) (in_row f xs) n small) rx2.0 ry2.0
    (until_stops test stop (f.continues x) f (not (stop x)) xs v begun (apart x) rx2.1 sv) (until_stops test stop (f.continues y) f (not (stop y)) ys w begun (apart y) ry2.1 sw)
    (moved (f.tokens x) (in_row f xs) v (f.tokens y) (in_row f ys) w e) in
    let same = sym found.0 in
    let rest = until_row_one test stop f n begun apart one (f.continues x) (not (stop x)) xs ys v w (rest_small (f.tokens x) (in_row f xs) n small) rx2.1 (subst (λ z. until_well_formed stop f (not (stop z)) ys ≡ true) same ry2.1) sv (subst (λ z. Stops (until_on test stop f (f.continues z) (not (stop z)) ys) w) same sw) found.1 in
    (cons_is x y xs ys found.0 rest.0, rest.1)

pub until_one : {T X : Type 0} (test : T → Bool) (stop : X → Bool) (f : Form T X) (n : ℕ) → StartsWithin test f → NeverContinuesWith test f → IsUnambiguousBelow n f → IsUnambiguousBelow n (until test stop f)
until_one test stop f n begun apart one = until_row_one test stop f n begun apart one nothing true

until_right_push : {T X : Type 0} (stop : X → Bool) (f : Form T X) (going : Bool) (xs : List X) (x : X) → until_well_formed stop f going xs ≡ true → still_going stop going xs ≡ true → f.is_well_formed x ≡ true → until_well_formed stop f going (xs ++ (x ∷ [])) ≡ true
until_right_push stop f going [] x r g h = and_from going (f.is_well_formed x && true) g (and_from (f.is_well_formed x) true h refl)
until_right_push stop f going (y ∷ ys) x r g h =
    let r1 = and_parts going (f.is_well_formed y && until_well_formed stop f (not (stop y)) ys) r in
    let r2 = and_parts (f.is_well_formed y) (until_well_formed stop f (not (stop y)) ys) r1.1 in
    and_from going _ r1.0 (and_from (f.is_well_formed y) _ r2.0 (until_right_push stop f (not (stop y)) ys x r2.1 g h))

-- whether the row goes on is told by its last tree
pub going_push : {X : Type 0} (stop : X → Bool) (going : Bool) (xs : List X) (x : X) → still_going stop going (xs ++ (x ∷ [])) ≡ not (stop x)
going_push stop going [] x = refl
going_push stop going (y ∷ ys) x = going_push stop (not (stop y)) ys x

until_refuses : {T X : Type 0} (test : T → Bool) (stop : X → Bool) (f : Form T X) → StartsWithin test f → NeverContinuesWith test f → IsUnambiguous f → (b new : List T) → Refuses f b new → (off : T → Bool) (going : Bool) (xs ys : List X) (v w : List T) → begins_by test (b ++ v) ≡ true → until_well_formed stop f going xs ≡ true → still_going stop going xs ≡ true → until_well_formed stop f going ys ≡ true → StartsAs new v → Stops (until_on test stop f off going ys) w → in_row f ys ++ w ≡ in_row f xs ++ (b ++ v) → ⊥
until_refuses test stop f begun apart one b new refuses off going [] [] v w h rx g ry sv sw e = until_more test off going w g (begins_at test (b ++ v) w (sym e) h) sw
until_refuses test stop f begun apart one b new refuses off going [] (y ∷ ys) v w h rx g ry sv sw e =
    let ry1 = and_parts going (f.is_well_formed y && until_well_formed stop f (not (stop y)) ys) ry in
    let ry2 = and_parts (f.is_well_formed y) (until_well_formed stop f (not (stop y)) ys) ry1.1 in
    refuses y v (in_row f ys ++ w) ry2.0 sv (until_stops test stop (f.continues y) f (not (stop y)) ys w begun (apart y) ry2.1 sw) (sym (append_assoc (f.tokens y) (in_row f ys) w) ∙ e)
until_refuses test stop f begun apart one b new refuses off going (x ∷ xs) [] v w h rx g ry sv sw e =
    let rx1 = and_parts going (f.is_well_formed x && until_well_formed stop f (not (stop x)) xs) rx in
    until_clash test off f going x (in_row f xs ++ (b ++ v)) w begun rx1.0 ((and_parts (f.is_well_formed x) (until_well_formed stop f (not (stop x)) xs) rx1.1).0) sw (e ∙ append_assoc (f.tokens x) (in_row f xs) (b ++ v))
until_refuses test stop f begun apart one b new refuses off going (x ∷ xs) (y ∷ ys) v w h rx g ry sv sw e =
    let rx1 = and_parts going (f.is_well_formed x && until_well_formed stop f (not (stop x)) xs) rx in
    let ry1 = and_parts going (f.is_well_formed y && until_well_formed stop f (not (stop y)) ys) ry in
    let rx2 = and_parts (f.is_well_formed x) (until_well_formed stop f (not (stop x)) xs) rx1.1 in
    let ry2 = and_parts (f.is_well_formed y) (until_well_formed stop f (not (stop y)) ys) ry1.1 in
    let found = one y x (in_row f ys ++ w) (in_row f xs ++ (b ++ v)) ry2.0 rx2.0 (until_stops test stop (f.continues y) f (not (stop y)) ys w begun (apart y) ry2.1 sw) (until_stops_at test stop (f.continues x) f (not (stop x)) xs (b ++ v) begun (apart x) rx2.1 h)
    (moved (f.tokens y) (in_row f ys) w (f.tokens x) (in_row f xs) (b ++ v) e) in
    until_refuses test stop f begun apart one b new refuses (f.continues x) (not (stop x)) xs ys v w h rx2.1 g (subst (λ z. until_well_formed stop f (not (stop z)) ys ≡ true) found.0 ry2.1) sv (subst (λ z. Stops (until_on test stop f (f.continues z) (not (stop z)) ys) w) found.0 sw) found.1

-- What such a row owes for its laws.
pub record Untils {T : Type 0} {X : Type 0} (test : T → Bool) (stop : X → Bool) (f : Form T X) : Type 0 where
  pub begun : StartsWithin test f
  pub apart : NeverContinuesWith test f
  pub one : IsUnambiguous f

pub untils_one : {T X : Type 0} {test : T → Bool} {stop : X → Bool} {f : Form T X} → Untils test stop f → IsUnambiguous (until test stop f)
untils_one {T} {X} {test} {stop} {f} untils = one_of_any (until test stop f) (λ n. until_one test stop f n untils.begun untils.apart (one_to f untils.one n))

-- the trees of such a row so far
abbrev pub UntilTaken : {T X : Type 0} → (T → Bool) → (X → Bool) → Form T X → List X → List T → List T → Type 0
UntilTaken test stop f xs old new = Parsed (until test stop f) xs (last_on f nothing xs) old new

pub until_none : {T X : Type 0} (test : T → Bool) (stop : X → Bool) (f : Form T X) (old : List T) → UntilTaken test stop f [] old old
until_none test stop f old = record { spelled = refl; right = refl; stops = stops_nothing old }

pub until_pushed : {T X : Type 0} (test : T → Bool) (stop : X → Bool) (f : Form T X) (xs : List X) {x : X} {old mid new : List T} → UntilTaken test stop f xs old mid → still_going stop true xs ≡ true → Parsed f x (f.continues x) mid new → UntilTaken test stop f (xs ++ (x ∷ [])) old new
until_pushed test stop f xs {x} {old} {mid} {new} t g u = record {
  spelled = t.spelled ∙ ap (λ ts. in_row f xs ++ ts) u.spelled ∙ sym (append_assoc (in_row f xs) (f.tokens x) new) ∙ ap (λ ts. ts ++ new) (sym (row_push f xs x));
  right = until_right_push stop f true xs x t.right g u.right;
  stops = subst (λ on. Stops on new) (sym (last_push f nothing xs x)) u.stops;
}

-- no other tree of the row stands behind
pub until_done : {T X : Type 0} (test : T → Bool) (stop : X → Bool) (f : Form T X) (xs : List X) {old new : List T} → UntilTaken test stop f xs old new → Stops test new → Parsed (until test stop f) xs (until_on test stop f nothing true xs) old new
until_done test stop f xs {old} {new} t s = record { spelled = t.spelled; right = t.right; stops = stops_or (last_on f nothing xs) (λ u. still_going stop true xs && test u) new t.stops (and_stops (still_going stop true xs) test new s) }

-- the last tree stops the row
pub until_ended : {T X : Type 0} (test : T → Bool) (stop : X → Bool) (f : Form T X) (xs : List X) {old new : List T} → UntilTaken test stop f xs old new → still_going stop true xs ≡ false → Parsed (until test stop f) xs (until_on test stop f nothing true xs) old new
until_ended test stop f xs {old} {new} t g = record { spelled = t.spelled; right = t.right; stops = stops_or (last_on f nothing xs) (λ u. still_going stop true xs && test u) new t.stops (stops_never (λ u. still_going stop true xs && test u) new (λ u. and_no_left (still_going stop true xs) (test u) g)) }

-- a later tree was begun, and is refused
pub until_later : {T X : Type 0} {test : T → Bool} {stop : X → Bool} {f : Form T X} (xs : List X) {old mid new : List T} → Untils test stop f → UntilTaken test stop f xs old mid → still_going stop true xs ≡ true → begins_by test mid ≡ true → FailsAt f mid new → FailsAt (until test stop f) old new
until_later {T} {X} {test} {stop} {f} xs {old} {mid} {new} untils t g h r = record {
  before = in_row f xs ++ r.before;
  spelled = t.spelled ∙ ap (λ ts. in_row f xs ++ ts) r.spelled ∙ sym (append_assoc (in_row f xs) r.before new);
  refuses = λ ys v w ry sv sw e.
      until_refuses test stop f untils.begun untils.apart untils.one r.before new r.refuses nothing true xs ys v w (begins_as test r.before new v sv (begins_at test mid (r.before ++ new) r.spelled h)) t.right g ry sv sw (e ∙ append_assoc (in_row f xs) r.before v);
  begins = record {
    tree = xs ++ (r.begins.tree ∷ []);
    more = r.begins.more;
    right = until_right_push stop f true xs r.begins.tree t.right g r.begins.right;
    spelled = row_push f xs r.begins.tree ∙ ap (λ ts. in_row f xs ++ ts) r.begins.spelled ∙ sym (append_assoc (in_row f xs) r.before r.begins.more);
  };
}

pub until_goes : {T X : Type 0} (more test : T → Bool) (stop : X → Bool) (f : Form T X) → IsSubset test more → ContinuesWith more f → ContinuesWith more (until test stop f)
until_goes more test stop f tests goes xs t h = one_holds (last_on f nothing xs t) (still_going stop true xs && test t) (more t) (last_goes more nothing f xs (λ u k. absurd (false≢true k)) goes t) (λ k. tests t ((and_parts (still_going stop true xs) (test t) k).1)) h

pub until_some : {T X : Type 0} (test : T → Bool) (stop : X → Bool) (f : Form T X) → Begins (until test stop f) []
until_some test stop f = record { tree = []; more = []; right = refl; spelled = refl }

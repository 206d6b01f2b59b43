-- Rows whose first tree begins with a token of one test, and each later one with a token of another.
use Rattle.grammar.specs.Shows.{Shows}
use Rattle.std.proofs.Common.{◌≡◌, ℕ, Bool, true, List, [], ◌∷◌, ◌++◌, refl, sym, ◌∙◌, ap, subst, None, inl, inr}
use Rattle.std.proofs.lemmas.List.{append_assoc, append-nil}
use Rattle.std.proofs.lemmas.Bool.{and_parts, and_from}
use Rattle.grammar.specs.Forms.{Form, begins_by, beginning, in_row, all_well_formed, last_on, row_on, lines, lines_on, both, perhaps, either, token}
use Rattle.grammar.specs.Faults.{Stops, Parsed, Refuses, Begins, FailsAt, IsUnambiguousBelow, IsUnambiguous, StartsWithin, IsSubset, NeverContinuesWith, ContinuesWith}
use Rattle.grammar.proofs.Basics.{stops_or, cons_is, part_small, rest_small, moved, begins_left, begins_stops, begins_at, begins_as, head_begins, one_of_any, one_to}
use Rattle.grammar.proofs.Rows.{row_stops, row_stops_at, row_one, row_refuses, row_push, right_push, last_push, row_goes}
use Rattle.grammar.proofs.Options.{beginning_begun, beginning_one, beginning_refused}

lines_clash : {T X : Type 0} (starts : T → Bool) (f : Form T X) (x : X) (rest v : List T) → StartsWithin starts f → f.is_well_formed x ≡ true → Stops starts v → v ≡ f.tokens x ++ rest → ⊥
lines_clash starts f x rest v begun r s e = begins_stops starts v (begins_at starts (f.tokens x ++ rest) v (sym e) (begins_left starts (f.tokens x) rest (begun x r))) s

lines_stops : {T X : Type 0} (next : T → Bool) (f : Form T X) (x : X) (xs : List X) (w : List T) → NeverContinuesWith next f → all_well_formed (beginning next f) xs ≡ true → Stops (row_on next f (f.continues x) xs) w → Stops (f.continues x) (in_row f xs ++ w)
lines_stops next f x xs w apart r s = row_stops next (f.continues x) (beginning next f) xs w (beginning_begun next f) (apart x) r s

pub lines_one : {T X : Type 0} (starts next : T → Bool) (f : Form T X) (n : ℕ) → StartsWithin starts f → NeverContinuesWith next f → IsUnambiguousBelow n f → IsUnambiguousBelow n (lines starts next f)
lines_one starts next f n begun apart one [] [] v w small rx ry sv sw e = (refl, e)
lines_one starts next f n begun apart one [] (y ∷ ys) v w small rx ry sv sw e = absurd (lines_clash starts f y (in_row f ys ++ w) v begun ((and_parts (f.is_well_formed y) _ ry).0) sv (e ∙ append_assoc (f.tokens y) (in_row f ys) w))
lines_one starts next f n begun apart one (x ∷ xs) [] v w small rx ry sv sw e = absurd (lines_clash starts f x (in_row f xs ++ v) w begun ((and_parts (f.is_well_formed x) _ rx).0) sw (sym e ∙ append_assoc (f.tokens x) (in_row f xs) v))
lines_one starts next f n begun apart one (x ∷ xs) (y ∷ ys) v w small rx ry sv sw e =
    let rx2 = and_parts (f.is_well_formed x) (all_well_formed (beginning next f) xs) rx in
    let ry2 = and_parts (f.is_well_formed y) (all_well_formed (beginning next f) ys) ry in
    let found = one x y (in_row f xs ++ v) (in_row f ys ++ w) (part_small (f.tokens x) (in_row f xs) n small) rx2.0 ry2.0
    (lines_stops next f x xs v apart rx2.1 sv) (lines_stops next f y ys w apart ry2.1 sw)
    (moved (f.tokens x) (in_row f xs) v (f.tokens y) (in_row f ys) w e) in
    let rest = row_one next (beginning next f) n (beginning_begun next f) apart (beginning_one next f n one) (f.continues x) (f.continues y) xs ys v w (rest_small (f.tokens x) (in_row f xs) n small) rx2.1 ry2.1 sv sw found.1 in
    (cons_is x y xs ys found.0 rest.0, rest.1)

-- the first tree of a list is refused
lines_first_refuses : {T X : Type 0} (starts next : T → Bool) (f : Form T X) (before new : List T) → NeverContinuesWith next f → begins_by starts (before ++ new) ≡ true → Refuses f before new → Refuses (lines starts next f) before new
lines_first_refuses starts next f before new apart h r [] v w rx sv sw e = begins_stops starts w (begins_at starts (before ++ v) w (sym e) (begins_as starts before new v sv h)) sw
lines_first_refuses starts next f before new apart h r (y ∷ ys) v w rx sv sw e =
    let r2 = and_parts (f.is_well_formed y) (all_well_formed (beginning next f) ys) rx in
    r y v (in_row f ys ++ w) r2.0 sv (lines_stops next f y ys w apart r2.1 sw) (sym (append_assoc (f.tokens y) (in_row f ys) w) ∙ e)

pub lines_first_refused : {T X : Type 0} (starts next : T → Bool) (f : Form T X) (old new : List T) → NeverContinuesWith next f → begins_by starts old ≡ true → FailsAt f old new → FailsAt (lines starts next f) old new
lines_first_refused starts next f old new apart h r = record {
  before = r.before;
  spelled = r.spelled;
  refuses = lines_first_refuses starts next f r.before new apart (begins_at starts old (r.before ++ new) r.spelled h) r.refuses;
  begins = record { tree = r.begins.tree ∷ []; more = r.begins.more; right = and_from (f.is_well_formed r.begins.tree) true r.begins.right refl; spelled = append-nil (f.tokens r.begins.tree) ∙ r.begins.spelled };
}

-- a later one is refused
lines_later_refuses : {T X : Type 0} (starts next : T → Bool) (f : Form T X) (x : X) (xs : List X) (b new : List T) → StartsWithin starts f → NeverContinuesWith next f → IsUnambiguous f → f.is_well_formed x ≡ true → all_well_formed (beginning next f) xs ≡ true → begins_by next (b ++ new) ≡ true → Refuses (beginning next f) b new → Refuses (lines starts next f) (f.tokens x ++ in_row f xs ++ b) new
lines_later_refuses starts next f x xs b new begun apart one rx rxs h r [] v w ry sv sw e = lines_clash starts f x (in_row f xs ++ (b ++ v)) w begun rx sw (e ∙ append_assoc (f.tokens x ++ in_row f xs) b v ∙ append_assoc (f.tokens x) (in_row f xs) (b ++ v))
lines_later_refuses starts next f x xs b new begun apart one rx rxs h r (y ∷ ys) v w ry sv sw e =
    let r2 = and_parts (f.is_well_formed y) (all_well_formed (beginning next f) ys) ry in
    let g = begins_as next b new v sv h in
    let found = one y x (in_row f ys ++ w) (in_row f xs ++ (b ++ v)) r2.0 rx (lines_stops next f y ys w apart r2.1 sw)
    (row_stops_at next (f.continues x) (beginning next f) xs (b ++ v) (beginning_begun next f) (apart x) rxs g)
    (moved (f.tokens y) (in_row f ys) w (f.tokens x) (in_row f xs) (b ++ v) (e ∙ append_assoc (f.tokens x ++ in_row f xs) b v)) in
    row_refuses next (beginning next f) (beginning_begun next f) apart (λ a c p q ra rc sp sq k. one a c p q ((and_parts (f.is_well_formed a) _ ra).0) ((and_parts (f.is_well_formed c) _ rc).0) sp sq k) b new r (f.continues y) xs ys v w g rxs r2.1 sv sw found.1

pub lines_later_refused : {T X : Type 0} (starts next : T → Bool) (f : Form T X) (some x : X) (xs : List X) (ends : T → Bool) (old mid new : List T) → StartsWithin starts f → NeverContinuesWith next f → IsUnambiguous f → (beginning next f).is_well_formed some ≡ true → Parsed (lines starts next f) (x ∷ xs) ends old mid → begins_by next mid ≡ true → FailsAt f mid new → FailsAt (lines starts next f) old new
lines_later_refused starts next f some x xs ends old mid new begun apart one ok t h r0 =
    let r = beginning_refused next f some mid new ok h r0 in
    let rx = and_parts (f.is_well_formed x) (all_well_formed (beginning next f) xs) t.right in
    let whole = f.tokens x ++ in_row f xs in
    record {
      before = whole ++ r.before;
      spelled = t.spelled ∙ ap (λ ts. whole ++ ts) r.spelled ∙ sym (append_assoc whole r.before new);
      refuses = lines_later_refuses starts next f x xs r.before new begun apart one rx.0 rx.1 (begins_at next mid (r.before ++ new) r.spelled h) r.refuses;
      begins = record {
        tree = x ∷ (xs ++ (r.begins.tree ∷ []));
        more = r.begins.more;
        right = and_from (f.is_well_formed x) _ rx.0 (right_push (beginning next f) xs r.begins.tree rx.1 r.begins.right);
        spelled = ap (λ ts. f.tokens x ++ ts) (row_push (beginning next f) xs r.begins.tree) ∙ sym (append_assoc (f.tokens x) (in_row f xs) (f.tokens r.begins.tree)) ∙ ap (λ ts. whole ++ ts) r.begins.spelled ∙ sym (append_assoc whole r.before r.begins.more);
      };
    }

-- What such a list owes for its laws; some tree stands as a later one.
pub record LineRules {T : Type 0} {X : Type 0} (starts next : T → Bool) (f : Form T X) : Type 0 where
  pub begun : StartsWithin starts f
  pub apart : NeverContinuesWith next f
  pub one : IsUnambiguous f
  pub some : X
  pub later : (beginning next f).is_well_formed some ≡ true

pub lines_is_one : {T X : Type 0} {starts next : T → Bool} {f : Form T X} → LineRules starts next f → IsUnambiguous (lines starts next f)
lines_is_one {T} {X} {starts} {next} {f} rules = one_of_any (lines starts next f) (λ n. lines_one starts next f n rules.begun rules.apart (one_to f rules.one n))

-- some trees so far
pub record LinesTaken {T : Type 0} {X : Type 0} (starts next : T → Bool) (f : Form T X) (all : List X) (old new : List T) : Type 0 where
  pub first : X
  pub others : List X
  pub is : all ≡ first ∷ others
  pub taken : Parsed (lines starts next f) (first ∷ others) (last_on f (f.continues first) others) old new

pub lines_none : {T X : Type 0} (starts next : T → Bool) (f : Form T X) (old : List T) → Stops starts old → Parsed (lines starts next f) [] starts old old
lines_none starts next f old s = record { spelled = refl; right = refl; stops = s }

pub lines_begun : {T X : Type 0} (starts next : T → Bool) (f : Form T X) {x : X} {old new : List T} → Parsed f x (f.continues x) old new → LinesTaken starts next f (x ∷ []) old new
lines_begun starts next f {x} {old} {new} t = record { first = x; others = []; is = refl; taken = record { spelled = t.spelled ∙ ap (λ ts. ts ++ new) (sym (append-nil (f.tokens x))); right = and_from (f.is_well_formed x) true t.right refl; stops = t.stops } }

pub lines_pushed : {T X : Type 0} {starts next : T → Bool} {f : Form T X} {all : List X} {x : X} {old mid new : List T} → LineRules starts next f → LinesTaken starts next f all old mid → begins_by next mid ≡ true → Parsed f x (f.continues x) mid new → LinesTaken starts next f (all ++ (x ∷ [])) old new
lines_pushed {T} {X} {starts} {next} {f} {all} {x} {old} {mid} {new} rules h n t =
    let r = and_parts (f.is_well_formed h.first) (all_well_formed (beginning next f) h.others) h.taken.right in
    let whole = f.tokens h.first ++ in_row f h.others in
    let k = head_begins starts next (f.tokens x) new (rules.begun x t.right) (subst (λ ts. begins_by next ts ≡ true) t.spelled n) in
    record {
      first = h.first;
      others = h.others ++ (x ∷ []);
      is = ap (λ xs. xs ++ (x ∷ [])) h.is;
      taken = record {
        spelled = h.taken.spelled ∙ ap (λ ts. whole ++ ts) t.spelled ∙ sym (append_assoc whole (f.tokens x) new) ∙ ap (λ ts. ts ++ new) (append_assoc (f.tokens h.first) (in_row f h.others) (f.tokens x) ∙ ap (λ ts. f.tokens h.first ++ ts) (sym (row_push f h.others x)));
        right = and_from (f.is_well_formed h.first) _ r.0 (right_push (beginning next f) h.others x r.1 (and_from (f.is_well_formed x) _ t.right k));
        stops = subst (λ on. Stops on new) (sym (last_push f (f.continues h.first) h.others x)) t.stops;
      };
    }

pub lines_done : {T X : Type 0} {starts next : T → Bool} {f : Form T X} {all : List X} {old new : List T} → LinesTaken starts next f all old new → Stops next new → Parsed (lines starts next f) all (lines_on starts next f all) old new
lines_done {T} {X} {starts} {next} {f} {all} {old} {new} h s =
    subst (λ xs. Parsed (lines starts next f) xs (lines_on starts next f xs) old new) (sym h.is)
    (record { spelled = h.taken.spelled; right = h.taken.right; stops = stops_or (last_on f (f.continues h.first) h.others) next new h.taken.stops s })

pub lines_first : {T X : Type 0} {starts next : T → Bool} {f : Form T X} {old new : List T} → LineRules starts next f → begins_by starts old ≡ true → FailsAt f old new → FailsAt (lines starts next f) old new
lines_first {T} {X} {starts} {next} {f} {old} {new} rules h r = lines_first_refused starts next f old new rules.apart h r

pub lines_later : {T X : Type 0} {starts next : T → Bool} {f : Form T X} {all : List X} {old mid new : List T} → LineRules starts next f → LinesTaken starts next f all old mid → begins_by next mid ≡ true → FailsAt f mid new → FailsAt (lines starts next f) old new
lines_later {T} {X} {starts} {next} {f} {all} {old} {mid} {new} rules h n r =
    lines_later_refused starts next f rules.some h.first h.others (last_on f (f.continues h.first) h.others) old mid new rules.begun rules.apart rules.one rules.later h.taken n r

pub lines_goes : {T X : Type 0} (more starts next : T → Bool) (f : Form T X) → IsSubset starts more → IsSubset next more → ContinuesWith more f → ContinuesWith more (lines starts next f)
lines_goes more starts next f begins later goes [] t h = begins t h
lines_goes more starts next f begins later goes (x ∷ xs) t h = row_goes more next (f.continues x) f xs later (goes x) goes t h

pub lines_some : {T X : Type 0} (starts next : T → Bool) (f : Form T X) → Begins (lines starts next f) []
lines_some starts next f = record { tree = []; more = []; right = refl; spelled = refl }

-- ---- some tree that begins with a token of a test

pub record Stands {T : Type 0} {X : Type 0} (next : T → Bool) (f : Form T X) : Type 0 where
  pub tree : X
  pub right : f.is_well_formed tree ≡ true
  pub begins : begins_by next (f.tokens tree) ≡ true

pub stands_token : {T Y : Type 0} {g : Form T Y} (test next : T → Bool) (t : T) → test t ≡ true → next t ≡ true → Begins g [] → Stands next (both (token test) g)
stands_token {T} {Y} {g} test next t m n b = record { tree = (t, b.tree); right = and_from (test t) (g.is_well_formed b.tree) m b.right; begins = n }

pub stands_shown : {T X Y : Type 0} {F : Form T X} {f : Form T Y} {out : X → Y} {made : Y → X} (next : T → Bool) → Shows F f out made → Stands next f → Stands next F
stands_shown {T} {X} {Y} {F} {f} {out} {made} next s b = record {
  tree = made b.tree;
  right = s.made_right b.tree b.right;
  begins = begins_at next (f.tokens b.tree) (F.tokens (made b.tree)) (sym (s.tokens (made b.tree) ∙ ap (λ z. f.tokens z) (s.there b.tree b.right))) b.begins;
}

pub stands_left : {T X Y : Type 0} {f : Form T X} (next : T → Bool) (g : Form T Y) → Stands next f → Stands next (either f g)
stands_left {T} {X} {Y} {f} next g b = record { tree = inl b.tree; right = b.right; begins = b.begins }

pub stands_right : {T X Y : Type 0} {g : Form T Y} (next : T → Bool) (f : Form T X) → Stands next g → Stands next (either f g)
stands_right {T} {X} {Y} {g} next f b = record { tree = inr b.tree; right = b.right; begins = b.begins }

pub stands_without : {T X Y : Type 0} {g : Form T Y} (next test : T → Bool) (f : Form T X) → Stands next g → Stands next (both (perhaps test f) g)
stands_without {T} {X} {Y} {g} next test f b = record { tree = (None, b.tree); right = b.right; begins = b.begins }

pub stands_later : {T X : Type 0} {f : Form T X} (next : T → Bool) (b : Stands next f) → (beginning next f).is_well_formed b.tree ≡ true
stands_later {T} {X} {f} next b = and_from (f.is_well_formed b.tree) _ b.right b.begins

pub stands_begins : {T X : Type 0} {f : Form T X} {next : T → Bool} → Stands next f → Begins f []
stands_begins {T} {X} {f} {next} b = record { tree = b.tree; more = f.tokens b.tree; right = b.right; spelled = refl }

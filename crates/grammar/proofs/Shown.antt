-- What holds of a rule's trees holds of the program's; and what is read of trees is read of what their parts gave.
use Rattle.std.proofs.lemmas.Bool.{and_parts, and_from}
use Rattle.std.proofs.Common.{◌≡◌, ℕ, ◌<◌, Bool, true, false, ◌&&◌, ◌||◌, List, [], ◌∷◌, ◌++◌, length, map, refl, sym, ◌∙◌, ap, subst}
use Rattle.grammar.specs.Forms.{Form, nothing, begins_by, both, beginning, in_row, all_well_formed, last_on, row_on, many, trail, chain, lines, lines_well_formed, lines_on}
use Rattle.grammar.specs.Faults.{Stops, Parsed, Begins, FailsAt, IsUnambiguousBelow, IsUnambiguous, StartsWithin, NeverContinuesWith, ContinuesWith, IsBare}
use Rattle.grammar.proofs.Basics.{begins_at, one_of_any, one_to}
use Rattle.grammar.specs.Shows.{Shows, through, TreeFacts, reading, given, seen}

pub shown_taken : {T X Y : Type 0} {F : Form T X} {f : Form T Y} {out : X → Y} {made : Y → X} {y : Y} {ends : T → Bool} {old new : List T} → Shows F f out made → Parsed f y ends old new → Parsed F (made y) ends old new
shown_taken {T} {X} {Y} {F} {f} {out} {made} {y} {ends} {old} {new} s t = record {
  spelled = t.spelled ∙ ap (λ ts. ts ++ new) (sym (s.tokens (made y) ∙ ap (λ z. f.tokens z) (s.there y t.right)));
  right = s.made_right y t.right;
  stops = t.stops;
}

-- the same up to where the program's tree ends
pub shown_took : {T X Y : Type 0} {F : Form T X} {f : Form T Y} {out : X → Y} {made : Y → X} {y : Y} {old new : List T} → Shows F f out made → Parsed f y (f.continues y) old new → Parsed F (made y) (F.continues (made y)) old new
shown_took {T} {X} {Y} {F} {f} {out} {made} {y} {old} {new} s t = record {
  spelled = t.spelled ∙ ap (λ ts. ts ++ new) (sym (s.tokens (made y) ∙ ap (λ z. f.tokens z) (s.there y t.right)));
  right = s.made_right y t.right;
  stops = subst (λ on. Stops on new) (sym (s.continues (made y) ∙ ap (λ z. f.continues z) (s.there y t.right))) t.stops;
}

-- a tree of the program as one of the rule
pub shown_out : {T X Y : Type 0} {F : Form T X} {f : Form T Y} {out : X → Y} {made : Y → X} {x : X} {old new : List T} → Shows F f out made → Parsed F x (F.continues x) old new → Parsed f (out x) (f.continues (out x)) old new
shown_out {T} {X} {Y} {F} {f} {out} {made} {x} {old} {new} s t = record {
  spelled = t.spelled ∙ ap (λ ts. ts ++ new) (s.tokens x);
  right = s.right x t.right;
  stops = subst (λ on. Stops on new) (s.continues x) t.stops;
}

pub shown_bare : {T X Y : Type 0} {F : Form T X} {f : Form T Y} {out : X → Y} {made : Y → X} {t : T} → Shows F f out made → IsBare f t → IsBare F t
shown_bare {T} {X} {Y} {F} {f} {out} {made} {t} s b = record { tree = made b.tree; right = s.made_right b.tree b.right; spelled = s.tokens (made b.tree) ∙ ap (λ z. f.tokens z) (s.there b.tree b.right) ∙ b.spelled }

pub shown_refused : {T X Y : Type 0} {F : Form T X} {f : Form T Y} {out : X → Y} {made : Y → X} {old new : List T} → Shows F f out made → FailsAt f old new → FailsAt F old new
shown_refused {T} {X} {Y} {F} {f} {out} {made} {old} {new} s r = record {
  before = r.before;
  spelled = r.spelled;
  refuses = λ x v w rx sv sw e. r.refuses (out x) v w (s.right x rx) sv (subst (λ g. Stops g w) (s.continues x) sw) (ap (λ ts. ts ++ w) (sym (s.tokens x)) ∙ e);
  begins = record {
    tree = made r.begins.tree;
    more = r.begins.more;
    right = s.made_right r.begins.tree r.begins.right;
    spelled = s.tokens (made r.begins.tree) ∙ ap (λ z. f.tokens z) (s.there r.begins.tree r.begins.right) ∙ r.begins.spelled;
  };
}

-- and back: what the program's form refuses, the rule refuses
pub shown_refused_back : {T X Y : Type 0} {F : Form T X} {f : Form T Y} {out : X → Y} {made : Y → X} {old new : List T} → Shows F f out made → FailsAt F old new → FailsAt f old new
shown_refused_back {T} {X} {Y} {F} {f} {out} {made} {old} {new} s r = record {
  before = r.before;
  spelled = r.spelled;
  refuses = λ y v w ry sv sw e. r.refuses (made y) v w (s.made_right y ry) sv (subst (λ on. Stops on w) (sym (s.continues (made y) ∙ ap (λ z. f.continues z) (s.there y ry))) sw) (ap (λ ts. ts ++ w) (s.tokens (made y) ∙ ap (λ z. f.tokens z) (s.there y ry)) ∙ e);
  begins = record { tree = out r.begins.tree; more = r.begins.more; right = s.right r.begins.tree r.begins.right; spelled = sym (s.tokens r.begins.tree) ∙ r.begins.spelled };
}

pub shown_begins : {T X Y : Type 0} {F : Form T X} {f : Form T Y} {out : X → Y} {made : Y → X} {before : List T} → Shows F f out made → Begins f before → Begins F before
shown_begins {T} {X} {Y} {F} {f} {out} {made} {before} s b = record {
  tree = made b.tree;
  more = b.more;
  right = s.made_right b.tree b.right;
  spelled = s.tokens (made b.tree) ∙ ap (λ z. f.tokens z) (s.there b.tree b.right) ∙ b.spelled;
}

pub shown_one : {T X Y : Type 0} {F : Form T X} {f : Form T Y} {out : X → Y} {made : Y → X} (n : ℕ) → Shows F f out made → IsUnambiguousBelow n f → IsUnambiguousBelow n F
shown_one {T} {X} {Y} {F} {f} {out} {made} n s one x y v w small rx ry sv sw e =
    let found = one (out x) (out y) v w (subst (λ ts. length ts < n) (s.tokens x) small) (s.right x rx) (s.right y ry) (subst (λ g. Stops g v) (s.continues x) sv) (subst (λ g. Stops g w) (s.continues y) sw)
    (ap (λ ts. ts ++ v) (sym (s.tokens x)) ∙ e ∙ ap (λ ts. ts ++ w) (s.tokens y)) in
    (sym (s.back x rx) ∙ ap made found.0 ∙ s.back y ry, found.1)

pub shown_is_one : {T X Y : Type 0} {F : Form T X} {f : Form T Y} {out : X → Y} {made : Y → X} → Shows F f out made → IsUnambiguous f → IsUnambiguous F
shown_is_one {T} {X} {Y} {F} {f} {out} {made} s one = one_of_any F (λ n. shown_one n s (one_to f one n))

pub shown_begun : {T X Y : Type 0} {F : Form T X} {f : Form T Y} {out : X → Y} {made : Y → X} (test : T → Bool) → Shows F f out made → StartsWithin test f → StartsWithin test F
shown_begun {T} {X} {Y} {F} {f} {out} {made} test s begun x r = begins_at test (f.tokens (out x)) (F.tokens x) (sym (s.tokens x)) (begun (out x) (s.right x r))

pub shown_goes : {T X Y : Type 0} {F : Form T X} {f : Form T Y} {out : X → Y} {made : Y → X} (on : T → Bool) → Shows F f out made → ContinuesWith on f → ContinuesWith on F
shown_goes {T} {X} {Y} {F} {f} {out} {made} on s goes x t h = goes (out x) t (sym (ap (λ g. g t) (s.continues x)) ∙ h)

pub shown_ends : {T X Y : Type 0} {F : Form T X} {f : Form T Y} {out : X → Y} {made : Y → X} → Shows F f out made → ((y : Y) (t : T) → f.continues y t ≡ false) → (x : X) (t : T) → F.continues x t ≡ false
shown_ends {T} {X} {Y} {F} {f} {out} {made} s ends x t = ap (λ g. g t) (s.continues x) ∙ ends (out x) t

pub shown_apart : {T X Y : Type 0} {F : Form T X} {f : Form T Y} {out : X → Y} {made : Y → X} (test : T → Bool) → Shows F f out made → NeverContinuesWith test f → NeverContinuesWith test F
shown_apart {T} {X} {Y} {F} {f} {out} {made} test s apart x t m = ap (λ g. g t) (s.continues x) ∙ apart (out x) t m

-- ---- how to show

-- trees that are seen through their parts
pub shows_through : {T X Y : Type 0} (f : Form T Y) (out : X → Y) (made : Y → X) → ((y : Y) → out (made y) ≡ y) → ((x : X) → made (out x) ≡ x) → Shows (through out f) f out made
shows_through f out made there back = record {
  tokens = λ x. refl;
  continues = λ x. refl;
  right = λ x r. r;
  made_right = λ y r. subst (λ z. f.is_well_formed z ≡ true) (sym (there y)) r;
  there = λ y r. there y;
  back = λ x r. back x;
}

-- trees that are read as the rule reads their parts
pub shows_read : {T X Y : Type 0} (read : X → TreeFacts T) (f : Form T Y) (out : X → Y) (made : Y → X) → ((x : X) → read x ≡ reading f (out x)) → ((y : Y) → out (made y) ≡ y) → ((x : X) → made (out x) ≡ x) → Shows (seen read) f out made
shows_read read f out made same there back = record {
  tokens = λ x. ap (λ r. r.tokens) (same x);
  continues = λ x. ap (λ r. r.continues) (same x);
  right = λ x r. sym (ap (λ z. z.is_well_formed) (same x)) ∙ r;
  made_right = λ y r. ap (λ z. z.is_well_formed) (same (made y)) ∙ subst (λ z. f.is_well_formed z ≡ true) (sym (there y)) r;
  there = λ y r. there y;
  back = λ x r. back x;
}

-- the same, where only well-formed trees come back
pub shows_right : {T X Y : Type 0} (read : X → TreeFacts T) (f : Form T Y) (out : X → Y) (made : Y → X) → ((x : X) → read x ≡ reading f (out x)) → ((y : Y) → f.is_well_formed y ≡ true → out (made y) ≡ y) → ((x : X) → f.is_well_formed (out x) ≡ true → made (out x) ≡ x) → Shows (seen read) f out made
shows_right read f out made same there back = record {
  tokens = λ x. ap (λ r. r.tokens) (same x);
  continues = λ x. ap (λ r. r.continues) (same x);
  right = λ x r. sym (ap (λ z. z.is_well_formed) (same x)) ∙ r;
  made_right = λ y r. ap (λ z. z.is_well_formed) (same (made y)) ∙ subst (λ z. f.is_well_formed z ≡ true) (sym (there y r)) r;
  there = there;
  back = λ x r. back x (sym (ap (λ z. z.is_well_formed) (same x)) ∙ r);
}

-- one after the other
pub shows_then : {T X Y Z : Type 0} {F : Form T X} {f : Form T Y} {g : Form T Z} {out : X → Y} {made : Y → X} {onward : Y → Z} {backward : Z → Y} → Shows F f out made → Shows f g onward backward → Shows F g (λ x. onward (out x)) (λ z. made (backward z))
shows_then {T} {X} {Y} {Z} {F} {f} {g} {out} {made} {onward} {backward} s u = record {
  tokens = λ x. s.tokens x ∙ u.tokens (out x);
  continues = λ x. s.continues x ∙ u.continues (out x);
  right = λ x r. u.right (out x) (s.right x r);
  made_right = λ z r. s.made_right (backward z) (u.made_right z r);
  there = λ z r. ap onward (s.there (backward z) (u.made_right z r)) ∙ u.there z r;
  back = λ x r. ap made (u.back (out x) (s.right x r)) ∙ s.back x r;
}

-- the first of two trees
pub shows_first : {T X Y Z : Type 0} {F : Form T X} {f : Form T Y} {out : X → Y} {made : Y → X} (g : Form T Z) → Shows F f out made → Shows (both F g) (both f g) (λ p. (out p.0, p.1)) (λ p. (made p.0, p.1))
shows_first {T} {X} {Y} {Z} {F} {f} {out} {made} g s = record {
  tokens = λ p. ap (λ ts. ts ++ g.tokens p.1) (s.tokens p.0);
  continues = λ p. refl;
  right = λ p r. let r2 = and_parts (F.is_well_formed p.0) (g.is_well_formed p.1) r in and_from (f.is_well_formed (out p.0)) (g.is_well_formed p.1) (s.right p.0 r2.0) r2.1;
  made_right = λ p r. let r2 = and_parts (f.is_well_formed p.0) (g.is_well_formed p.1) r in and_from (F.is_well_formed (made p.0)) (g.is_well_formed p.1) (s.made_right p.0 r2.0) r2.1;
  there = λ p r. ap (λ z. (z, p.1)) (s.there p.0 ((and_parts (f.is_well_formed p.0) (g.is_well_formed p.1) r).0));
  back = λ p r. ap (λ z. (z, p.1)) (s.back p.0 ((and_parts (F.is_well_formed p.0) (g.is_well_formed p.1) r).0));
}

-- ---- readings of parts

abbrev pub made_reading : {T : Type 0} → List T → Bool → (T → Bool) → TreeFacts T
made_reading ts right on = record { tokens = ts; is_well_formed = right; continues = on }

pub reading_is : {T : Type 0} (ts us : List T) (a b : Bool) (f g : T → Bool) → ts ≡ us → a ≡ b → f ≡ g → made_reading ts a f ≡ made_reading us b g
reading_is ts us a b f g d e h = ap (λ z. made_reading z a f) d ∙ ap (λ z. made_reading us z f) e ∙ ap (λ z. made_reading us b z) h

-- two forms say the same of a tree and of what stands for it
abbrev pub SameBy : {T X Y : Type 0} → Form T X → Form T Y → (X → Y) → Type 0
SameBy {T} {X} {Y} f g by = (x : X) → reading g (by x) ≡ reading f x

pub row_map : {T X Y : Type 0} (f : Form T X) (g : Form T Y) (by : X → Y) → SameBy f g by → (xs : List X) → in_row g (map by xs) ≡ in_row f xs
row_map f g by same [] = refl
row_map f g by same (x ∷ xs) = ap (λ r. r.tokens ++ in_row g (map by xs)) (same x) ∙ ap (λ ts. f.tokens x ++ ts) (row_map f g by same xs)

pub right_map : {T X Y : Type 0} (f : Form T X) (g : Form T Y) (by : X → Y) → SameBy f g by → (xs : List X) → all_well_formed g (map by xs) ≡ all_well_formed f xs
right_map f g by same [] = refl
right_map f g by same (x ∷ xs) = ap (λ r. r.is_well_formed && all_well_formed g (map by xs)) (same x) ∙ ap (λ b. f.is_well_formed x && b) (right_map f g by same xs)

pub last_map : {T X Y : Type 0} (f : Form T X) (g : Form T Y) (by : X → Y) → SameBy f g by → (on : T → Bool) (xs : List X) → last_on g on (map by xs) ≡ last_on f on xs
last_map f g by same on [] = refl
last_map f g by same on (x ∷ xs) = ap (λ r. last_on g r.continues (map by xs)) (same x) ∙ last_map f g by same (f.continues x) xs

-- a tree with a row behind it
pub trail_map : {T X Y A B : Type 0} (test : T → Bool) (f : Form T X) (g : Form T Y) (p : Form T A) (q : Form T B) (by : Y → B) → SameBy g q by → (a : A) (x : X) (ys : List Y) → reading p a ≡ reading f x → reading (trail test p q) (a, map by ys) ≡ reading (trail test f g) (x, ys)
trail_map test f g p q by same a x ys e =
    reading_is (p.tokens a ++ in_row q (map by ys)) (f.tokens x ++ in_row g ys) (p.is_well_formed a && all_well_formed q (map by ys)) (f.is_well_formed x && all_well_formed g ys) (row_on test q (p.continues a) (map by ys)) (row_on test g (f.continues x) ys)
    (ap (λ r. r.tokens ++ in_row q (map by ys)) e ∙ ap (λ ts. f.tokens x ++ ts) (row_map g q by same ys))
    (ap (λ r. r.is_well_formed && all_well_formed q (map by ys)) e ∙ ap (λ b. f.is_well_formed x && b) (right_map g q by same ys))
    (ap (λ r. row_on test q r.continues (map by ys)) e ∙ ap (λ on t. on t || test t) (last_map g q by same (f.continues x) ys))

-- a row
pub many_map : {T X Y : Type 0} (test : T → Bool) (f : Form T X) (g : Form T Y) (by : X → Y) → SameBy f g by → (xs : List X) → reading (many test g) (map by xs) ≡ reading (many test f) xs
many_map test f g by same xs = reading_is (in_row g (map by xs)) (in_row f xs) (all_well_formed g (map by xs)) (all_well_formed f xs) (row_on test g nothing (map by xs)) (row_on test f nothing xs) (row_map f g by same xs) (right_map f g by same xs) (ap (λ on t. on t || test t) (last_map f g by same nothing xs))

-- a tree that is read, with what is read of the marked trees behind it
pub chain_map : {T M X : Type 0} (test : T → Bool) (mark : Form T M) (read : X → TreeFacts T) (x : X) (ps : List (M × X)) → reading (chain test mark given) (read x, map (λ p. (p.0, read p.1)) ps) ≡ reading (chain test mark (seen read)) (x, ps)
chain_map test mark read x ps = trail_map test (seen read) (both mark (seen read)) given (both mark given) (λ p. (p.0, read p.1)) (λ p. refl) (read x) x ps refl

-- lists whose later trees stand on lines of their own
lines_right_map : {T X Y : Type 0} (next : T → Bool) (f : Form T X) (g : Form T Y) (by : X → Y) → SameBy f g by → (xs : List X) → lines_well_formed next g (map by xs) ≡ lines_well_formed next f xs
lines_right_map next f g by same [] = refl
lines_right_map next f g by same (x ∷ xs) = ap (λ r. r.is_well_formed && all_well_formed (beginning next g) (map by xs)) (same x) ∙ ap (λ b. f.is_well_formed x && b) (right_map (beginning next f) (beginning next g) by (λ z. ap (λ r. made_reading r.tokens (r.is_well_formed && begins_by next r.tokens) r.continues) (same z)) xs)

lines_on_map : {T X Y : Type 0} (starts next : T → Bool) (f : Form T X) (g : Form T Y) (by : X → Y) → SameBy f g by → (xs : List X) → lines_on starts next g (map by xs) ≡ lines_on starts next f xs
lines_on_map starts next f g by same [] = refl
lines_on_map starts next f g by same (x ∷ xs) = ap (λ r. row_on next g r.continues (map by xs)) (same x) ∙ ap (λ on t. on t || next t) (last_map f g by same (f.continues x) xs)

pub lines_map : {T X Y : Type 0} (starts next : T → Bool) (f : Form T X) (g : Form T Y) (by : X → Y) → SameBy f g by → (xs : List X) → reading (lines starts next g) (map by xs) ≡ reading (lines starts next f) xs
lines_map starts next f g by same xs = reading_is (in_row g (map by xs)) (in_row f xs) (lines_well_formed next g (map by xs)) (lines_well_formed next f xs) (lines_on starts next g (map by xs)) (lines_on starts next f xs) (row_map f g by same xs) (lines_right_map next f g by same xs) (lines_on_map starts next f g by same xs)

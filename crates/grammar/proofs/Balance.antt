-- Right trees close what they open.
use Rattle.std.proofs.Common.{◌≡◌, ℕ, suc, ◌<◌, ◌+◌, ◌-◌, Bool, true, false, ◌&&◌, not, cond, List, [], ◌∷◌, ◌++◌, length, refl, ◌∙◌, ap, subst, arith, Option, Some, None, inl, inr}
use Rattle.std.proofs.lemmas.Bool.{and_parts, and_from}
use Rattle.grammar.specs.Forms.{Form, begins_by, token, both, both_on, perhaps, perhaps_tokens, perhaps_well_formed, once, either, beginning, narrow, in_row, all_well_formed, many, trail, chain, lines, lines_well_formed, until, until_well_formed, labelled, labelled_tokens, labelled_well_formed}
use Rattle.grammar.specs.Faults.{AreDisjoint, IsSubset}
use Rattle.grammar.proofs.Basics.{part_small, rest_small}
use Rattle.grammar.specs.Levels.{level, level_after, BalancedTo, Balanced, Plain}
use Rattle.grammar.specs.Shows.{Shows}

pub after_append : {T : Type 0} (opens closes : T → Bool) (d : ℕ) (a b : List T) → level_after opens closes d (a ++ b) ≡ level_after opens closes (level_after opens closes d a) b
after_append opens closes d [] b = refl
after_append opens closes d (t ∷ a) b = after_append opens closes (level opens closes d t) a b

level_plain : {T : Type 0} (opens closes : T → Bool) (d : ℕ) (t : T) → opens t ≡ false → closes t ≡ false → level opens closes d t ≡ d
level_plain opens closes d t o c = ap (λ b. cond b (d + 1) (cond (closes t) (d - 1) d)) o ∙ ap (λ b. cond b (d - 1) d) c

pub level_opens : {T : Type 0} (opens closes : T → Bool) (d : ℕ) (t : T) → opens t ≡ true → level opens closes d t ≡ d + 1
level_opens opens closes d t o = ap (λ b. cond b (d + 1) (cond (closes t) (d - 1) d)) o

level_closes : {T : Type 0} (opens closes : T → Bool) (d : ℕ) (t : T) → opens t ≡ false → closes t ≡ true → level opens closes d t ≡ d - 1
level_closes opens closes d t o c = ap (λ b. cond b (d + 1) (cond (closes t) (d - 1) d)) o ∙ ap (λ b. cond b (d - 1) d) c

pub token_balanced : {T : Type 0} (opens closes test : T → Bool) (n : ℕ) → Plain opens closes test → BalancedTo opens closes n (token test)
token_balanced opens closes test n plain t d small r = level_plain opens closes d t ((plain t r).0) ((plain t r).1)

pub none_balanced : {T X : Type 0} (opens closes : T → Bool) (f : Form T X) → BalancedTo opens closes 0 f
none_balanced opens closes f x d small r = absurd (omega arith)

pub balanced_to : {T X : Type 0} (opens closes : T → Bool) (f : Form T X) → Balanced opens closes f → (n : ℕ) → BalancedTo opens closes n f
balanced_to opens closes f balanced n x d small r = balanced x d r

pub balanced_of_any : {T X : Type 0} (opens closes : T → Bool) (f : Form T X) → ((n : ℕ) → BalancedTo opens closes n f) → Balanced opens closes f
balanced_of_any opens closes f balanced x d r = balanced (suc (length (f.tokens x))) x d (omega arith) r

pub both_balanced : {T X Y : Type 0} (opens closes : T → Bool) (f : Form T X) (g : Form T Y) (n : ℕ) → BalancedTo opens closes n f → BalancedTo opens closes n g → BalancedTo opens closes n (both f g)
both_balanced opens closes f g n bf bg x d small r =
    let r2 = and_parts (f.is_well_formed x.0) (g.is_well_formed x.1) r in
    after_append opens closes d (f.tokens x.0) (g.tokens x.1) ∙ ap (λ k. level_after opens closes k (g.tokens x.1)) (bf x.0 d (part_small (f.tokens x.0) (g.tokens x.1) n small) r2.0) ∙ bg x.1 d (rest_small (f.tokens x.0) (g.tokens x.1) n small) r2.1

-- a token that is no bracket pays for a step
pub headed_balanced : {T X : Type 0} (opens closes test : T → Bool) (f : Form T X) (n : ℕ) → Plain opens closes test → BalancedTo opens closes n f → BalancedTo opens closes (suc n) (both (token test) f)
headed_balanced opens closes test f n plain bf x d small r =
    let r2 = and_parts (test x.0) (f.is_well_formed x.1) r in
    let p = plain x.0 r2.0 in
    ap (λ k. level_after opens closes k (f.tokens x.1)) (level_plain opens closes d x.0 p.0 p.1) ∙ bf x.1 d (omega arith) r2.1

pub row_balanced : {T X : Type 0} (opens closes : T → Bool) (f : Form T X) (n : ℕ) → BalancedTo opens closes n f → (xs : List X) (d : ℕ) → length (in_row f xs) < n → all_well_formed f xs ≡ true → level_after opens closes d (in_row f xs) ≡ d
row_balanced opens closes f n bf [] d small r = refl
row_balanced opens closes f n bf (x ∷ xs) d small r =
    let r2 = and_parts (f.is_well_formed x) (all_well_formed f xs) r in
    after_append opens closes d (f.tokens x) (in_row f xs) ∙ ap (λ k. level_after opens closes k (in_row f xs)) (bf x d (part_small (f.tokens x) (in_row f xs) n small) r2.0) ∙ row_balanced opens closes f n bf xs d (rest_small (f.tokens x) (in_row f xs) n small) r2.1

pub many_balanced : {T X : Type 0} (opens closes test : T → Bool) (f : Form T X) (n : ℕ) → BalancedTo opens closes n f → BalancedTo opens closes n (many test f)
many_balanced opens closes test f n bf xs d small r = row_balanced opens closes f n bf xs d small r

pub trail_balanced : {T X Y : Type 0} (opens closes test : T → Bool) (f : Form T X) (g : Form T Y) (n : ℕ) → BalancedTo opens closes n f → BalancedTo opens closes n g → BalancedTo opens closes n (trail test f g)
trail_balanced opens closes test f g n bf bg x d small r =
    let r2 = and_parts (f.is_well_formed x.0) (all_well_formed g x.1) r in
    after_append opens closes d (f.tokens x.0) (in_row g x.1) ∙ ap (λ k. level_after opens closes k (in_row g x.1)) (bf x.0 d (part_small (f.tokens x.0) (in_row g x.1) n small) r2.0) ∙ row_balanced opens closes g n bg x.1 d (rest_small (f.tokens x.0) (in_row g x.1) n small) r2.1

pub chain_balanced : {T M X : Type 0} (opens closes test : T → Bool) (mark : Form T M) (f : Form T X) (n : ℕ) → BalancedTo opens closes n mark → BalancedTo opens closes n f → BalancedTo opens closes n (chain test mark f)
chain_balanced opens closes test mark f n bm bf = trail_balanced opens closes test f (both mark f) n bf (both_balanced opens closes mark f n bm bf)

beginning_all : {T X : Type 0} (next : T → Bool) (f : Form T X) (xs : List X) → all_well_formed (beginning next f) xs ≡ true → all_well_formed f xs ≡ true
beginning_all next f [] r = refl
beginning_all next f (x ∷ xs) r =
    let r2 = and_parts (f.is_well_formed x && begins_by next (f.tokens x)) (all_well_formed (beginning next f) xs) r in
    and_from (f.is_well_formed x) _ ((and_parts (f.is_well_formed x) (begins_by next (f.tokens x)) r2.0).0) (beginning_all next f xs r2.1)

lines_all : {T X : Type 0} (next : T → Bool) (f : Form T X) (xs : List X) → lines_well_formed next f xs ≡ true → all_well_formed f xs ≡ true
lines_all next f [] r = refl
lines_all next f (x ∷ xs) r = let r2 = and_parts (f.is_well_formed x) (all_well_formed (beginning next f) xs) r in and_from (f.is_well_formed x) _ r2.0 (beginning_all next f xs r2.1)

pub lines_balanced : {T X : Type 0} (opens closes starts next : T → Bool) (f : Form T X) (n : ℕ) → BalancedTo opens closes n f → BalancedTo opens closes n (lines starts next f)
lines_balanced opens closes starts next f n bf xs d small r = row_balanced opens closes f n bf xs d small (lines_all next f xs r)

until_all : {T X : Type 0} (stop : X → Bool) (f : Form T X) (going : Bool) (xs : List X) → until_well_formed stop f going xs ≡ true → all_well_formed f xs ≡ true
until_all stop f going [] r = refl
until_all stop f going (x ∷ xs) r =
    let r2 = and_parts (f.is_well_formed x) (until_well_formed stop f (not (stop x)) xs) ((and_parts going (f.is_well_formed x && until_well_formed stop f (not (stop x)) xs) r).1) in
    and_from (f.is_well_formed x) _ r2.0 (until_all stop f (not (stop x)) xs r2.1)

pub until_balanced : {T X : Type 0} (opens closes test : T → Bool) (stop : X → Bool) (f : Form T X) (n : ℕ) → BalancedTo opens closes n f → BalancedTo opens closes n (until test stop f)
until_balanced opens closes test stop f n bf xs d small r = row_balanced opens closes f n bf xs d small (until_all stop f true xs r)

pub perhaps_balanced : {T X : Type 0} (opens closes test : T → Bool) (f : Form T X) (n : ℕ) → BalancedTo opens closes n f → BalancedTo opens closes n (perhaps test f)
perhaps_balanced opens closes test f n bf None d small r = refl
perhaps_balanced opens closes test f n bf (Some x) d small r = bf x d small r

once_balanced_at : {T Y : Type 0} (opens closes : T → Bool) (g : Form T Y) (n : ℕ) → BalancedTo opens closes n g → (o : Option Y) (d : ℕ) → length (perhaps_tokens g o) < n → perhaps_well_formed g o ≡ true → level_after opens closes d (perhaps_tokens g o) ≡ d
once_balanced_at opens closes g n bg None d small r = refl
once_balanced_at opens closes g n bg (Some y) d small r = bg y d small r

pub once_balanced : {T X Y : Type 0} (opens closes test : T → Bool) (f : Form T X) (g : Form T Y) (n : ℕ) → BalancedTo opens closes n f → BalancedTo opens closes n g → BalancedTo opens closes n (once test f g)
once_balanced opens closes test f g n bf bg x d small r =
    let r2 = and_parts (f.is_well_formed x.0) (perhaps_well_formed g x.1) r in
    after_append opens closes d (f.tokens x.0) (perhaps_tokens g x.1) ∙ ap (λ k. level_after opens closes k (perhaps_tokens g x.1)) (bf x.0 d (part_small (f.tokens x.0) (perhaps_tokens g x.1) n small) r2.0) ∙ once_balanced_at opens closes g n bg x.1 d (rest_small (f.tokens x.0) (perhaps_tokens g x.1) n small) r2.1

pub either_balanced : {T X Y : Type 0} (opens closes : T → Bool) (f : Form T X) (g : Form T Y) (n : ℕ) → BalancedTo opens closes n f → BalancedTo opens closes n g → BalancedTo opens closes n (either f g)
either_balanced opens closes f g n bf bg (inl x) d small r = bf x d small r
either_balanced opens closes f g n bf bg (inr y) d small r = bg y d small r

labelled_balanced_at : {T X : Type 0} (opens closes name colon : T → Bool) (f : Form T X) (n : ℕ) → Plain opens closes name → Plain opens closes colon → BalancedTo opens closes n f → (o : Option (T × T)) (x : X) (d : ℕ) → length (labelled_tokens f o x) < n → labelled_well_formed name colon f o x ≡ true → level_after opens closes d (labelled_tokens f o x) ≡ d
labelled_balanced_at opens closes name colon f n pn pc bf None x d small r = bf x d small r
labelled_balanced_at opens closes name colon f n pn pc bf (Some p) x d small r =
    let r1 = and_parts (name p.0) (colon p.1 && f.is_well_formed x) r in
    let r2 = and_parts (colon p.1) (f.is_well_formed x) r1.1 in
    let a = pn p.0 r1.0 in
    let b = pc p.1 r2.0 in
    ap (λ k. level_after opens closes (level opens closes k p.1) (f.tokens x)) (level_plain opens closes d p.0 a.0 a.1) ∙ ap (λ k. level_after opens closes k (f.tokens x)) (level_plain opens closes d p.1 b.0 b.1) ∙ bf x d (omega arith) r2.1

pub labelled_balanced : {T X : Type 0} (opens closes name colon : T → Bool) (f : Form T X) (n : ℕ) → Plain opens closes name → Plain opens closes colon → BalancedTo opens closes n f → BalancedTo opens closes n (labelled name colon f)
labelled_balanced opens closes name colon f n pn pc bf x d small r = labelled_balanced_at opens closes name colon f n pn pc bf x.0 x.1 d small r

pub beginning_balanced : {T X : Type 0} (opens closes test : T → Bool) (f : Form T X) (n : ℕ) → BalancedTo opens closes n f → BalancedTo opens closes n (beginning test f)
beginning_balanced opens closes test f n bf x d small r = bf x d small ((and_parts (f.is_well_formed x) (begins_by test (f.tokens x)) r).0)

pub narrow_balanced : {T X : Type 0} (opens closes : T → Bool) (passes : X → Bool) (f : Form T X) (n : ℕ) → BalancedTo opens closes n f → BalancedTo opens closes n (narrow passes f)
narrow_balanced opens closes passes f n bf x d small r = bf x d small ((and_parts (f.is_well_formed x) (passes x) r).0)

pub both_on_balanced : {T X Y : Type 0} (opens closes : T → Bool) (f : Form T X) (g : X → Form T Y) (n : ℕ) → BalancedTo opens closes n f → ((x : X) → BalancedTo opens closes n (g x)) → BalancedTo opens closes n (both_on f g)
both_on_balanced opens closes f g n bf bg x d small r =
    let r2 = and_parts (f.is_well_formed x.0) ((g x.0).is_well_formed x.1) r in
    after_append opens closes d (f.tokens x.0) ((g x.0).tokens x.1) ∙ ap (λ k. level_after opens closes k ((g x.0).tokens x.1)) (bf x.0 d (part_small (f.tokens x.0) ((g x.0).tokens x.1) n small) r2.0) ∙ bg x.0 x.1 d (rest_small (f.tokens x.0) ((g x.0).tokens x.1) n small) r2.1

-- brackets around a smaller tree
pub enclosed_balanced : {T X : Type 0} (opens closes one two : T → Bool) (f : Form T X) (n : ℕ) → IsSubset one opens → AreDisjoint two opens → IsSubset two closes → BalancedTo opens closes n f → BalancedTo opens closes (suc n) (both (token one) (both f (token two)))
enclosed_balanced opens closes one two f n opening apart closing bf x d small r =
    let r1 = and_parts (one x.0) (f.is_well_formed x.1.0 && two x.1.1) r in
    let r2 = and_parts (f.is_well_formed x.1.0) (two x.1.1) r1.1 in
    let less : length (f.tokens x.1.0 ++ (x.1.1 ∷ [])) < n = omega arith in
    ap (λ k. level_after opens closes k (f.tokens x.1.0 ++ (x.1.1 ∷ []))) (level_opens opens closes d x.0 (opening x.0 r1.0)) ∙ after_append opens closes (d + 1) (f.tokens x.1.0) (x.1.1 ∷ [])
    ∙ ap (λ k. level opens closes k x.1.1) (bf x.1.0 (d + 1) (part_small (f.tokens x.1.0) (x.1.1 ∷ []) n less) r2.0) ∙ level_closes opens closes (d + 1) x.1.1 (apart x.1.1 r2.1) (closing x.1.1 r2.1) ∙ omega arith

-- brackets around a tree, and a tree behind them
pub around_balanced : {T X Y : Type 0} (opens closes one two : T → Bool) (f : Form T X) (g : Form T Y) (n : ℕ) → IsSubset one opens → AreDisjoint two opens → IsSubset two closes → BalancedTo opens closes n f → BalancedTo opens closes n g → BalancedTo opens closes n (both (token one) (both f (both (token two) g)))
around_balanced opens closes one two f g n opening apart closing bf bg x d small r =
    let r1 = and_parts (one x.0) (f.is_well_formed x.1.0 && (two x.1.1.0 && g.is_well_formed x.1.1.1)) r in
    let r2 = and_parts (f.is_well_formed x.1.0) (two x.1.1.0 && g.is_well_formed x.1.1.1) r1.1 in
    let r3 = and_parts (two x.1.1.0) (g.is_well_formed x.1.1.1) r2.1 in
    let less : length (f.tokens x.1.0 ++ (x.1.1.0 ∷ g.tokens x.1.1.1)) < n = omega arith in
    let last : length (x.1.1.0 ∷ g.tokens x.1.1.1) < n = rest_small (f.tokens x.1.0) (x.1.1.0 ∷ g.tokens x.1.1.1) n less in
    ap (λ k. level_after opens closes k (f.tokens x.1.0 ++ (x.1.1.0 ∷ g.tokens x.1.1.1))) (level_opens opens closes d x.0 (opening x.0 r1.0)) ∙ after_append opens closes (d + 1) (f.tokens x.1.0) (x.1.1.0 ∷ g.tokens x.1.1.1)
    ∙ ap (λ k. level_after opens closes (level opens closes k x.1.1.0) (g.tokens x.1.1.1)) (bf x.1.0 (d + 1) (part_small (f.tokens x.1.0) (x.1.1.0 ∷ g.tokens x.1.1.1) n less) r2.0)
    ∙ ap (λ k. level_after opens closes k (g.tokens x.1.1.1)) (level_closes opens closes (d + 1) x.1.1.0 (apart x.1.1.0 r3.0) (closing x.1.1.0 r3.0) ∙ omega arith)
    ∙ bg x.1.1.1 d (omega arith) r3.1

pub shown_balanced : {T X Y : Type 0} {F : Form T X} {f : Form T Y} {out : X → Y} {made : Y → X} (opens closes : T → Bool) (n : ℕ) → Shows F f out made → BalancedTo opens closes n f → BalancedTo opens closes n F
shown_balanced {T} {X} {Y} {F} {f} {out} {made} opens closes n s bf x d small r = ap (λ ts. level_after opens closes d ts) (s.tokens x) ∙ bf (out x) d (subst (λ ts. length ts < n) (s.tokens x) small) (s.right x r)

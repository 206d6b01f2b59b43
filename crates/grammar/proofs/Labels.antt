-- Trees with a label before them, or without.
use Rattle.std.proofs.Common.{◌≡◌, ℕ, ◌<◌, Bool, true, false, ◌&&◌, ◌||◌, List, [], ◌∷◌, ◌++◌, length, refl, sym, ◌∙◌, ap, subst, arith, Option, Some, None}
use Rattle.std.proofs.lemmas.Bool.{and_parts, and_from}
use Rattle.grammar.specs.Forms.{Form, begins_by, labelled, labelled_tokens, labelled_well_formed, labelled_on, is_single, begins_label}
use Rattle.grammar.specs.Faults.{Stops, StartsAs, Parsed, Refuses, Begins, FailsAt, IsUnambiguousBelow, IsUnambiguous, StartsWithin, IsSubset, NeverContinuesWith, ContinuesWith, Bare}
use Rattle.grammar.proofs.Basics.{or_right, both_false, stops_left, stops_or, stops_never, none_left, head_of, tail_of, pair_is, begins_at, one_of_any, one_to, one_holds}

single_is : {T : Type 0} (name : T → Bool) (t : T) (ts : List T) → ts ≡ t ∷ [] → name t ≡ true → is_single name ts ≡ true
single_is name t ts e m = subst (λ us. is_single name us ≡ true) (sym e) m

-- a bare name before a colon has stopped nowhere
label_clash : {T X : Type 0} (name colon : T → Bool) (f : Form T X) (y : X) (c : T) (rest w : List T) → is_single name (f.tokens y) ≡ true → colon c ≡ true → c ∷ rest ≡ w → Stops (λ t. f.continues y t || (is_single name (f.tokens y) && colon t)) w → ⊥
label_clash name colon f y c rest w single m e s =
    let k : (is_single name (f.tokens y) && colon c) ≡ false = or_right (f.continues y c) _ (subst (λ ts. Stops (λ t. f.continues y t || (is_single name (f.tokens y) && colon t)) ts) (sym e) s) in
    both_false (is_single name (f.tokens y) && colon c) k (and_from (is_single name (f.tokens y)) (colon c) single m)

-- a tree without a label is none with one
label_apart : {T X : Type 0} (name colon : T → Bool) (f : Form T X) (y : X) (n c : T) (rest w : List T) → Bare name f → NeverContinuesWith colon f → name n ≡ true → colon c ≡ true → f.is_well_formed y ≡ true → ((z : X) → f.tokens z ≡ n ∷ [] → f.is_well_formed z ≡ true → Stops (f.continues z) (c ∷ rest) → Stops (f.continues y) w → f.tokens z ++ (c ∷ rest) ≡ f.tokens y ++ w → (z ≡ y) × ((c ∷ rest) ≡ w)) → n ∷ (c ∷ rest) ≡ f.tokens y ++ w → Stops (λ t. f.continues y t || (is_single name (f.tokens y) && colon t)) w → ⊥
label_apart name colon f y n c rest w bare apart mn mc ry one e s =
    let b = bare n mn in
    let found = one b.tree b.spelled b.right (apart b.tree c mc) (stops_left (f.continues y) (λ t. is_single name (f.tokens y) && colon t) w s) (ap (λ ts. ts ++ (c ∷ rest)) b.spelled ∙ e) in
    label_clash name colon f y c rest w (single_is name n (f.tokens y) (ap (λ z. f.tokens z) (sym found.0) ∙ b.spelled) mn) mc found.1 s

label_pair : {T : Type 0} (p q : T × T) (v w : List T) → p.0 ∷ (p.1 ∷ v) ≡ q.0 ∷ (q.1 ∷ w) → p ≡ q
label_pair p q v w e = pair_is p q (head_of p.0 q.0 _ _ e) (head_of p.1 q.1 _ _ (tail_of p.0 q.0 _ _ e))

behind_label : {T : Type 0} (p q : T × T) (v w : List T) → p.0 ∷ (p.1 ∷ v) ≡ q.0 ∷ (q.1 ∷ w) → v ≡ w
behind_label p q v w e = tail_of p.1 q.1 v w (tail_of p.0 q.0 _ _ e)

single_small : {T : Type 0} (ts : List T) (a b : T) (us : List T) (n : ℕ) → ts ≡ a ∷ [] → length (a ∷ (b ∷ us)) < n → length ts < n
single_small ts a b us n e h = subst (λ z. length z < n) (sym e) (omega arith)

labelled_one_at : {T X : Type 0} (name colon : T → Bool) (f : Form T X) (n : ℕ) → Bare name f → NeverContinuesWith colon f → IsUnambiguousBelow n f → (a b : Option (T × T)) (x y : X) (v w : List T) → length (labelled_tokens f a x) < n → labelled_well_formed name colon f a x ≡ true → labelled_well_formed name colon f b y ≡ true → Stops (labelled_on name colon f a x) v → Stops (labelled_on name colon f b y) w → labelled_tokens f a x ++ v ≡ labelled_tokens f b y ++ w → (a ≡ b) × ((x ≡ y) × (v ≡ w))
labelled_one_at name colon f n bare apart one None None x y v w small rx ry sv sw e = (refl, one x y v w small rx ry (stops_left (f.continues x) (λ t. is_single name (f.tokens x) && colon t) v sv) (stops_left (f.continues y) (λ t. is_single name (f.tokens y) && colon t) w sw) e)
labelled_one_at name colon f n bare apart one (Some p) (Some q) x y v w small rx ry sv sw e =
    let rx2 = and_parts (name p.0) (colon p.1 && f.is_well_formed x) rx in
    let ry2 = and_parts (name q.0) (colon q.1 && f.is_well_formed y) ry in
    let found = one x y v w (omega arith) ((and_parts (colon p.1) (f.is_well_formed x) rx2.1).1) ((and_parts (colon q.1) (f.is_well_formed y) ry2.1).1) sv sw (behind_label p q (f.tokens x ++ v) (f.tokens y ++ w) e) in
    (ap (λ z. Some z) (label_pair p q (f.tokens x ++ v) (f.tokens y ++ w) e), found)
labelled_one_at name colon f n bare apart one (Some p) None x y v w small rx ry sv sw e =
    let rx2 = and_parts (name p.0) (colon p.1 && f.is_well_formed x) rx in
    absurd (label_apart name colon f y p.0 p.1 (f.tokens x ++ v) w bare apart rx2.0 ((and_parts (colon p.1) (f.is_well_formed x) rx2.1).0) ry
    (λ z k rz sz sy d. one z y (p.1 ∷ (f.tokens x ++ v)) w (single_small (f.tokens z) p.0 p.1 (f.tokens x) n k small) rz ry sz sy d) e sw)
labelled_one_at name colon f n bare apart one None (Some q) x y v w small rx ry sv sw e =
    let ry2 = and_parts (name q.0) (colon q.1 && f.is_well_formed y) ry in
    absurd (label_apart name colon f x q.0 q.1 (f.tokens y ++ w) v bare apart ry2.0 ((and_parts (colon q.1) (f.is_well_formed y) ry2.1).0) rx
    (λ z k rz sz sx d. let found = one x z v (q.1 ∷ (f.tokens y ++ w)) small rx rz sx sz (sym d) in (sym found.0, sym found.1)) (sym e) sv)

pub labelled_one : {T X : Type 0} (name colon : T → Bool) (f : Form T X) (n : ℕ) → Bare name f → NeverContinuesWith colon f → IsUnambiguousBelow n f → IsUnambiguousBelow n (labelled name colon f)
labelled_one name colon f n bare apart one x y v w small rx ry sv sw e =
    let found = labelled_one_at name colon f n bare apart one x.0 y.0 x.1 y.1 v w small rx ry sv sw e in
    (pair_is x y found.0 found.1.0, found.1.1)

bare_begun : {T X : Type 0} (name test : T → Bool) (f : Form T X) (t : T) → Bare name f → StartsWithin test f → name t ≡ true → test t ≡ true
bare_begun name test f t bare begun m = let b = bare t m in begins_at test (f.tokens b.tree) (t ∷ []) b.spelled (begun b.tree b.right)

labelled_begun_at : {T X : Type 0} (test name colon : T → Bool) (f : Form T X) → Bare name f → StartsWithin test f → (o : Option (T × T)) (x : X) → labelled_well_formed name colon f o x ≡ true → begins_by test (labelled_tokens f o x) ≡ true
labelled_begun_at test name colon f bare begun None x r = begun x r
labelled_begun_at test name colon f bare begun (Some p) x r = bare_begun name test f p.0 bare begun ((and_parts (name p.0) (colon p.1 && f.is_well_formed x) r).0)

pub labelled_begun : {T X : Type 0} (test name colon : T → Bool) (f : Form T X) → Bare name f → StartsWithin test f → StartsWithin test (labelled name colon f)
labelled_begun test name colon f bare begun x r = labelled_begun_at test name colon f bare begun x.0 x.1 r

labelled_goes_at : {T X : Type 0} (more name colon : T → Bool) (f : Form T X) → IsSubset colon more → ContinuesWith more f → (o : Option (T × T)) (x : X) (t : T) → labelled_on name colon f o x t ≡ true → more t ≡ true
labelled_goes_at more name colon f colons goes None x t h = one_holds (f.continues x t) (is_single name (f.tokens x) && colon t) (more t) (goes x t) (λ k. colons t ((and_parts (is_single name (f.tokens x)) (colon t) k).1)) h
labelled_goes_at more name colon f colons goes (Some p) x t h = goes x t h

pub labelled_goes : {T X : Type 0} (more name colon : T → Bool) (f : Form T X) → IsSubset colon more → ContinuesWith more f → ContinuesWith more (labelled name colon f)
labelled_goes more name colon f colons goes x t h = labelled_goes_at more name colon f colons goes x.0 x.1 t h

-- What a labelled tree owes for its laws.
pub record Labels {T : Type 0} {X : Type 0} (name colon : T → Bool) (f : Form T X) : Type 0 where
  pub bare : Bare name f
  pub apart : NeverContinuesWith colon f
  pub one : IsUnambiguous f

pub labels_one : {T X : Type 0} {name colon : T → Bool} {f : Form T X} → Labels name colon f → IsUnambiguous (labelled name colon f)
labels_one {T} {X} {name} {colon} {f} labels = one_of_any (labelled name colon f) (λ n. labelled_one name colon f n labels.bare labels.apart (one_to f labels.one n))

pub label_taken : {T X : Type 0} (name colon : T → Bool) (f : Form T X) (n c : T) {x : X} {ends : T → Bool} {old new : List T} → name n ≡ true → colon c ≡ true → Parsed f x ends old new → Parsed (labelled name colon f) (Some (n, c), x) ends (n ∷ (c ∷ old)) new
label_taken name colon f n c {x} {ends} {old} {new} mn mc t = record { spelled = ap (λ ts. n ∷ (c ∷ ts)) t.spelled; right = and_from (name n) _ mn (and_from (colon c) (f.is_well_formed x) mc t.right); stops = t.stops }

label_stops : {T : Type 0} (name colon : T → Bool) (ts new : List T) → begins_label name colon (ts ++ new) ≡ false → Stops (λ t. is_single name ts && colon t) new
label_stops name colon [] new h = stops_never (λ t. is_single name [] && colon t) new (λ t. refl)
label_stops name colon (t ∷ []) [] h = tt
label_stops name colon (t ∷ []) (u ∷ new) h = h
label_stops name colon (t ∷ (u ∷ ts)) new h = stops_never (λ z. is_single name (t ∷ (u ∷ ts)) && colon z) new (λ z. refl)

pub unlabelled_taken : {T X : Type 0} (name colon : T → Bool) (f : Form T X) {x : X} {old new : List T} → begins_label name colon old ≡ false → Parsed f x (f.continues x) old new → Parsed (labelled name colon f) (None, x) (labelled_on name colon f None x) old new
unlabelled_taken name colon f {x} {old} {new} h t = record { spelled = t.spelled; right = t.right; stops = stops_or (f.continues x) (λ z. is_single name (f.tokens x) && colon z) new t.stops (label_stops name colon (f.tokens x) new (subst (λ ts. begins_label name colon ts ≡ false) t.spelled h)) }

label_refuses : {T X : Type 0} (name colon : T → Bool) (f : Form T X) (n c : T) (before new : List T) → Bare name f → NeverContinuesWith colon f → IsUnambiguous f → name n ≡ true → colon c ≡ true → Refuses f before new → (o : Option (T × T)) (y : X) (v w : List T) → labelled_well_formed name colon f o y ≡ true → StartsAs new v → Stops (labelled_on name colon f o y) w → labelled_tokens f o y ++ w ≡ n ∷ (c ∷ (before ++ v)) → ⊥
label_refuses name colon f n c before new bare apart one mn mc refuses None y v w ry sv sw e =
    label_apart name colon f y n c (before ++ v) w bare apart mn mc ry (λ z k rz sz sy d. one z y (c ∷ (before ++ v)) w rz ry sz sy d) (sym e) sw
label_refuses name colon f n c before new bare apart one mn mc refuses (Some q) y v w ry sv sw e =
    let ry2 = and_parts (name q.0) (colon q.1 && f.is_well_formed y) ry in
    refuses y v w ((and_parts (colon q.1) (f.is_well_formed y) ry2.1).1) sv sw (behind_label q (n, c) (f.tokens y ++ w) (before ++ v) e)

-- behind a label and its colon the tree is refused
pub label_refused : {T X : Type 0} {name colon : T → Bool} {f : Form T X} (n c : T) {old new : List T} → Labels name colon f → name n ≡ true → colon c ≡ true → FailsAt f old new → FailsAt (labelled name colon f) (n ∷ (c ∷ old)) new
label_refused {T} {X} {name} {colon} {f} n c {old} {new} labels mn mc r = record {
  before = n ∷ (c ∷ r.before);
  spelled = ap (λ ts. n ∷ (c ∷ ts)) r.spelled;
  refuses = λ x v w rx sv sw e. label_refuses name colon f n c r.before new labels.bare labels.apart labels.one mn mc r.refuses x.0 x.1 v w rx sv sw e;
  begins = record { tree = (Some (n, c), r.begins.tree); more = r.begins.more; right = and_from (name n) _ mn (and_from (colon c) (f.is_well_formed r.begins.tree) mc r.begins.right); spelled = ap (λ ts. n ∷ (c ∷ ts)) r.begins.spelled };
}

-- what begins as a label does so with the same two tokens in front, unless the fault stands before the second
label_front : {T X : Type 0} (name colon : T → Bool) (f : Form T X) (before new v : List T) (n c : T) (rest : List T) → Bare name f → NeverContinuesWith colon f → Refuses f before new → begins_label name colon (before ++ new) ≡ false → StartsAs new v → name n ≡ true → colon c ≡ true → n ∷ (c ∷ rest) ≡ before ++ v → ⊥
label_front name colon f [] new v n c rest bare apart refuses h sv mn mc e =
    let b = bare n mn in refuses b.tree v (c ∷ rest) b.right sv (apart b.tree c mc) (ap (λ ts. ts ++ (c ∷ rest)) b.spelled ∙ e)
label_front name colon f (t ∷ []) [] v n c rest bare apart refuses h sv mn mc e = none_left c rest v (tail_of n t (c ∷ rest) v e) sv
label_front name colon f (t ∷ []) (u ∷ new) v n c rest bare apart refuses h sv mn mc e =
    let k : c ≡ u = head_of c u rest sv.0 (tail_of n t (c ∷ rest) v e ∙ sv.1) in
    both_false (name t && colon u) h (and_from (name t) (colon u) (subst (λ z. name z ≡ true) (head_of n t _ _ e) mn) (subst (λ z. colon z ≡ true) k mc))
label_front name colon f (t ∷ (u ∷ before)) new v n c rest bare apart refuses h sv mn mc e =
    let k : c ≡ u = head_of c u rest (before ++ v) (tail_of n t (c ∷ rest) _ e) in
    both_false (name t && colon u) h (and_from (name t) (colon u) (subst (λ z. name z ≡ true) (head_of n t _ _ e) mn) (subst (λ z. colon z ≡ true) k mc))

unlabelled_refuses : {T X : Type 0} (name colon : T → Bool) (f : Form T X) (before new : List T) → Bare name f → NeverContinuesWith colon f → Refuses f before new → begins_label name colon (before ++ new) ≡ false → (o : Option (T × T)) (y : X) (v w : List T) → labelled_well_formed name colon f o y ≡ true → StartsAs new v → Stops (labelled_on name colon f o y) w → labelled_tokens f o y ++ w ≡ before ++ v → ⊥
unlabelled_refuses name colon f before new bare apart refuses h None y v w ry sv sw e = refuses y v w ry sv (stops_left (f.continues y) (λ t. is_single name (f.tokens y) && colon t) w sw) e
unlabelled_refuses name colon f before new bare apart refuses h (Some q) y v w ry sv sw e =
    let ry2 = and_parts (name q.0) (colon q.1 && f.is_well_formed y) ry in
    label_front name colon f before new v q.0 q.1 (f.tokens y ++ w) bare apart refuses h sv ry2.0 ((and_parts (colon q.1) (f.is_well_formed y) ry2.1).0) e

-- where the list does not begin as a label does, the tree is refused
pub unlabelled_refused : {T X : Type 0} {name colon : T → Bool} {f : Form T X} {old new : List T} → Labels name colon f → begins_label name colon old ≡ false → FailsAt f old new → FailsAt (labelled name colon f) old new
unlabelled_refused {T} {X} {name} {colon} {f} {old} {new} labels h r = record {
  before = r.before;
  spelled = r.spelled;
  refuses = λ x v w rx sv sw e. unlabelled_refuses name colon f r.before new labels.bare labels.apart r.refuses (subst (λ ts. begins_label name colon ts ≡ false) r.spelled h) x.0 x.1 v w rx sv sw e;
  begins = record { tree = (None, r.begins.tree); more = r.begins.more; right = r.begins.right; spelled = r.begins.spelled };
}

pub labelled_some : {T X : Type 0} (name colon : T → Bool) (f : Form T X) → Begins f [] → Begins (labelled name colon f) []
labelled_some name colon f b = record { tree = (None, b.tree); more = b.more; right = b.right; spelled = b.spelled }

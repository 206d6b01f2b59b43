-- How far each part of a stream goes, and that its faults are the input's.
use Rattle.std.proofs.Common.{◌≡◌, ◌≢◌, ℕ, zero, suc, ◌+◌, ◌*◌, ◌-◌, ◌%◌, ◌^◌, ◌<◌, ◌≤◌, ◌==◌, ◌&&◌, not, Bool, true, false, List, [], ◌∷◌, ◌++◌, length, take, refl, ◌∙◌, sym, ap, arith, length-drop, length-append, ltb-false, ltb-true, le-leb, leb-true, eqb-true, nat_lt, nat_le, Ok, Err, Result, if◌then◌else◌}
use Rattle.std.proofs.lemmas.Bool.{eqb-false}
use Rattle.std.proofs.Math.Nat.{le-mul_of_pos_right}
use Rattle.bitstream.specs.declared.item.BitFault.{BitFault}
use Rattle.bitstream.specs.declared.item.BitFault.TheVariants.{Short, NoMemory}
use Rattle.bitstream.specs.declared.item.AbbrevOp.{AbbrevOp}
use Rattle.bitstream.specs.declared.item.AbbrevOp.TheVariants.{Literal, Fixed, Vbr, Array, Char6, Blob}
use Rattle.bitstream.specs.declared.cursor.Opened.{Opened}
use Rattle.bitstream.specs.Bits.{value}
use Rattle.bitstream.specs.Fields.{Input, after, fixed_at, groups_at, number, vbr_at, ◌>>=◌}
use Rattle.bitstream.specs.Spelling.{IsVbr}
use Rattle.bitstream.specs.Stream.{align_at, bytes_at, whole_bytes, blob_at, scalar_at, prefixed, numbers_at, element_of, array_at, is_array, is_blob, numbers_alone, blob_alone, behind_numbers, values_at, Values, opened_at, encoded_at, op_at, is_element_op, may_stand, ops_at, definition_at}
use Rattle.bitstream.specs.Writer.{is_scalar, is_element, is_rest, is_definition}
use Rattle.bitstream.proofs.GroupLaws.{answer, vbr-answer, vbr-none}
use Rattle.bitstream.proofs.SpellingLaws.{vbr-takes, length-spell}

-- a place further on in the same input
pub record Behind (p q : Input) : Type 0 where
  pub onward : p.at ≤ q.at
  pub whole : q.at + length q.bits ≡ p.at + length p.bits

-- reading gives something and stands further on, or it meets a fault of the input
abbrev pub Onward : {A : Type 0} → (A → Input → Type 0) → Input → Result (A × Input) BitFault → Type 0
Onward P p (Ok x) = Behind p x.1 × P x.0 x.1
Onward P p (Err e) = e ≢ NoMemory

pub same_place : (p : Input) → Behind p p
same_place p = record { onward = omega arith; whole = refl }

pub further : (p q r : Input) → Behind p q → Behind q r → Behind p r
further p q r a b = record { onward = omega (arith, a.onward, b.onward); whole = b.whole ∙ a.whole }

pub from_further : {A : Type 0} (P : A → Input → Type 0) (p q : Input) (r : Result (A × Input) BitFault) → Behind p q → Onward P q r → Onward P p r
from_further P p q (Ok x) b h = (further p q x.1 b h.0, h.1)
from_further P p q (Err e) b h = h

pub and_then : {A B : Type 0} (P : A → Input → Type 0) (Q : B → Input → Type 0) (p : Input) (r : Result (A × Input) BitFault) (f : A × Input → Result (B × Input) BitFault)
    → Onward P p r → ((x : A × Input) → Behind p x.1 → P x.0 x.1 → Onward Q x.1 (f x)) → Onward Q p (r >>= f)
and_then P Q p (Ok x) f h more = from_further Q p x.1 (f x) h.0 (more x h.0 h.1)
and_then P Q p (Err e) f h more = h

pub either : {A : Type 0} (Q : A → Input → Type 0) (p : Input) (b : Bool) (x y : Result (A × Input) BitFault)
    → (b ≡ true → Onward Q p x) → (b ≡ false → Onward Q p y) → Onward Q p (if b then x else y)
either Q p true x y f g = f refl
either Q p false x y f g = g refl

pub weaker : {A : Type 0} (P Q : A → Input → Type 0) (p : Input) (r : Result (A × Input) BitFault) → Onward P p r → ((x : A) (q : Input) → Behind p q → P x q → Q x q) → Onward Q p r
weaker P Q p (Ok x) h f = (h.0, f x.0 x.1 h.0 h.1)
weaker P Q p (Err e) h f = h

pub some_bits : (n : ℕ) (p : Input) → n ≤ length p.bits → Behind p (after n p)
some_bits n p room = record { onward = omega arith; whole = omega (arith, room, length-drop n p.bits) }

pub fixed-onward : (w : ℕ) (p : Input) → Onward (λ x q. p.at + w ≤ q.at) p (fixed_at w p)
fixed-onward w p = either (λ x q. p.at + w ≤ q.at) p (nat_lt (length p.bits) w) (Err (Short p.at)) (Ok (value (take w p.bits), after w p))
    (λ t h. cc) (λ t. (some_bits w p (ltb-false _ _ t), omega arith))

answer-fault : (start w sum shift : ℕ) (p : Input) (gs : List ℕ × Bool) (e : BitFault) → answer start w sum shift p gs ≡ Err e → e ≢ NoMemory
answer-fault start w sum shift p gs e is = by_size (nat_lt (sum + 2 ^ shift * number w gs.0) (2 ^ 64)) refl gs.1 refl
  where
    by_size : (small : Bool) → nat_lt (sum + 2 ^ shift * number w gs.0) (2 ^ 64) ≡ small → (came : Bool) → gs.1 ≡ came → e ≢ NoMemory
    by_size true s true t = let h = rw (s, t) at is in absurd cc
    by_size true s false t = let h = rw (s, t) at is in λ n. cc
    by_size false s came t = let h = rw s at is in λ n. cc

vbr-fault : (w : ℕ) (p : Input) (e : BitFault) → vbr_at w p ≡ Err e → e ≢ NoMemory
vbr-fault w p e is = answer-fault p.at w 0 0 p (groups_at w p) e (sym (vbr-answer w p) ∙ is)

vbr-width : (w n : ℕ) (front : List Bool) → IsVbr w n front → w ≤ length front
vbr-width w n front is = omega (arith, le-mul_of_pos_right w is.some_digit, ap length is.spelled, length-spell w is.digits)

pub vbr-onward : (w : ℕ) (p : Input) → Onward (λ x q. p.at + w ≤ q.at) p (vbr_at w p)
vbr-onward zero p = rw (vbr-none p) (same_place p, omega arith)
vbr-onward (suc k) p = by_result (vbr_at (suc k) p) refl
  where
    by_result : (r : Result (ℕ × Input) BitFault) → vbr_at (suc k) p ≡ r → Onward (λ x q. p.at + suc k ≤ q.at) p r
    by_result (Ok x) is =
        let t = vbr-takes (suc k) p x.1 x.0 (omega arith) is in
        let wide = vbr-width (suc k) x.0 t.0 t.1 in
        (record { onward = omega (arith, t.3); whole = omega (arith, t.3, ap length t.2, length-append t.0 (x.1).bits) }, omega (arith, t.3, wide))
    by_result (Err e) is = vbr-fault (suc k) p e is

abbrev pub Any : {A : Type 0} → A → Input → Type 0
Any x q = Unit {0}

pub align-onward : (p : Input) → Onward Any p (align_at p)
unfolding align_at
align-onward p = either Any p (nat_lt (length p.bits) ((32 - p.at % 32) % 32)) (Err (Short p.at)) (Ok (tt, after ((32 - p.at % 32) % 32) p))
    (λ t h. cc) (λ t. (some_bits ((32 - p.at % 32) % 32) p (ltb-false _ _ t), tt))

pub bytes-onward : (n : ℕ) (p : Input) → Onward Any p (bytes_at n p)
unfolding bytes_at
bytes-onward n p = either Any p (nat_lt (length p.bits) (8 * n)) (Err (Short p.at)) (Ok (whole_bytes n p.bits, after (8 * n) p))
    (λ t h. cc) (λ t. (some_bits (8 * n) p (ltb-false _ _ t), tt))

pub blob-onward : (p : Input) → Onward Any p (blob_at p)
unfolding blob_at
blob-onward p = and_then (λ x q. p.at + 6 ≤ q.at) Any p _ _ (vbr-onward 6 p) (λ count b h.
    and_then Any Any count.1 _ _ (align-onward count.1) (λ q b h.
    and_then Any Any q.1 _ _ (bytes-onward count.0 q.1) (λ bytes b h.
    and_then Any Any bytes.1 _ _ (align-onward bytes.1) (λ r b h. (same_place r.1, tt)))))

pub and_left : (a b : Bool) → (a && b) ≡ true → a ≡ true
and_left true b h = refl
and_left false b h = absurd cc

pub and_right : (a b : Bool) → (a && b) ≡ true → b ≡ true
and_right true b h = h
and_right false b h = absurd cc

pub scalar-onward : (op : AbbrevOp) (p : Input) → Onward (λ x q. is_element op ≡ true → p.at < q.at) p (scalar_at op p)
unfolding scalar_at
scalar-onward (Literal n) p = (same_place p, λ t. absurd cc)
scalar-onward (Fixed w) p = weaker (λ x q. p.at + w ≤ q.at) (λ x q. is_element (Fixed w) ≡ true → p.at < q.at) p (fixed_at w p) (fixed-onward w p)
    (λ x q b h t. omega (arith, h, leb-true 1 w (and_left (nat_le 1 w) (nat_le w 64) t)))
scalar-onward (Vbr w) p = weaker (λ x q. p.at + w ≤ q.at) (λ x q. is_element (Vbr w) ≡ true → p.at < q.at) p (vbr_at w p) (vbr-onward w p)
    (λ x q b h t. omega (arith, h, leb-true 2 w (and_left (nat_le 2 w) (nat_le w 32) t)))
scalar-onward Array p = (same_place p, λ t. absurd cc)
scalar-onward Char6 p = and_then (λ x q. p.at + 6 ≤ q.at) (λ x q. is_element Char6 ≡ true → p.at < q.at) p _ _ (fixed-onward 6 p)
    (λ x b h. (same_place x.1, λ t. omega (arith, h)))
scalar-onward Blob p = (same_place p, λ t. absurd cc)

pub prefixed-onward : {A : Type 0} (P Q : List A → Input → Type 0) (p : Input) (xs : List A) (r : Result (List A × Input) BitFault)
    → Onward P p r → ((ys : List A) (q : Input) → Behind p q → P ys q → Q (xs ++ ys) q) → Onward Q p (prefixed xs r)
prefixed-onward P Q p xs (Ok r) h f = (h.0, f r.0 r.1 h.0 h.1)
prefixed-onward P Q p xs (Err e) h f = h

-- numbers that take bits are no more than the bits between
abbrev pub NoMore : AbbrevOp → Input → List ℕ → Input → Type 0
NoMore op p xs q = is_element op ≡ true → p.at + length xs ≤ q.at

pub numbers-onward : (n : ℕ) (op : AbbrevOp) (p : Input) → Onward (NoMore op p) p (numbers_at n op p)
numbers-onward zero op p = (same_place p, λ t. omega arith)
numbers-onward (suc n) op p = and_then (λ x q. is_element op ≡ true → p.at < q.at) (NoMore op p) p _ _ (scalar-onward op p) (λ x b h.
    prefixed-onward (NoMore op x.1) (NoMore op p) x.1 (x.0 ∷ []) (numbers_at n op x.1) (numbers-onward n op x.1) (λ ys q b k t. omega (arith, h t, k t)))

pub array-onward : (ops : List AbbrevOp) (p : Input) → Onward (NoMore (element_of ops) p) p (array_at ops p)
unfolding array_at
array-onward ops p = and_then (λ x q. p.at + 6 ≤ q.at) (NoMore (element_of ops) p) p _ _ (vbr-onward 6 p) (λ count b h.
    weaker (NoMore (element_of ops) count.1) (NoMore (element_of ops) p) count.1 (numbers_at count.0 (element_of ops) count.1) (numbers-onward count.0 (element_of ops) count.1)
    (λ xs q c k t. omega (arith, h, k t)))

-- what stands behind an array is its elements' operand
pub array_rest : (op : AbbrevOp) (ops : List AbbrevOp) → is_array op ≡ true → is_rest (op ∷ ops) ≡ true → is_element (element_of ops) ≡ true
array_rest Array [] a h = absurd cc
array_rest Array (e ∷ []) a h = h
array_rest Array (e ∷ f ∷ ops) a h = absurd cc
array_rest (Literal n) ops a h = absurd cc
array_rest (Fixed w) ops a h = absurd cc
array_rest (Vbr w) ops a h = absurd cc
array_rest Char6 ops a h = absurd cc
array_rest Blob ops a h = absurd cc

pub scalar_rest : (op : AbbrevOp) (ops : List AbbrevOp) → is_array op ≡ false → is_blob op ≡ false → is_rest (op ∷ ops) ≡ true → is_rest ops ≡ true
scalar_rest Array ops a b h = absurd cc
scalar_rest (Literal n) ops a b h = h
scalar_rest (Fixed w) ops a b h = and_right (is_scalar (Fixed w)) (is_rest ops) h
scalar_rest (Vbr w) ops a b h = and_right (is_scalar (Vbr w)) (is_rest ops) h
scalar_rest Char6 ops a b h = h
scalar_rest Blob ops a b h = absurd cc

pub definition_rest : (ops : List AbbrevOp) → is_definition ops ≡ true → is_rest ops ≡ true
definition_rest [] h = refl
definition_rest (Array ∷ ops) h = absurd cc
definition_rest (Literal n ∷ ops) h = h
definition_rest (Fixed w ∷ ops) h = h
definition_rest (Vbr w ∷ ops) h = h
definition_rest (Char6 ∷ ops) h = h
definition_rest (Blob ∷ ops) h = absurd cc

-- the numbers of a record are no more than its abbreviation's operands and the bits between
abbrev pub FewValues : List AbbrevOp → Input → Values → Input → Type 0
FewValues ops p v q = p.at + length v.numbers ≤ length ops + q.at

numbers_alone-onward : (op : AbbrevOp) (ops : List AbbrevOp) (p : Input) (r : Result (List ℕ × Input) BitFault) → is_element op ≡ true → Onward (NoMore op p) p r → Onward (FewValues ops p) p (numbers_alone r)
numbers_alone-onward op ops p (Ok xs) t h = (h.0, omega (arith, h.1 t))
numbers_alone-onward op ops p (Err e) t h = h

blob_alone-onward : (ops : List AbbrevOp) (p : Input) (r : Result (List ℕ × Input) BitFault) → Onward Any p r → Onward (FewValues ops p) p (blob_alone r)
blob_alone-onward ops p (Ok xs) h = (h.0, omega (arith, (h.0).onward))
blob_alone-onward ops p (Err e) h = h

behind_numbers-onward : (P Q : Values → Input → Type 0) (p : Input) (xs : List ℕ) (r : Result (Values × Input) BitFault)
    → Onward P p r → ((v : Values) (q : Input) → P v q → Q (record { numbers = xs ++ v.numbers; blob = v.blob }) q) → Onward Q p (behind_numbers xs r)
behind_numbers-onward P Q p xs (Ok r) h f = (h.0, f r.0 r.1 h.1)
behind_numbers-onward P Q p xs (Err e) h f = h

pub values-onward : (ops : List AbbrevOp) (p : Input) → is_rest ops ≡ true → Onward (FewValues ops p) p (values_at ops p)
values-onward [] p h = (same_place p, omega arith)
values-onward (op ∷ ops) p h =
    either (FewValues (op ∷ ops) p) p (is_array op) _ _
    (λ a. numbers_alone-onward (element_of ops) (op ∷ ops) p (array_at ops p) (array_rest op ops a h) (array-onward ops p))
    (λ a. either (FewValues (op ∷ ops) p) p (is_blob op) _ _
    (λ b. blob_alone-onward (op ∷ ops) p (blob_at p) (blob-onward p))
    (λ b. and_then Any (FewValues (op ∷ ops) p) p _ _ (weaker _ Any p (scalar_at op p) (scalar-onward op p) (λ x q b h. tt)) (λ x o u.
    behind_numbers-onward (FewValues ops x.1) (FewValues (op ∷ ops) p) x.1 (x.0 ∷ []) (values_at ops x.1) (values-onward ops x.1 (scalar_rest op ops a b h))
    (λ v q k. omega (arith, k, o.onward)))))

-- an operand that was read may stand alone, or is an array or a blob
abbrev pub MayBe : AbbrevOp → Type 0
MayBe op = is_array op ≡ false → is_blob op ≡ false → is_scalar op ≡ true

from_two : (w : ℕ) → (w ≡ 0 → ⊥) → (w ≡ 1 → ⊥) → 2 ≤ w
from_two zero a b = absurd (a refl)
from_two (suc zero) a b = absurd (b refl)
from_two (suc (suc w)) a b = omega arith

vbr_may_be : (w : ℕ) → (w == 1) ≡ false → w ≤ 32 → is_scalar (Vbr w) ≡ true
vbr_may_be w one top = by_zero (w == 0) refl
  where
    by_zero : (none : Bool) → (w == 0) ≡ none → is_scalar (Vbr w) ≡ true
    by_zero true t = rw t refl
    by_zero false t = let two : 2 ≤ w = from_two w (eqb-false w 0 t) (eqb-false w 1 one) in rw (t, le-leb 2 w two, le-leb w 32 top) refl

pub encoded-onward : (entered at e : ℕ) (p : Input) → Onward (λ op q. MayBe op) p (encoded_at entered at e p)
unfolding encoded_at
encoded-onward entered at e p =
    let Q : AbbrevOp → Input → Type 0 = λ op q. MayBe op in
    either Q p (e == 1) _ _ (λ t. and_then (λ w q. p.at + 5 ≤ q.at) Q p _ _ (vbr-onward 5 p) (λ w b h.
    either Q w.1 (nat_lt 64 w.0) _ _ (λ t h. cc) (λ t. (same_place w.1, λ a b. le-leb w.0 64 (ltb-false _ _ t)))))
    (λ t. either Q p (e == 2) _ _ (λ t. and_then (λ w q. p.at + 5 ≤ q.at) Q p _ _ (vbr-onward 5 p) (λ w b h.
    either Q w.1 (w.0 == 1) _ _ (λ t h. cc) (λ one. either Q w.1 (nat_lt 32 w.0) _ _ (λ t h. cc) (λ t. (same_place w.1, λ a b. vbr_may_be w.0 one (ltb-false _ _ t))))))
    (λ t. either Q p (e == 3) _ _ (λ t. (same_place p, λ a b. absurd cc))
    (λ t. either Q p (e == 4) _ _ (λ t. (same_place p, λ a b. refl))
    (λ t. either Q p (e == 5) _ _ (λ t. (same_place p, λ a b. absurd cc)) (λ t h. cc)))))

pub op-onward : (entered : ℕ) (p : Input) → Onward (λ op q. (p.at < q.at) × MayBe op) p (op_at entered p)
unfolding op_at
op-onward entered p =
    let Q : AbbrevOp → Input → Type 0 = λ op q. (p.at < q.at) × MayBe op in
    and_then (λ x q. p.at + 1 ≤ q.at) Q p _ _ (fixed-onward 1 p) (λ flag b h.
    either Q flag.1 (flag.0 == 1) _ _
    (λ t. and_then (λ x q. (flag.1).at + 8 ≤ q.at) Q flag.1 _ _ (vbr-onward 8 flag.1) (λ v c k. (same_place v.1, (omega (arith, h, k), λ a b. refl))))
    (λ t. and_then (λ x q. (flag.1).at + 3 ≤ q.at) Q flag.1 _ _ (fixed-onward 3 flag.1) (λ e c k.
    weaker (λ op q. MayBe op) Q e.1 _ (encoded-onward entered (flag.1).at e.0 e.1) (λ op q o m. (omega (arith, h, k, o.onward), m)))))

-- what operands are, where they begin a definition, stand in one, or stand behind its array
abbrev pub StandAs : Bool → Bool → ℕ → List AbbrevOp → Type 0
StandAs first true n ops = (length ops ≡ n) × ((e : AbbrevOp) (rest : List AbbrevOp) → ops ≡ e ∷ rest → is_element e ≡ true)
StandAs first false n ops = (length ops ≡ n) × (is_rest ops ≡ true) × (first ≡ true → 0 < n → is_definition ops ≡ true)

abbrev pub Defines : Bool → Bool → ℕ → Input → List AbbrevOp → Input → Type 0
Defines first in_array n p ops q = (p.at + length ops ≤ q.at) × StandAs first in_array n ops

no_ops : (ops : List AbbrevOp) → length ops ≡ 0 → ops ≡ []
no_ops [] h = refl
no_ops (op ∷ ops) h = absurd (omega (arith, h))

one_op : (ops : List AbbrevOp) → length ops ≡ 1 → (e : AbbrevOp) × (ops ≡ e ∷ [])
one_op [] h = absurd (omega (arith, h))
one_op (op ∷ []) h = (op, refl)
one_op (op ∷ e ∷ ops) h = absurd (omega (arith, h))

-- an operand that may stand as an array's elements' one
element_is : (op : AbbrevOp) → is_element_op op ≡ true → MayBe op → is_element op ≡ true
element_is (Literal n) t m = absurd cc
element_is (Fixed w) t m = let low = ltb-true 0 w t in rw (le-leb 1 w (omega (arith, low))) (m refl refl)
element_is (Vbr w) t m = let low = ltb-true 0 w t in by_zero (w == 0) refl low (m refl refl)
  where
    by_zero : (none : Bool) → (w == 0) ≡ none → 0 < w → is_scalar (Vbr w) ≡ true → is_element (Vbr w) ≡ true
    by_zero true z low h = absurd (omega (arith, low, eqb-true w 0 z))
    by_zero false z low h = rw z at h
element_is Array t m = absurd cc
element_is Char6 t m = refl
element_is Blob t m = absurd cc

-- one operand before others
op-stands : (first in_array : Bool) (n : ℕ) (op : AbbrevOp) (ops : List AbbrevOp) → may_stand first in_array n op ≡ true → MayBe op → StandAs false (is_array op) n ops
    → StandAs first in_array (suc n) (op ∷ ops)
op-stands first true n op ops t m s = (ap suc (length_of (is_array op) s), λ e rest is. let same : op ≡ e = cc in rw same at (element_is op t m))
  where
    length_of : (a : Bool) → StandAs false a n ops → length ops ≡ n
    length_of true s = s.0
    length_of false s = s.0
op-stands first false n Array ops t m s =
    let plain : not first ≡ true = and_left (not first) (n == 1) t in
    let last : n ≡ 1 = eqb-true n 1 (and_right (not first) (n == 1) t) in
    let one = one_op ops (s.0 ∙ last) in
    (ap suc s.0, rw one.1 (s.1 one.0 [] one.1), λ f pos. let h : not true ≡ true = rw f at plain in absurd cc)
op-stands first false n Blob ops t m s =
    let plain : not first ≡ true = and_left (not first) (n == 0) t in
    let last : n ≡ 0 = eqb-true n 0 (and_right (not first) (n == 0) t) in
    (ap suc s.0, rw (no_ops ops (s.0 ∙ last)) refl, λ f pos. let h : not true ≡ true = rw f at plain in absurd cc)
op-stands first false n (Literal k) ops t m s = (ap suc s.0, s.1, λ f pos. s.1)
op-stands first false n (Fixed w) ops t m s = let both : is_scalar (Fixed w) && is_rest ops ≡ true = rw (m refl refl, s.1) refl in (ap suc s.0, both, λ f pos. both)
op-stands first false n (Vbr w) ops t m s = let both : is_scalar (Vbr w) && is_rest ops ≡ true = rw (m refl refl, s.1) refl in (ap suc s.0, both, λ f pos. both)
op-stands first false n Char6 ops t m s = (ap suc s.0, s.1, λ f pos. s.1)

none-stand : (first in_array : Bool) → StandAs first in_array 0 []
none-stand first true = (refl, λ e rest is. absurd cc)
none-stand first false = (refl, refl, λ f pos. absurd (omega (arith, pos)))

pub ops-onward : (entered n : ℕ) (first in_array : Bool) (p : Input) → Onward (Defines first in_array n p) p (ops_at entered n first in_array p)
ops-onward entered zero first in_array p = (same_place p, (omega arith, none-stand first in_array))
ops-onward entered (suc n) first in_array p =
    let Q = Defines first in_array (suc n) p in
    and_then (λ op q. (p.at < q.at) × MayBe op) Q p _ _ (op-onward entered p) (λ op b h.
    either Q op.1 (may_stand first in_array n op.0) _ _
    (λ t. prefixed-onward (Defines false (is_array op.0) n op.1) Q op.1 (op.0 ∷ []) _ (ops-onward entered n false (is_array op.0) op.1)
    (λ ops q c k. (omega (arith, h.0, k.0), op-stands first in_array n op.0 ops t h.1 k.1)))
    (λ t h. cc))

abbrev pub IsDefinition : Input → List AbbrevOp → Input → Type 0
IsDefinition p ops q = (p.at + length ops ≤ q.at) × (is_definition ops ≡ true)

pub definition-onward : (entered : ℕ) (p : Input) → Onward (IsDefinition p) p (definition_at entered p)
unfolding definition_at
definition-onward entered p = and_then (λ x q. p.at + 5 ≤ q.at) (IsDefinition p) p _ _ (vbr-onward 5 p) (λ count b h.
    either (IsDefinition p) count.1 (count.0 == 0) _ _ (λ t h. cc)
    (λ t. weaker (Defines true false count.0 count.1) (IsDefinition p) count.1 _ (ops-onward entered count.0 true false count.1)
    (λ ops q c k. (omega (arith, h, k.0), k.1.2 refl (not_none count.0 (eqb-false count.0 0 t))))))
  where
    not_none : (n : ℕ) → (n ≡ 0 → ⊥) → 0 < n
    not_none zero h = absurd (h refl)
    not_none (suc n) h = omega arith

-- where a block is entered: its ids have two bits at least
pub opened-onward : (entered : ℕ) (p : Input) → Onward (λ o q. 2 ≤ o.width) p (opened_at entered p)
unfolding opened_at
opened-onward entered p =
    let Q : Opened → Input → Type 0 = λ o q. 2 ≤ o.width in
    and_then (λ x q. p.at + 8 ≤ q.at) Q p _ _ (vbr-onward 8 p) (λ block b h.
    either Q block.1 (nat_lt block.0 (2 ^ 32)) _ _
    (λ t. and_then (λ x q. (block.1).at + 4 ≤ q.at) Q block.1 _ _ (vbr-onward 4 block.1) (λ width b h.
    either Q width.1 (nat_lt width.0 2) _ _ (λ t h. cc) (λ low. either Q width.1 (nat_lt 32 width.0) _ _ (λ t h. cc) (λ high.
    and_then Any Q width.1 _ _ (align-onward width.1) (λ q b h.
    and_then (λ x r. (q.1).at + 32 ≤ r.at) Q q.1 _ _ (fixed-onward 32 q.1) (λ said b h.
    either Q said.1 (nat_lt (length (said.1).bits) (32 * said.0)) _ _ (λ t h. cc) (λ t. (same_place said.1, ltb-false _ _ low))))))))
    (λ t h. cc))

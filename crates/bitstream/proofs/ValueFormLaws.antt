-- The values of a record and the operands of a definition: what is written is read, and what is read is written so.
use Rattle.std.proofs.Common.{◌≡◌, ℕ, zero, suc, ◌+◌, ◌*◌, ◌^◌, ◌<◌, ◌≤◌, ◌==◌, Bool, true, false, List, [], ◌∷◌, ◌++◌, length, refl, ◌∙◌, ap, arith, le-ltb, lt-ltb, ltb-false, ltb-true, leb-true, eqb-true, nat_lt, nat_le, Ok, Err, Result, Some, None, Option, if◌then◌else◌, lit<}
use Rattle.std.proofs.lemmas.Bool.{eqb-false, ne_eqb, lt-ltb}
use Rattle.std.proofs.lemmas.List.{append-nil}
use Rattle.bitstream.specs.declared.item.BitFault.{BitFault}
use Rattle.bitstream.specs.declared.item.BitFault.TheVariants.{BadOperands, BadBlockLength}
use Rattle.bitstream.specs.declared.item.AbbrevOp.{AbbrevOp}
use Rattle.bitstream.specs.declared.item.AbbrevOp.TheVariants.{Literal, Fixed, Vbr, Array, Char6, Blob}
use Rattle.bitstream.specs.declared.cursor.Opened.{Opened}
use Rattle.bitstream.specs.Fields.{Input, fixed_at, vbr_at, ◌>>=◌}
use Rattle.bitstream.specs.Stream.{align_at, blob_at, scalar_at, prefixed, array_at, is_array, is_blob, numbers_alone, blob_alone, behind_numbers, values_at, Values, encoded_at, op_at, is_element_op, may_stand, ops_at, definition_at, opened_at}
use Rattle.bitstream.specs.Spelling.{IsVbr}
use Rattle.bitstream.specs.Writer.{is_scalar, is_element, is_rest, is_definition}
use Rattle.bitstream.specs.Stands.{BitPattern, ◌⨾◌, each, fixed_form, vbr_form, pad_form, number_form, array_form, blob_form, values_form, op_form}
use Rattle.bitstream.proofs.OnwardLaws.{and_left, and_right, array_rest, scalar_rest, MayBe}
use Rattle.bitstream.proofs.FormLaws.{AgainIf, Anywhere, Again, again-then, again-nothing, again-last, again-prefixed, Spelled, spelled-then, spelled-nothing, spelled-either, spelled-weaker, spelled-prefixed, fixed_form-again, fixed-spelled, any_vbr-again, any_vbr-spelled, pad_form-again, pad-spelled, blob_form-again, blob-spelled, moved, number-again, number-spelled, array-again, array-spelled}

again-behind : (r : Input → Result (Values × Input) BitFault) (x : ℕ) (numbers : List ℕ) (blob : Option (List ℕ)) (P : BitPattern)
    → Again r (record { numbers = numbers; blob = blob }) P → Again (λ q. behind_numbers (x ∷ []) (r q)) (record { numbers = x ∷ numbers; blob = blob }) P
again-behind r x numbers blob P h at front rest p t = ap (behind_numbers (x ∷ [])) (h at front rest p t)

-- a number before others
value-before : (op : AbbrevOp) (ops : List AbbrevOp) (n : ℕ) (numbers : List ℕ) (blob : Option (List ℕ))
    → Again (values_at ops) (record { numbers = numbers; blob = blob }) (values_form ops numbers blob)
    → Again (λ p. scalar_at op p >>= (λ x. behind_numbers (x.0 ∷ []) (values_at ops x.1))) (record { numbers = n ∷ numbers; blob = blob }) (number_form op n ⨾ values_form ops numbers blob)
value-before op ops n numbers blob more =
    again-then Anywhere (scalar_at op) (λ p x. behind_numbers (x.0 ∷ []) (values_at ops x.1)) n (λ k. record { numbers = n ∷ numbers; blob = blob }) (number_form op n) (values_form ops numbers blob) (number-again op n)
    (λ p. again-behind (values_at ops) n numbers blob (values_form ops numbers blob) more)

pub values-again : (ops : List AbbrevOp) (numbers : List ℕ) (blob : Option (List ℕ)) → Again (values_at ops) (record { numbers = numbers; blob = blob }) (values_form ops numbers blob)
values-again [] [] None at front rest is t = again-nothing (record { numbers = []; blob = None }) at front rest is t
values-again (Array ∷ ops) numbers None at front rest is t = ap numbers_alone (array-again ops numbers at front rest is t)
values-again (Blob ∷ ops) [] (Some bytes) at front rest is t = ap blob_alone (blob_form-again bytes at front rest is t)
values-again (Literal k ∷ ops) (n ∷ numbers) blob at front rest is t = value-before (Literal k) ops n numbers blob (values-again ops numbers blob) at front rest is t
values-again (Fixed w ∷ ops) (n ∷ numbers) blob at front rest is t = value-before (Fixed w) ops n numbers blob (values-again ops numbers blob) at front rest is t
values-again (Vbr w ∷ ops) (n ∷ numbers) blob at front rest is t = value-before (Vbr w) ops n numbers blob (values-again ops numbers blob) at front rest is t
values-again (Char6 ∷ ops) (n ∷ numbers) blob at front rest is t = value-before Char6 ops n numbers blob (values-again ops numbers blob) at front rest is t
values-again _ _ _ at front rest is t = absurd is

abbrev pub ValuesAre : List AbbrevOp → Input → Values → Input → List Bool → Type 0
ValuesAre ops p v q front = values_form ops v.numbers v.blob p.at front

numbers-alone-spelled : (ops : List AbbrevOp) (p : Input) (r : Result (List ℕ × Input) BitFault) → Spelled (λ xs q front. array_form ops xs p.at front) p r → Spelled (ValuesAre (Array ∷ ops) p) p (numbers_alone r)
numbers-alone-spelled ops p (Ok x) h = h
numbers-alone-spelled ops p (Err e) h = h

blob-alone-spelled : (ops : List AbbrevOp) (p : Input) (r : Result (List ℕ × Input) BitFault) → Spelled (λ bytes q front. blob_form bytes p.at front) p r → Spelled (ValuesAre (Blob ∷ ops) p) p (blob_alone r)
blob-alone-spelled ops p (Ok x) h = h
blob-alone-spelled ops p (Err e) h = h

behind-spelled : (P Q : Values → Input → List Bool → Type 0) (p : Input) (n : ℕ) (r : Result (Values × Input) BitFault)
    → Spelled P p r → ((v : Values) (q : Input) (front : List Bool) → P v q front → Q (record { numbers = n ∷ v.numbers; blob = v.blob }) q front) → Spelled Q p (behind_numbers (n ∷ []) r)
behind-spelled P Q p n (Ok r) (front, is, same, at) f = (front, f r.0 r.1 front is, same, at)
behind-spelled P Q p n (Err e) h f = tt

value-first : (op : AbbrevOp) (ops : List AbbrevOp) (p : Input) → is_array op ≡ false → is_blob op ≡ false
    → ((n : ℕ) (numbers : List ℕ) (blob : Option (List ℕ)) (at : ℕ) (front : List Bool) → (number_form op n ⨾ values_form ops numbers blob) at front → values_form (op ∷ ops) (n ∷ numbers) blob at front)
    → ((q : Input) → Spelled (ValuesAre ops q) q (values_at ops q))
    → Spelled (ValuesAre (op ∷ ops) p) p (scalar_at op p >>= (λ x. behind_numbers (x.0 ∷ []) (values_at ops x.1)))
value-first op ops p a b join more =
    spelled-then (λ n q front. number_form op n p.at front) (ValuesAre (op ∷ ops) p) p _ (λ x. behind_numbers (x.0 ∷ []) (values_at ops x.1)) (number-spelled op p a b) (λ x one is at.
    behind-spelled (ValuesAre ops x.1) (λ v q other. ValuesAre (op ∷ ops) p v q (one ++ other)) x.1 x.0 _ (more x.1)
    (λ v q other h. join x.0 v.numbers v.blob p.at (one ++ other) (one, other, is, moved (values_form ops v.numbers v.blob) _ _ other at h, refl)))

not_array : (op : AbbrevOp) → is_element op ≡ true → (is_array op ≡ false) × (is_blob op ≡ false)
not_array (Literal n) h = absurd cc
not_array (Fixed w) h = (refl, refl)
not_array (Vbr w) h = (refl, refl)
not_array Array h = absurd cc
not_array Char6 h = (refl, refl)
not_array Blob h = absurd cc

array-first : (ops : List AbbrevOp) (p : Input) → is_rest (Array ∷ ops) ≡ true → Spelled (λ xs q front. array_form ops xs p.at front) p (array_at ops p)
array-first [] p h = absurd cc
array-first (element ∷ ops) p h =
    let is : is_element element ≡ true = array_rest Array (element ∷ ops) refl h in
    array-spelled element ops p (not_array element is).0 (not_array element is).1

blob-first : (ops : List AbbrevOp) (p : Input) → is_rest (Blob ∷ ops) ≡ true → Spelled (ValuesAre (Blob ∷ ops) p) p (blob_alone (blob_at p))
blob-first ops p h = blob-alone-spelled ops p (blob_at p) (blob-spelled p)

pub values-spelled : (ops : List AbbrevOp) (p : Input) → is_rest ops ≡ true → Spelled (ValuesAre ops p) p (values_at ops p)
values-spelled [] p h = spelled-nothing (ValuesAre [] p) (record { numbers = []; blob = None }) p refl
values-spelled (Array ∷ ops) p h = numbers-alone-spelled ops p (array_at ops p) (array-first ops p h)
values-spelled (Blob ∷ ops) p h = blob-first ops p h
values-spelled (Literal k ∷ ops) p h = value-first (Literal k) ops p refl refl (λ n numbers blob at front f. f) (λ q. values-spelled ops q (scalar_rest (Literal k) ops refl refl h))
values-spelled (Fixed w ∷ ops) p h = value-first (Fixed w) ops p refl refl (λ n numbers blob at front f. f) (λ q. values-spelled ops q (scalar_rest (Fixed w) ops refl refl h))
values-spelled (Vbr w ∷ ops) p h = value-first (Vbr w) ops p refl refl (λ n numbers blob at front f. f) (λ q. values-spelled ops q (scalar_rest (Vbr w) ops refl refl h))
values-spelled (Char6 ∷ ops) p h = value-first Char6 ops p refl refl (λ n numbers blob at front f. f) (λ q. values-spelled ops q (scalar_rest Char6 ops refl refl h))

-- one operand of a definition
width-again : (entered at e w : ℕ) (op : AbbrevOp) (P : BitPattern) → Again (encoded_at entered at e) op P → Again (encoded_at entered at e) op P
width-again entered at e w op P h = h

encoding-again : (entered e : ℕ) (op : AbbrevOp) (P : BitPattern) → e < 2 ^ 3 → ((at : ℕ) → Again (encoded_at entered at e) op P) → Again (op_at entered) op (fixed_form 1 0 ⨾ fixed_form 3 e ⨾ P)
unfolding op_at
encoding-again entered e op P small more =
    again-then Anywhere (fixed_at 1)
    (λ p flag. if (flag.0 == 1) then (vbr_at 8 flag.1 >>= (λ v. Ok (Literal v.0, v.1))) else (fixed_at 3 flag.1 >>= (λ e. encoded_at entered (flag.1).at e.0 e.1)))
    0 (λ n. op) (fixed_form 1 0) (fixed_form 3 e ⨾ P) (fixed_form-again 1 0)
    (λ p. again-then Anywhere (fixed_at 3) (λ q e. encoded_at entered q.at e.0 e.1) e (λ n. op) (fixed_form 3 e) P (fixed_form-again 3 e) (λ q. more q.at))

fixed-encoded : (entered at w : ℕ) → w ≤ 64 → Again (encoded_at entered at 1) (Fixed w) (vbr_form 5 w)
unfolding encoded_at
fixed-encoded entered at w low =
    again-last (vbr_at 5) (λ p w. if nat_lt 64 w.0 then Err (BadOperands entered) else Ok (Fixed w.0, w.1)) w (Fixed w) (vbr_form 5 w) (any_vbr-again 5 w)
    (λ p q. rw (le-ltb 64 w low) refl)

vbr-encoded : (entered at w : ℕ) → (w == 1) ≡ false → w ≤ 32 → Again (encoded_at entered at 2) (Vbr w) (vbr_form 5 w)
unfolding encoded_at
vbr-encoded entered at w one low =
    again-last (vbr_at 5) (λ p w. if w.0 == 1 then Err (BadOperands entered) else if nat_lt 32 w.0 then Err (BadOperands entered) else Ok (Vbr w.0, w.1)) w (Vbr w) (vbr_form 5 w) (any_vbr-again 5 w)
    (λ p q. rw (one, le-ltb 32 w low) refl)

-- an encoding that has no width
plain-encoded : (entered e : ℕ) (op : AbbrevOp) → e < 2 ^ 3 → ((at : ℕ) (p : Input) → encoded_at entered at e p ≡ Ok (op, p)) → Again (op_at entered) op (fixed_form 1 0 ⨾ fixed_form 3 e)
unfolding op_at
plain-encoded entered e op small more =
    again-then Anywhere (fixed_at 1)
    (λ p flag. if (flag.0 == 1) then (vbr_at 8 flag.1 >>= (λ v. Ok (Literal v.0, v.1))) else (fixed_at 3 flag.1 >>= (λ e. encoded_at entered (flag.1).at e.0 e.1)))
    0 (λ n. op) (fixed_form 1 0) (fixed_form 3 e) (fixed_form-again 1 0)
    (λ p. again-last (fixed_at 3) (λ q e. encoded_at entered q.at e.0 e.1) e op (fixed_form 3 e) (fixed_form-again 3 e) (λ q r. more q.at r))

array-encoded : (entered at : ℕ) (p : Input) → encoded_at entered at 3 p ≡ Ok (Array, p)
unfolding encoded_at
array-encoded entered at p = refl

char6-encoded : (entered at : ℕ) (p : Input) → encoded_at entered at 4 p ≡ Ok (Char6, p)
unfolding encoded_at
char6-encoded entered at p = refl

blob-encoded : (entered at : ℕ) (p : Input) → encoded_at entered at 5 p ≡ Ok (Blob, p)
unfolding encoded_at
blob-encoded entered at p = refl

literal-again : (entered k : ℕ) → Again (op_at entered) (Literal k) (fixed_form 1 1 ⨾ vbr_form 8 k)
unfolding op_at
literal-again entered k =
    again-then Anywhere (fixed_at 1)
    (λ p flag. if (flag.0 == 1) then (vbr_at 8 flag.1 >>= (λ v. Ok (Literal v.0, v.1))) else (fixed_at 3 flag.1 >>= (λ e. encoded_at entered (flag.1).at e.0 e.1)))
    1 (λ n. Literal k) (fixed_form 1 1) (vbr_form 8 k) (fixed_form-again 1 1)
    (λ p. again-last (vbr_at 8) (λ q v. Ok (Literal v.0, v.1)) k (Literal k) (vbr_form 8 k) (any_vbr-again 8 k) (λ q r. refl))

not_one : (w : ℕ) → is_scalar (Vbr w) ≡ true → ((w == 1) ≡ false) × (w ≤ 32)
not_one zero h = (refl, omega arith)
not_one (suc zero) h = absurd cc
not_one (suc (suc w)) h = (ne_eqb (suc (suc w)) 1 (λ e. absurd (omega (arith, e))), leb-true (suc (suc w)) 32 (and_right (nat_le 2 (suc (suc w))) (nat_le (suc (suc w)) 32) (rw (none (suc w)) at h)))
  where
    none : (k : ℕ) → (suc k == 0) ≡ false
    none k = ne_eqb (suc k) 0 (λ e. absurd (omega (arith, e)))

pub op-again : (entered : ℕ) (op : AbbrevOp) → MayBe op → Again (op_at entered) op (op_form op)
op-again entered (Literal k) m = literal-again entered k
op-again entered (Fixed w) m = encoding-again entered 1 (Fixed w) (vbr_form 5 w) (lit< tt) (λ at. fixed-encoded entered at w (leb-true w 64 (m refl refl)))
op-again entered (Vbr w) m = let may = not_one w (m refl refl) in encoding-again entered 2 (Vbr w) (vbr_form 5 w) (lit< tt) (λ at. vbr-encoded entered at w may.0 may.1)
op-again entered Array m = plain-encoded entered 3 Array (lit< tt) (array-encoded entered)
op-again entered Char6 m = plain-encoded entered 4 Char6 (lit< tt) (char6-encoded entered)
op-again entered Blob m = plain-encoded entered 5 Blob (lit< tt) (blob-encoded entered)

-- what an operand is written as behind its encoding
abbrev pub EncodedAs : ℕ → AbbrevOp → List Bool → Type 0
EncodedAs e (Literal k) front = ⊥
EncodedAs e (Fixed w) front = (e ≡ 1) × IsVbr 5 w front
EncodedAs e (Vbr w) front = (e ≡ 2) × IsVbr 5 w front
EncodedAs e Array front = (e ≡ 3) × (front ≡ [])
EncodedAs e Char6 front = (e ≡ 4) × (front ≡ [])
EncodedAs e Blob front = (e ≡ 5) × (front ≡ [])

pub encoded-spelled : (entered at e : ℕ) (p : Input) → Spelled (λ op q front. EncodedAs e op front) p (encoded_at entered at e p)
unfolding encoded_at
encoded-spelled entered at e p =
    let Q : AbbrevOp → Input → List Bool → Type 0 = λ op q front. EncodedAs e op front in
    spelled-either Q p (e == 1) _ _ (λ t. spelled-then (λ n q front. vbr_form 5 n p.at front) Q p _ _ (any_vbr-spelled 5 p) (λ w one is at.
    spelled-either (λ op q other. Q op q (one ++ other)) w.1 (nat_lt 64 w.0) _ _ (λ u. tt) (λ u. spelled-nothing (λ op q other. Q op q (one ++ other)) (Fixed w.0) w.1 (rw (append-nil one) (eqb-true e 1 t, is)))))
    (λ t. spelled-either Q p (e == 2) _ _ (λ t. spelled-then (λ n q front. vbr_form 5 n p.at front) Q p _ _ (any_vbr-spelled 5 p) (λ w one is at.
    spelled-either (λ op q other. Q op q (one ++ other)) w.1 (w.0 == 1) _ _ (λ u. tt) (λ u.
    spelled-either (λ op q other. Q op q (one ++ other)) w.1 (nat_lt 32 w.0) _ _ (λ u. tt) (λ u. spelled-nothing (λ op q other. Q op q (one ++ other)) (Vbr w.0) w.1 (rw (append-nil one) (eqb-true e 2 t, is))))))
    (λ t. spelled-either Q p (e == 3) _ _ (λ t. spelled-nothing Q Array p (eqb-true e 3 t, refl))
    (λ t. spelled-either Q p (e == 4) _ _ (λ t. spelled-nothing Q Char6 p (eqb-true e 4 t, refl))
    (λ t. spelled-either Q p (e == 5) _ _ (λ t. spelled-nothing Q Blob p (eqb-true e 5 t, refl)) (λ t. tt)))))

small_flag : (f : ℕ) → f < 2 ^ 1 → (f == 1) ≡ false → f ≡ 0
small_flag f low h = let other = eqb-false f 1 h in none f low other
  where
    none : (f : ℕ) → f < 2 ^ 1 → (f ≡ 1 → ⊥) → f ≡ 0
    none zero low o = refl
    none (suc zero) low o = absurd (o refl)
    none (suc (suc f)) low o = absurd (omega (arith, low))

op-written : (op : AbbrevOp) (at e : ℕ) (one two three : List Bool) → fixed_form 1 0 at one → fixed_form 3 e at two → EncodedAs e op three → op_form op at (one ++ (two ++ three))
op-written (Literal k) at e one two three a b h = absurd h
op-written (Fixed w) at e one two three a b h = (one, two ++ three, a, (two, three, rw h.0 at b, h.1, refl), refl)
op-written (Vbr w) at e one two three a b h = (one, two ++ three, a, (two, three, rw h.0 at b, h.1, refl), refl)
op-written Array at e one two three a b h = rw (h.1, append-nil two) (one, two, a, rw h.0 at b, refl)
op-written Char6 at e one two three a b h = rw (h.1, append-nil two) (one, two, a, rw h.0 at b, refl)
op-written Blob at e one two three a b h = rw (h.1, append-nil two) (one, two, a, rw h.0 at b, refl)

pub op-spelled : (entered : ℕ) (p : Input) → Spelled (λ op q front. op_form op p.at front) p (op_at entered p)
unfolding op_at
op-spelled entered p =
    let R : AbbrevOp → Input → List Bool → Type 0 = λ op q front. op_form op p.at front in
    spelled-then (λ n q front. fixed_form 1 n p.at front) R p _ _ (fixed-spelled 1 p) (λ flag one is at.
    spelled-either (λ op q other. R op q (one ++ other)) flag.1 (flag.0 == 1) _ _
    (λ t. spelled-then (λ n q front. vbr_form 8 n (flag.1).at front) (λ op q other. R op q (one ++ other)) flag.1 _ _ (any_vbr-spelled 8 flag.1) (λ v two is2 at2.
    spelled-nothing (λ op q other. R op q (one ++ (two ++ other))) (Literal v.0) v.1 (rw (append-nil two) (one, two, rw (eqb-true flag.0 1 t) at is, is2, refl))))
    (λ t. spelled-then (λ n q front. fixed_form 3 n (flag.1).at front) (λ op q other. R op q (one ++ other)) flag.1 _ _ (fixed-spelled 3 flag.1) (λ e two is2 at2.
    spelled-weaker (λ op q front. EncodedAs e.0 op front) (λ op q other. R op q (one ++ (two ++ other))) e.1 _ (encoded-spelled entered (flag.1).at e.0 e.1) (λ op q three at3 h.
    op-written op p.at e.0 one two three (rw (small_flag flag.0 is.0 t) at is) is2 h))))

-- the operands from one on, which may stand there
abbrev pub MayStand : Bool → Bool → List AbbrevOp → Type 0
MayStand first true ops = (e : AbbrevOp) × (ops ≡ e ∷ []) × (is_element e ≡ true)
MayStand true false ops = is_definition ops ≡ true
MayStand false false ops = is_rest ops ≡ true

element_op : (op : AbbrevOp) → is_element op ≡ true → (is_element_op op ≡ true) × (is_scalar op ≡ true) × (is_array op ≡ false)
element_op (Literal n) h = absurd cc
element_op (Fixed w) h = let low = leb-true 1 w (and_left (nat_le 1 w) (nat_le w 64) h) in (lt-ltb 0 w (omega (arith, low)), and_right (nat_le 1 w) (nat_le w 64) h, refl)
element_op (Vbr w) h = let low = leb-true 2 w (and_left (nat_le 2 w) (nat_le w 32) h) in
    let some : (w == 0) ≡ false = ne_eqb w 0 (λ e. absurd (omega (arith, low, e))) in
    (lt-ltb 0 w (omega (arith, low)), rw some h, refl)
element_op Array h = absurd cc
element_op Char6 h = (refl, refl, refl)
element_op Blob h = absurd cc

abbrev pub FirstMayStand : Bool → Bool → AbbrevOp → List AbbrevOp → Type 0
FirstMayStand first in_array op ops = (may_stand first in_array (length ops) op ≡ true) × MayBe op × MayStand false (is_array op) ops

scalar-stands : (first : Bool) (op : AbbrevOp) (ops : List AbbrevOp) → is_array op ≡ false → is_blob op ≡ false → is_scalar op ≡ true → is_rest ops ≡ true → FirstMayStand first false op ops
scalar-stands first (Literal k) ops a b s r = (refl, λ x y. s, r)
scalar-stands first (Fixed w) ops a b s r = (refl, λ x y. s, r)
scalar-stands first (Vbr w) ops a b s r = (refl, λ x y. s, r)
scalar-stands first Array ops a b s r = absurd cc
scalar-stands first Char6 ops a b s r = (refl, λ x y. s, r)
scalar-stands first Blob ops a b s r = absurd cc

rest-stands : (op : AbbrevOp) (ops : List AbbrevOp) → is_rest (op ∷ ops) ≡ true → FirstMayStand false false op ops
rest-stands (Literal k) ops h = scalar-stands false (Literal k) ops refl refl refl h
rest-stands (Fixed w) ops h = scalar-stands false (Fixed w) ops refl refl (and_left (is_scalar (Fixed w)) (is_rest ops) h) (and_right (is_scalar (Fixed w)) (is_rest ops) h)
rest-stands (Vbr w) ops h = scalar-stands false (Vbr w) ops refl refl (and_left (is_scalar (Vbr w)) (is_rest ops) h) (and_right (is_scalar (Vbr w)) (is_rest ops) h)
rest-stands Char6 ops h = scalar-stands false Char6 ops refl refl refl h
rest-stands Array [] h = absurd cc
rest-stands Array (e ∷ []) h = (refl, λ x y. absurd cc, (e, refl, h))
rest-stands Array (e ∷ f ∷ ops) h = absurd cc
rest-stands Blob [] h = (refl, λ x y. absurd cc, refl)
rest-stands Blob (e ∷ ops) h = absurd cc

definition-stands : (op : AbbrevOp) (ops : List AbbrevOp) → is_definition (op ∷ ops) ≡ true → FirstMayStand true false op ops
definition-stands (Literal k) ops h = scalar-stands true (Literal k) ops refl refl refl h
definition-stands (Fixed w) ops h = scalar-stands true (Fixed w) ops refl refl (and_left (is_scalar (Fixed w)) (is_rest ops) h) (and_right (is_scalar (Fixed w)) (is_rest ops) h)
definition-stands (Vbr w) ops h = scalar-stands true (Vbr w) ops refl refl (and_left (is_scalar (Vbr w)) (is_rest ops) h) (and_right (is_scalar (Vbr w)) (is_rest ops) h)
definition-stands Char6 ops h = scalar-stands true Char6 ops refl refl refl h
definition-stands Array ops h = absurd cc
definition-stands Blob ops h = absurd cc

element-stands : (first : Bool) (op : AbbrevOp) (ops : List AbbrevOp) (e : AbbrevOp) → op ∷ ops ≡ e ∷ [] → is_element e ≡ true → FirstMayStand first true op ops
element-stands first op ops e is h =
    let same : e ≡ op = cc in
    let none : ops ≡ [] = cc in
    let (element, scalar, array) = element_op op (rw same at h) in
    rw none (element, (λ x y. scalar), rw array refl)

first-stands : (first in_array : Bool) (op : AbbrevOp) (ops : List AbbrevOp) → MayStand first in_array (op ∷ ops) → FirstMayStand first in_array op ops
first-stands first true op ops (e, is, h) = element-stands first op ops e is h
first-stands true false op ops h = definition-stands op ops h
first-stands false false op ops h = rest-stands op ops h

again-if : {A : Type 0} (b : Bool) (r s : Input → Result (A × Input) BitFault) (x : A) (P : BitPattern) → b ≡ true → Again r x P → Again (λ p. if b then r p else s p) x P
again-if true r s x P t h = h
again-if false r s x P t h = absurd cc

pub ops-again : (entered : ℕ) (ops : List AbbrevOp) (first in_array : Bool) → (0 < length ops → MayStand first in_array ops) → Again (ops_at entered (length ops) first in_array) ops (each op_form ops)
ops-again entered [] first in_array h = again-nothing []
ops-again entered (op ∷ ops) first in_array h =
    let (stands, may, more) = first-stands first in_array op ops (h (omega arith)) in
    again-then Anywhere (op_at entered)
    (λ p x. if may_stand first in_array (length ops) x.0 then prefixed (x.0 ∷ []) (ops_at entered (length ops) false (is_array x.0) x.1) else Err (BadOperands entered))
    op (λ n. op ∷ ops) (op_form op) (each op_form ops) (op-again entered op may)
    (λ p. again-if (may_stand first in_array (length ops) op) (λ q. prefixed (op ∷ []) (ops_at entered (length ops) false (is_array op) q)) (λ q. Err (BadOperands entered)) (op ∷ ops) (each op_form ops) stands
    (again-prefixed Anywhere (ops_at entered (length ops) false (is_array op)) (op ∷ []) ops (each op_form ops) (ops-again entered ops false (is_array op) (λ pos. more))))

pub ops-spelled : (entered n : ℕ) (first in_array : Bool) (p : Input) → Spelled (λ ops q front. (length ops ≡ n) × each op_form ops p.at front) p (ops_at entered n first in_array p)
ops-spelled entered zero first in_array p = spelled-nothing (λ ops q front. (length ops ≡ 0) × each op_form ops p.at front) [] p (refl, refl)
ops-spelled entered (suc n) first in_array p =
    let R : List AbbrevOp → Input → List Bool → Type 0 = λ ops q front. (length ops ≡ suc n) × each op_form ops p.at front in
    spelled-then (λ op q front. op_form op p.at front) R p _ _ (op-spelled entered p) (λ op one is at.
    spelled-either (λ ops q other. R ops q (one ++ other)) op.1 (may_stand first in_array n op.0) _ _
    (λ t. spelled-prefixed (λ ops q front. (length ops ≡ n) × each op_form ops (op.1).at front) (λ ops q other. R ops q (one ++ other)) op.1 (op.0 ∷ []) _ (ops-spelled entered n false (is_array op.0) op.1)
    (λ ops q other h. (ap suc h.0, (one, other, is, moved (each op_form ops) _ _ other at h.1, refl))))
    (λ t. tt))

-- a definition behind its id
abbrev pub definition_form : List AbbrevOp → BitPattern
definition_form ops = vbr_form 5 (length ops) ⨾ each op_form ops

some_ops : (ops : List AbbrevOp) → is_definition ops ≡ true → (length ops == 0) ≡ false
some_ops [] h = absurd cc
some_ops (op ∷ ops) h = ne_eqb (suc (length ops)) 0 (λ e. absurd (omega (arith, e)))

again-unless : {A : Type 0} (b : Bool) (r s : Input → Result (A × Input) BitFault) (x : A) (P : BitPattern) → b ≡ false → Again s x P → Again (λ p. if b then r p else s p) x P
again-unless true r s x P t h = absurd cc
again-unless false r s x P t h = h

pub definition-again : (entered : ℕ) (ops : List AbbrevOp) → is_definition ops ≡ true → Again (definition_at entered) ops (definition_form ops)
unfolding definition_at
definition-again entered ops is =
    again-then Anywhere (vbr_at 5) (λ p count. if count.0 == 0 then Err (BadOperands entered) else ops_at entered count.0 true false count.1) (length ops) (λ n. ops) (vbr_form 5 (length ops)) (each op_form ops)
    (any_vbr-again 5 (length ops))
    (λ p. again-unless (length ops == 0) (λ q. Err (BadOperands entered)) (λ q. ops_at entered (length ops) true false q) ops (each op_form ops) (some_ops ops is) (ops-again entered ops true false (λ pos. is)))

pub definition-spelled : (entered : ℕ) (p : Input) → Spelled (λ ops q front. definition_form ops p.at front) p (definition_at entered p)
unfolding definition_at
definition-spelled entered p =
    let R : List AbbrevOp → Input → List Bool → Type 0 = λ ops q front. definition_form ops p.at front in
    spelled-then (λ n q front. vbr_form 5 n p.at front) R p _ _ (any_vbr-spelled 5 p) (λ count one is at.
    spelled-either (λ ops q other. R ops q (one ++ other)) count.1 (count.0 == 0) _ _ (λ t. tt)
    (λ t. spelled-weaker (λ ops q front. (length ops ≡ count.0) × each op_form ops (count.1).at front) (λ ops q other. R ops q (one ++ other)) count.1 _ (ops-spelled entered count.0 true false count.1)
    (λ ops q other at2 h. (one, other, rw h.0 is, moved (each op_form ops) _ _ other at h.1, refl))))

-- where a block begins, behind its id
abbrev pub opened_form : ℕ → ℕ → ℕ → BitPattern
opened_form number width words = vbr_form 8 number ⨾ vbr_form 4 width ⨾ pad_form ⨾ fixed_form 32 words

abbrev pub opened_is : ℕ → ℕ → ℕ → ℕ → Opened
opened_is number width words begins = record { block = number; width = width; begins = begins; said = words }

abbrev pub HasWords : ℕ → ℕ → List Bool → Type 0
HasWords words at rest = 32 * words ≤ length rest

pub again-if-behind : {A : Type 0} (C : ℕ → List Bool → Type 0) (b : Bool) (r s : Input → Result (A × Input) BitFault) (x : ℕ → A) (P : BitPattern) → b ≡ true → AgainIf C r x P → AgainIf C (λ p. if b then r p else s p) x P
again-if-behind C true r s x P t h = h
again-if-behind C false r s x P t h = absurd cc

pub again-unless-behind : {A : Type 0} (C : ℕ → List Bool → Type 0) (b : Bool) (r s : Input → Result (A × Input) BitFault) (x : ℕ → A) (P : BitPattern) → b ≡ false → AgainIf C s x P → AgainIf C (λ p. if b then r p else s p) x P
again-unless-behind C true r s x P t h = absurd cc
again-unless-behind C false r s x P t h = h

abbrev pub words_read : ℕ → ℕ → ℕ → ℕ × Input → Result (Opened × Input) BitFault
words_read entered number width said = if nat_lt (length (said.1).bits) (32 * said.0) then Err (BadBlockLength entered said.0)
    else Ok (record { block = number; width = width; begins = (said.1).at; said = said.0 }, said.1)

words-again : (entered number width words : ℕ) → AgainIf (HasWords words) (λ p. fixed_at 32 p >>= words_read entered number width) (opened_is number width words) (fixed_form 32 words)
words-again entered number width words at front rest is room =
    ap (λ s. s >>= words_read entered number width) (fixed_form-again 32 words at front rest is tt) ∙ rw (le-ltb (length rest) (32 * words) room) refl

abbrev pub width_read : ℕ → ℕ → ℕ × Input → Result (Opened × Input) BitFault
width_read entered number width = if nat_lt width.0 2 then Err (BadOperands entered) else if nat_lt 32 width.0 then Err (BadOperands entered) else (align_at width.1 >>= (λ q. fixed_at 32 q.1 >>= words_read entered number width.0))

abbrev pub number_read : ℕ → ℕ × Input → Result (Opened × Input) BitFault
number_read entered block = if nat_lt block.0 (2 ^ 32) then (vbr_at 4 block.1 >>= width_read entered block.0) else Err (BadOperands entered)

pub opened-again : (entered number width words : ℕ) → number < 2 ^ 32 → 2 ≤ width → width ≤ 32 → AgainIf (HasWords words) (opened_at entered) (opened_is number width words) (opened_form number width words)
unfolding opened_at
opened-again entered number width words small low high =
    again-then (HasWords words) (vbr_at 8) (λ p. number_read entered) number (opened_is number width words) (vbr_form 8 number) (vbr_form 4 width ⨾ pad_form ⨾ fixed_form 32 words) (any_vbr-again 8 number)
    (λ p. again-if-behind (HasWords words) (nat_lt number (2 ^ 32)) (λ q. vbr_at 4 q >>= width_read entered number) (λ q. Err (BadOperands entered)) (opened_is number width words) (vbr_form 4 width ⨾ pad_form ⨾ fixed_form 32 words) (lt-ltb number (2 ^ 32) small)
    (again-then (HasWords words) (vbr_at 4) (λ p. width_read entered number) width (opened_is number width words) (vbr_form 4 width) (pad_form ⨾ fixed_form 32 words) (any_vbr-again 4 width)
    (λ p. again-unless-behind (HasWords words) (nat_lt width 2) (λ q. Err (BadOperands entered)) (λ q. if nat_lt 32 width then Err (BadOperands entered) else (align_at q >>= (λ q. fixed_at 32 q.1 >>= words_read entered number width))) (opened_is number width words) (pad_form ⨾ fixed_form 32 words) (le-ltb width 2 low)
    (again-unless-behind (HasWords words) (nat_lt 32 width) (λ q. Err (BadOperands entered)) (λ q. align_at q >>= (λ q. fixed_at 32 q.1 >>= words_read entered number width)) (opened_is number width words) (pad_form ⨾ fixed_form 32 words) (le-ltb 32 width high)
    (again-then (HasWords words) align_at (λ p q. fixed_at 32 q.1 >>= words_read entered number width) tt (opened_is number width words) pad_form (fixed_form 32 words) pad_form-again
    (λ p. words-again entered number width words))))))

abbrev pub OpenedIs : Input → Opened → Input → List Bool → Type 0
OpenedIs p o q front = opened_form o.block o.width o.said p.at front × (o.block < 2 ^ 32) × (2 ≤ o.width) × (o.width ≤ 32) × (32 * o.said ≤ length q.bits) × (o.begins ≡ q.at)

pub opened-spelled : (entered : ℕ) (p : Input) → Spelled (OpenedIs p) p (opened_at entered p)
unfolding opened_at
opened-spelled entered p =
    spelled-then (λ n q front. vbr_form 8 n p.at front) (OpenedIs p) p _ (number_read entered) (any_vbr-spelled 8 p) (λ number one is at.
    let behind_number : Opened → Input → List Bool → Type 0 = λ o q other. OpenedIs p o q (one ++ other) in
    spelled-either behind_number number.1 (nat_lt number.0 (2 ^ 32)) _ _ (λ small. spelled-then (λ n q front. vbr_form 4 n (number.1).at front) behind_number number.1 _ (width_read entered number.0) (any_vbr-spelled 4 number.1) (λ width two is2 at2.
    let behind_width : Opened → Input → List Bool → Type 0 = λ o q other. behind_number o q (two ++ other) in
    spelled-either behind_width width.1 (nat_lt width.0 2) _ _ (λ t. tt) (λ low. spelled-either behind_width width.1 (nat_lt 32 width.0) _ _ (λ t. tt) (λ high.
    spelled-then (λ x q front. pad_form (width.1).at front) behind_width width.1 _ (λ q. fixed_at 32 q.1 >>= words_read entered number.0 width.0) (pad-spelled width.1) (λ q three is3 at3.
    let behind_pad : Opened → Input → List Bool → Type 0 = λ o q other. behind_width o q (three ++ other) in
    spelled-then (λ n r front. fixed_form 32 n (q.1).at front) behind_pad q.1 _ (words_read entered number.0 width.0) (fixed-spelled 32 q.1) (λ said four is4 at4.
    let behind_words : Opened → Input → List Bool → Type 0 = λ o q other. behind_pad o q (four ++ other) in
    spelled-either behind_words said.1 (nat_lt (length (said.1).bits) (32 * said.0)) _ _ (λ t. tt) (λ room.
    spelled-nothing behind_words (record { block = number.0; width = width.0; begins = (said.1).at; said = said.0 }) said.1 (rw (append-nil four) (
      (one, two ++ (three ++ four), is, (two, three ++ four, is2, (three, four, moved pad_form (width.1).at (p.at + length one + length two) three (omega (arith, at, at2)) is3, is4, refl), refl), refl),
      ltb-true number.0 (2 ^ 32) small,
      ltb-false width.0 2 low,
      ltb-false 32 width.0 high,
      ltb-false (length (said.1).bits) (32 * said.0) room,
      refl,
    ))))))))) (λ t. tt))

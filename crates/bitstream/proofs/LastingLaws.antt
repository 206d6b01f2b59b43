-- Bits that follow change nothing of what was read, and no fault but one that they may mend.
use Rattle.std.proofs.Common.{◌≡◌, ℕ, zero, suc, ◌+◌, ◌*◌, ◌-◌, ◌/◌, ◌%◌, ◌^◌, ◌≤◌, ◌==◌, Bool, true, false, List, [], ◌∷◌, ◌++◌, length, take, drop, refl, sym, ◌∙◌, ap, subst, arith, length-append, length-drop, append_assoc, ltb-false, le-ltb, nat_lt, nat_le, Ok, Err, Result, Some, None, Option, if◌then◌else◌}
use Rattle.std.proofs.lemmas.Bool.{eqb-false}
use Rattle.std.proofs.lemmas.List.{take-append-le, drop-append-le}
use Rattle.std.proofs.Math.Nat.{mul-le-mul_left}
use Rattle.bitstream.specs.declared.item.BitFault.{BitFault}
use Rattle.bitstream.specs.declared.item.BitFault.TheVariants.{Short, BadBlockLength, WideNumber}
use Rattle.bitstream.specs.declared.item.AbbrevOp.{AbbrevOp}
use Rattle.bitstream.specs.declared.item.AbbrevOp.TheVariants.{Literal, Fixed, Vbr, Array, Char6, Blob}
use Rattle.bitstream.specs.declared.cursor.Opened.{Opened}
use Rattle.bitstream.specs.Bits.{value}
use Rattle.bitstream.specs.Fields.{Input, at_bits, fixed_at, groups, group_then, groups_at, number, vbr_of, vbr_at, ◌>>=◌}
use Rattle.bitstream.specs.Stream.{align_at, bytes_at, whole_bytes, blob_at, scalar_at, prefixed, numbers_at, element_of, array_at, is_array, is_blob, numbers_alone, blob_alone, behind_numbers, values_at, Values, opened_at, encoded_at, op_at, may_stand, ops_at, definition_at}
use Rattle.bitstream.specs.Scopes.{abbrev_in}
use Rattle.bitstream.specs.Reading.{Context, end_at, enter_at, defined_for, define_at, named_by, judged, plain_at, judged_values, by_abbrev, entry_by, entry_at}
use Rattle.bitstream.specs.Fronts.{may_be_mended, IsToldBehind}
use Rattle.bitstream.proofs.GroupLaws.{vbr-none}
use Rattle.bitstream.proofs.SpellingLaws.{vbr-again, vbr-takes}

-- the same place, with more bits behind those that are left
abbrev pub wider : List Bool → Input → Input
wider more p = record { at = p.at; bits = p.bits ++ more }

-- What reading gives from `start` on, and what it gives where more bits follow.
abbrev pub Lasts : {A : Type 0} → ℕ → List Bool → Result (A × Input) BitFault → Result (A × Input) BitFault → Type 0
Lasts start more (Ok x) longer = (start ≤ (x.1).at) × (longer ≡ Ok (x.0, wider more x.1))
Lasts start more (Err e) longer = IsToldBehind start e × (may_be_mended start e ≡ false → longer ≡ Err e)

lasts-then : {A B : Type 0} (start : ℕ) (more : List Bool) (r longer : Result (A × Input) BitFault) (f : A × Input → Result (B × Input) BitFault)
    → Lasts start more r longer → ((x : A × Input) → start ≤ (x.1).at → Lasts start more (f x) (f (x.0, wider more x.1))) → Lasts start more (r >>= f) (longer >>= f)
lasts-then start more (Ok x) longer f h next = subst (λ l. Lasts start more (f x) (l >>= f)) (sym h.1) (next x h.0)
lasts-then start more (Err e) longer f h next = (h.0, λ stays. ap (λ l. l >>= f) (h.1 stays))

lasts-either : {A : Type 0} (start : ℕ) (more : List Bool) (b : Bool) (x y longer other : Result (A × Input) BitFault)
    → (b ≡ true → Lasts start more x longer) → (b ≡ false → Lasts start more y other) → Lasts start more (if b then x else y) (if b then longer else other)
lasts-either start more true x y longer other f g = f refl
lasts-either start more false x y longer other f g = g refl

fixed-lasts : (start w : ℕ) (more : List Bool) (p : Input) → start ≤ p.at → Lasts start more (fixed_at w p) (fixed_at w (wider more p))
fixed-lasts start w more p from = by_size (nat_lt (length p.bits) w) refl
  where
    by_size : (few : Bool) → nat_lt (length p.bits) w ≡ few → Lasts start more (fixed_at w p) (fixed_at w (wider more p))
    by_size true t = rw t (from, λ stays. absurd cc)
    by_size false t =
        let room : w ≤ length p.bits = ltb-false _ _ t in
        let longer : w ≤ length (p.bits ++ more) = omega (arith, room, length-append p.bits more) in
        rw (t, le-ltb _ _ longer, take-append-le w p.bits more room, drop-append-le w p.bits more room) (omega (arith, from), refl)

then-grows : (w g : ℕ) (a b : List ℕ × Bool) → number w a.0 ≤ number w b.0 → number w (group_then (2 ^ (w - 1)) g a).0 ≤ number w (group_then (2 ^ (w - 1)) g b).0
then-grows w g a b h = by_top (nat_lt g (2 ^ (w - 1))) refl
  where
    by_top : (low : Bool) → nat_lt g (2 ^ (w - 1)) ≡ low → number w (group_then (2 ^ (w - 1)) g a).0 ≤ number w (group_then (2 ^ (w - 1)) g b).0
    by_top true t = rw t (omega arith)
    by_top false t = rw t (omega (arith, mul-le-mul_left (2 ^ (w - 1)) h))

-- groups that follow make no number smaller
groups-grow : (k j w : ℕ) (bs more : List Bool) → k ≤ j → number w (groups k w bs).0 ≤ number w (groups j w (bs ++ more)).0
groups-grow zero j w bs more enough = omega arith
groups-grow (suc k) zero w bs more enough = absurd (omega (arith, enough))
groups-grow (suc k) (suc j) w bs more enough = by_size (nat_lt (length bs) w) refl (λ room. groups-grow k j w (drop w bs) more (omega (arith, enough)))
  where
    by_size : (few : Bool) → nat_lt (length bs) w ≡ few → (w ≤ length bs → number w (groups k w (drop w bs)).0 ≤ number w (groups j w (drop w bs ++ more)).0)
        → number w (groups (suc k) w bs).0 ≤ number w (groups (suc j) w (bs ++ more)).0
    by_size true t later = rw t (omega arith)
    by_size false t later =
        let room : w ≤ length bs = ltb-false _ _ t in
        let longer : w ≤ length (bs ++ more) = omega (arith, room, length-append bs more) in
        rw (t, le-ltb _ _ longer, take-append-le w bs more room, drop-append-le w bs more room) (then-grows w (value (take w bs)) (groups k w (drop w bs)) (groups j w (drop w bs ++ more)) (later room))

vbr_of-lasts : (start w : ℕ) (more : List Bool) (p : Input) (gs others : List ℕ × Bool) (e : BitFault) → start ≤ p.at → number w gs.0 ≤ number w others.0 → vbr_of w p gs ≡ Err e
    → IsToldBehind start e × (may_be_mended start e ≡ false → vbr_of w (wider more p) others ≡ Err e)
vbr_of-lasts start w more p gs others e from grows is = by_size (nat_lt (number w gs.0) (2 ^ 64)) refl gs.1 refl
  where
    Told : BitFault → Type 0
    Told e = IsToldBehind start e × (may_be_mended start e ≡ false → vbr_of w (wider more p) others ≡ Err e)

    by_size : (small : Bool) → nat_lt (number w gs.0) (2 ^ 64) ≡ small → (came : Bool) → gs.1 ≡ came → Told e
    by_size true s true t = let h = rw (s, t) at is in absurd cc
    by_size true s false t = let h = rw (s, t) at is in let same : Short (p.at + w * length gs.0) ≡ e = cc in subst Told same (omega (arith, from), λ stays. absurd cc)
    by_size false s came t =
        let h = rw s at is in
        let same : WideNumber p.at ≡ e = cc in
        let wide = ltb-false _ _ s in
        subst Told same (from, λ stays. rw (le-ltb (number w others.0) (2 ^ 64) (omega (arith, grows, wide))) refl)

vbr_fault-lasts : (start w : ℕ) (more : List Bool) (p : Input) (e : BitFault) → start ≤ p.at → vbr_at w p ≡ Err e → IsToldBehind start e × (may_be_mended start e ≡ false → vbr_at w (wider more p) ≡ Err e)
unfolding vbr_at groups_at
vbr_fault-lasts start w more p e from is =
    vbr_of-lasts start w more p (groups_at w p) (groups_at w (wider more p)) e from (groups-grow (suc (length p.bits)) (suc (length (p.bits ++ more))) w p.bits more (omega (arith, length-append p.bits more))) is

vbr-lasts : (start w : ℕ) (more : List Bool) (p : Input) → start ≤ p.at → Lasts start more (vbr_at w p) (vbr_at w (wider more p))
vbr-lasts start zero more p from = rw (vbr-none p, vbr-none (wider more p)) (from, refl)
vbr-lasts start (suc k) more p from = by_result (vbr_at (suc k) p) refl
  where
    by_result : (r : Result (ℕ × Input) BitFault) → vbr_at (suc k) p ≡ r → Lasts start more r (vbr_at (suc k) (wider more p))
    by_result (Ok x) is =
        let t = vbr-takes (suc k) p x.1 x.0 (omega arith) is in
        let result : ℕ → Result (ℕ × Input) BitFault = λ n. Ok (x.0, at_bits n ((x.1).bits ++ more)) in (
          omega (arith, from, t.3),
          ap (λ s. vbr_at (suc k) (at_bits p.at (s ++ more))) t.2 ∙ ap (λ s. vbr_at (suc k) (at_bits p.at s)) (append_assoc t.0 (x.1).bits more)
              ∙ vbr-again (suc k) x.0 p.at t.0 ((x.1).bits ++ more) (omega arith) t.1 ∙ ap result (sym t.3),
        )
    by_result (Err e) is = vbr_fault-lasts start (suc k) more p e from is

align-lasts : (start : ℕ) (more : List Bool) (p : Input) → start ≤ p.at → Lasts start more (align_at p) (align_at (wider more p))
unfolding align_at
align-lasts start more p from = by_size (nat_lt (length p.bits) ((32 - p.at % 32) % 32)) refl
  where
    by_size : (few : Bool) → nat_lt (length p.bits) ((32 - p.at % 32) % 32) ≡ few → Lasts start more (align_at p) (align_at (wider more p))
    by_size true t = rw t (from, λ stays. absurd cc)
    by_size false t =
        let room : (32 - p.at % 32) % 32 ≤ length p.bits = ltb-false _ _ t in
        let longer : (32 - p.at % 32) % 32 ≤ length (p.bits ++ more) = omega (arith, room, length-append p.bits more) in
        rw (t, le-ltb _ _ longer, drop-append-le ((32 - p.at % 32) % 32) p.bits more room) (omega (arith, from), refl)

whole_bytes-append : (n : ℕ) (bs more : List Bool) → 8 * n ≤ length bs → whole_bytes n (bs ++ more) ≡ whole_bytes n bs
whole_bytes-append zero bs more room = refl
whole_bytes-append (suc n) bs more room =
    let one : 8 ≤ length bs = omega (arith, room) in
    rw (take-append-le 8 bs more one, drop-append-le 8 bs more one, whole_bytes-append n (drop 8 bs) more (omega (arith, room, length-drop 8 bs))) refl

bytes-lasts : (start n : ℕ) (more : List Bool) (p : Input) → start ≤ p.at → Lasts start more (bytes_at n p) (bytes_at n (wider more p))
unfolding bytes_at
bytes-lasts start n more p from = by_size (nat_lt (length p.bits) (8 * n)) refl
  where
    by_size : (few : Bool) → nat_lt (length p.bits) (8 * n) ≡ few → Lasts start more (bytes_at n p) (bytes_at n (wider more p))
    by_size true t = rw t (from, λ stays. absurd cc)
    by_size false t =
        let room : 8 * n ≤ length p.bits = ltb-false _ _ t in
        let longer : 8 * n ≤ length (p.bits ++ more) = omega (arith, room, length-append p.bits more) in
        rw (t, le-ltb _ _ longer, whole_bytes-append n p.bits more room, drop-append-le (8 * n) p.bits more room) (omega (arith, from), refl)

blob-lasts : (start : ℕ) (more : List Bool) (p : Input) → start ≤ p.at → Lasts start more (blob_at p) (blob_at (wider more p))
unfolding blob_at
blob-lasts start more p from = lasts-then start more _ _ _ (vbr-lasts start 6 more p from) (λ count a.
    lasts-then start more _ _ _ (align-lasts start more count.1 a) (λ q b.
    lasts-then start more _ _ _ (bytes-lasts start count.0 more q.1 b) (λ bytes c.
    lasts-then start more _ _ _ (align-lasts start more bytes.1 c) (λ r d. (d, refl)))))

scalar-lasts : (start : ℕ) (op : AbbrevOp) (more : List Bool) (p : Input) → start ≤ p.at → Lasts start more (scalar_at op p) (scalar_at op (wider more p))
unfolding scalar_at
scalar-lasts start (Literal n) more p from = (from, refl)
scalar-lasts start (Fixed w) more p from = fixed-lasts start w more p from
scalar-lasts start (Vbr w) more p from = vbr-lasts start w more p from
scalar-lasts start Char6 more p from = lasts-then start more _ _ _ (fixed-lasts start 6 more p from) (λ x a. (a, refl))
scalar-lasts start Array more p from = (from, refl)
scalar-lasts start Blob more p from = (from, refl)

prefixed-lasts : {A : Type 0} (start : ℕ) (more : List Bool) (xs : List A) (r longer : Result (List A × Input) BitFault) → Lasts start more r longer → Lasts start more (prefixed xs r) (prefixed xs longer)
prefixed-lasts start more xs (Ok x) longer h = (h.0, ap (prefixed xs) h.1)
prefixed-lasts start more xs (Err e) longer h = (h.0, λ stays. ap (prefixed xs) (h.1 stays))

numbers-lasts : (start n : ℕ) (op : AbbrevOp) (more : List Bool) (p : Input) → start ≤ p.at → Lasts start more (numbers_at n op p) (numbers_at n op (wider more p))
numbers-lasts start zero op more p from = (from, refl)
numbers-lasts start (suc n) op more p from = lasts-then start more _ _ _ (scalar-lasts start op more p from) (λ x a.
    prefixed-lasts start more (x.0 ∷ []) (numbers_at n op x.1) (numbers_at n op (wider more x.1)) (numbers-lasts start n op more x.1 a))

array-lasts : (start : ℕ) (ops : List AbbrevOp) (more : List Bool) (p : Input) → start ≤ p.at → Lasts start more (array_at ops p) (array_at ops (wider more p))
unfolding array_at
array-lasts start ops more p from = lasts-then start more _ _ _ (vbr-lasts start 6 more p from) (λ count a. numbers-lasts start count.0 (element_of ops) more count.1 a)

numbers_alone-lasts : (start : ℕ) (more : List Bool) (r longer : Result (List ℕ × Input) BitFault) → Lasts start more r longer → Lasts start more (numbers_alone r) (numbers_alone longer)
numbers_alone-lasts start more (Ok x) longer h = (h.0, ap numbers_alone h.1)
numbers_alone-lasts start more (Err e) longer h = (h.0, λ stays. ap numbers_alone (h.1 stays))

blob_alone-lasts : (start : ℕ) (more : List Bool) (r longer : Result (List ℕ × Input) BitFault) → Lasts start more r longer → Lasts start more (blob_alone r) (blob_alone longer)
blob_alone-lasts start more (Ok x) longer h = (h.0, ap blob_alone h.1)
blob_alone-lasts start more (Err e) longer h = (h.0, λ stays. ap blob_alone (h.1 stays))

behind_numbers-lasts : (start : ℕ) (more : List Bool) (xs : List ℕ) (r longer : Result (Values × Input) BitFault) → Lasts start more r longer → Lasts start more (behind_numbers xs r) (behind_numbers xs longer)
behind_numbers-lasts start more xs (Ok x) longer h = (h.0, ap (behind_numbers xs) h.1)
behind_numbers-lasts start more xs (Err e) longer h = (h.0, λ stays. ap (behind_numbers xs) (h.1 stays))

values-lasts : (start : ℕ) (ops : List AbbrevOp) (more : List Bool) (p : Input) → start ≤ p.at → Lasts start more (values_at ops p) (values_at ops (wider more p))
values-lasts start [] more p from = (from, refl)
values-lasts start (op ∷ ops) more p from =
    lasts-either start more (is_array op) _ _ _ _ (λ t. numbers_alone-lasts start more (array_at ops p) (array_at ops (wider more p)) (array-lasts start ops more p from))
    (λ t. lasts-either start more (is_blob op) _ _ _ _ (λ t. blob_alone-lasts start more (blob_at p) (blob_at (wider more p)) (blob-lasts start more p from))
    (λ t. lasts-then start more _ _ _ (scalar-lasts start op more p from) (λ x a.
    behind_numbers-lasts start more (x.0 ∷ []) (values_at ops x.1) (values_at ops (wider more x.1)) (values-lasts start ops more x.1 a))))

encoded-lasts : (start at e : ℕ) (more : List Bool) (p : Input) → start ≤ at → start ≤ p.at → Lasts start more (encoded_at start at e p) (encoded_at start at e (wider more p))
unfolding encoded_at
encoded-lasts start at e more p before from =
    lasts-either start more (e == 1) _ _ _ _ (λ t. lasts-then start more _ _ _ (vbr-lasts start 5 more p from) (λ w a.
    lasts-either start more (nat_lt 64 w.0) _ _ _ _ (λ t. (refl, λ stays. refl)) (λ t. (a, refl))))
    (λ t. lasts-either start more (e == 2) _ _ _ _ (λ t. lasts-then start more _ _ _ (vbr-lasts start 5 more p from) (λ w a.
    lasts-either start more (w.0 == 1) _ _ _ _ (λ t. (refl, λ stays. refl)) (λ t. lasts-either start more (nat_lt 32 w.0) _ _ _ _ (λ t. (refl, λ stays. refl)) (λ t. (a, refl)))))
    (λ t. lasts-either start more (e == 3) _ _ _ _ (λ t. (from, refl))
    (λ t. lasts-either start more (e == 4) _ _ _ _ (λ t. (from, refl))
    (λ t. lasts-either start more (e == 5) _ _ _ _ (λ t. (from, refl)) (λ t. (before, λ stays. refl))))))

op-lasts : (start : ℕ) (more : List Bool) (p : Input) → start ≤ p.at → Lasts start more (op_at start p) (op_at start (wider more p))
unfolding op_at
op-lasts start more p from = lasts-then start more _ _ _ (fixed-lasts start 1 more p from) (λ flag a.
    lasts-either start more (flag.0 == 1) _ _ _ _ (λ t. lasts-then start more _ _ _ (vbr-lasts start 8 more flag.1 a) (λ v b. (b, refl)))
    (λ t. lasts-then start more _ _ _ (fixed-lasts start 3 more flag.1 a) (λ e b. encoded-lasts start (flag.1).at e.0 more e.1 a b)))

ops-lasts : (start n : ℕ) (first in_array : Bool) (more : List Bool) (p : Input) → start ≤ p.at → Lasts start more (ops_at start n first in_array p) (ops_at start n first in_array (wider more p))
ops-lasts start zero first in_array more p from = (from, refl)
ops-lasts start (suc n) first in_array more p from = lasts-then start more _ _ _ (op-lasts start more p from) (λ op a.
    lasts-either start more (may_stand first in_array n op.0) _ _ _ _
    (λ t. prefixed-lasts start more (op.0 ∷ []) (ops_at start n false (is_array op.0) op.1) (ops_at start n false (is_array op.0) (wider more op.1)) (ops-lasts start n false (is_array op.0) more op.1 a))
    (λ t. (refl, λ stays. refl)))

definition-lasts : (start : ℕ) (more : List Bool) (p : Input) → start ≤ p.at → Lasts start more (definition_at start p) (definition_at start (wider more p))
unfolding definition_at
definition-lasts start more p from = lasts-then start more _ _ _ (vbr-lasts start 5 more p from) (λ count a.
    lasts-either start more (count.0 == 0) _ _ _ _ (λ t. (refl, λ stays. refl)) (λ t. ops-lasts start count.0 true false more count.1 a))

-- a block that is entered has all its words, or they may follow
words-last : (start n said : ℕ) (o : Opened) (more : List Bool) (p : Input) → start ≤ p.at
    → Lasts start more (if nat_lt (length p.bits) n then Err (BadBlockLength start said) else Ok (o, p)) (if nat_lt (length (p.bits ++ more)) n then Err (BadBlockLength start said) else Ok (o, wider more p))
words-last start n said o more p from = by_size (nat_lt (length p.bits) n) refl
  where
    by_size : (few : Bool) → nat_lt (length p.bits) n ≡ few
        → Lasts start more (if nat_lt (length p.bits) n then Err (BadBlockLength start said) else Ok (o, p)) (if nat_lt (length (p.bits ++ more)) n then Err (BadBlockLength start said) else Ok (o, wider more p))
    by_size true t = rw t (tt, λ stays. absurd (eqb-false start start stays refl))
    by_size false t =
        let room : n ≤ length p.bits = ltb-false _ _ t in
        let longer : n ≤ length (p.bits ++ more) = omega (arith, room, length-append p.bits more) in
        rw (t, le-ltb _ _ longer) (from, refl)

opened-lasts : (start : ℕ) (more : List Bool) (p : Input) → start ≤ p.at → Lasts start more (opened_at start p) (opened_at start (wider more p))
unfolding opened_at
opened-lasts start more p from = lasts-then start more _ _ _ (vbr-lasts start 8 more p from) (λ block a.
    lasts-either start more (nat_lt block.0 (2 ^ 32)) _ _ _ _
    (λ t. lasts-then start more _ _ _ (vbr-lasts start 4 more block.1 a) (λ width b.
    lasts-either start more (nat_lt width.0 2) _ _ _ _ (λ t. (refl, λ stays. refl)) (λ t. lasts-either start more (nat_lt 32 width.0) _ _ _ _ (λ t. (refl, λ stays. refl)) (λ t.
    lasts-then start more _ _ _ (align-lasts start more width.1 b) (λ q c.
    lasts-then start more _ _ _ (fixed-lasts start 32 more q.1 c) (λ said d.
    words-last start (32 * said.0) said.0 (record { block = block.0; width = width.0; begins = (said.1).at; said = said.0 }) more said.1 d))))))
    (λ t. (refl, λ stays. refl)))

end-lasts : (start : ℕ) (c : Context) (more : List Bool) (p : Input) → start ≤ p.at → Lasts start more (end_at c p) (end_at c (wider more p))
end-lasts start c more p from = lasts-then start more _ _ _ (align-lasts start more p from) (λ q a.
    lasts-either start more (((q.1).at - c.scope.begins) / 32 % 2 ^ 32 == c.scope.said) _ _ _ _ (λ t. (a, refl)) (λ t. (tt, λ stays. refl)))

enter-lasts : (start : ℕ) (c : Context) (more : List Bool) (p : Input) → start ≤ p.at → Lasts start more (enter_at start c p) (enter_at start c (wider more p))
enter-lasts start c more p from =
    lasts-either start more (c.scope.block == 0) _ _ _ _ (λ t. (refl, λ stays. refl))
    (λ t. lasts-either start more (nat_le 32 (length c.outer)) _ _ _ _ (λ t. (refl, λ stays. refl))
    (λ t. lasts-then start more _ _ _ (opened-lasts start more p from) (λ o a. (a, refl))))

defined_for-lasts : (start : ℕ) (c : Context) (named : Option ℕ) (more : List Bool) (p : Input) → start ≤ p.at → Lasts start more (defined_for c start named p) (defined_for c start named (wider more p))
defined_for-lasts start c None more p from = (refl, λ stays. refl)
defined_for-lasts start c (Some block) more p from = lasts-then start more _ _ _ (definition-lasts start more p from) (λ d a. (a, refl))

define-lasts : (start : ℕ) (c : Context) (more : List Bool) (p : Input) → start ≤ p.at → Lasts start more (define_at start c p) (define_at start c (wider more p))
define-lasts start c more p from =
    lasts-either start more (c.scope.block == 0) _ _ _ _ (λ t. defined_for-lasts start c c.named more p from)
    (λ t. lasts-then start more _ _ _ (definition-lasts start more p from) (λ d a. (a, refl)))

named-lasts : (start : ℕ) (ns : List ℕ) (c : Context) (more : List Bool) (p : Input) → start ≤ p.at → Lasts start more (named_by start ns c p) (named_by start ns c (wider more p))
named-lasts start [] c more p from = (refl, λ stays. refl)
named-lasts start (n ∷ ns) c more p from = lasts-either start more (nat_lt n (2 ^ 32)) _ _ _ _ (λ t. (from, refl)) (λ t. (refl, λ stays. refl))

judged-lasts : (start code : ℕ) (ops : List ℕ) (blob : Option (List ℕ)) (c : Context) (more : List Bool) (p : Input) → start ≤ p.at
    → Lasts start more (judged start code ops blob c p) (judged start code ops blob c (wider more p))
judged-lasts start code ops blob c more p from =
    lasts-either start more (c.scope.block == 0) _ _ _ _
    (λ t. lasts-either start more (code == 1) _ _ _ _ (λ t. named-lasts start ops c more p from) (λ t. (from, refl))) (λ t. (from, refl))

plain-lasts : (start : ℕ) (c : Context) (more : List Bool) (p : Input) → start ≤ p.at → Lasts start more (plain_at start c p) (plain_at start c (wider more p))
plain-lasts start c more p from = lasts-then start more _ _ _ (vbr-lasts start 6 more p from) (λ code a.
    lasts-then start more _ _ _ (vbr-lasts start 6 more code.1 a) (λ count b.
    lasts-then start more _ _ _ (numbers-lasts start count.0 (Vbr 6) more count.1 b) (λ ops d. judged-lasts start code.0 ops.0 None c more ops.1 d)))

judged_values-lasts : (start : ℕ) (numbers : List ℕ) (blob : Option (List ℕ)) (c : Context) (more : List Bool) (p : Input) → start ≤ p.at
    → Lasts start more (judged_values start numbers blob c p) (judged_values start numbers blob c (wider more p))
judged_values-lasts start [] blob c more p from = judged-lasts start 0 [] blob c more p from
judged_values-lasts start (code ∷ numbers) blob c more p from = judged-lasts start code numbers blob c more p from

by_abbrev-lasts : (start id : ℕ) (ops : Option (List AbbrevOp)) (c : Context) (more : List Bool) (p : Input) → start ≤ p.at
    → Lasts start more (by_abbrev start id ops c p) (by_abbrev start id ops c (wider more p))
by_abbrev-lasts start id None c more p from = (refl, λ stays. refl)
by_abbrev-lasts start id (Some ops) c more p from = lasts-then start more _ _ _ (values-lasts start ops more p from) (λ v a. judged_values-lasts start (v.0).numbers (v.0).blob c more v.1 a)

entry_by-lasts : (start id : ℕ) (c : Context) (more : List Bool) (p : Input) → start ≤ p.at → Lasts start more (entry_by start id c p) (entry_by start id c (wider more p))
entry_by-lasts start id c more p from =
    lasts-either start more (id == 1) _ _ _ _ (λ t. enter-lasts start c more p from)
    (λ t. lasts-either start more (length c.outer == 0) _ _ _ _ (λ t. (refl, λ stays. refl))
    (λ t. lasts-either start more (id == 0) _ _ _ _ (λ t. end-lasts start c more p from)
    (λ t. lasts-either start more (id == 2) _ _ _ _ (λ t. define-lasts start c more p from)
    (λ t. lasts-either start more (id == 3) _ _ _ _ (λ t. plain-lasts start c more p from)
    (λ t. by_abbrev-lasts start id (abbrev_in c.scope c.block_info c.abbrevs (id - 4)) c more p from)))))

-- An entry that was read is read again where more bits follow, and a fault is told behind the entries before it.
pub entry-lasts : (c : Context) (p : Input) (more : List Bool) → Lasts p.at more (entry_at c p) (entry_at c (wider more p))
entry-lasts c p more = lasts-then p.at more _ _ _ (fixed-lasts p.at c.scope.width more p (omega arith)) (λ id a. entry_by-lasts p.at id.0 c more id.1 a)

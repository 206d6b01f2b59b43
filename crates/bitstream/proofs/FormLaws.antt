-- The fields of a stream: what is written is read, and what is read is written so.
use Rattle.std.proofs.Common.{◌≡◌, ℕ, zero, suc, ◌+◌, ◌*◌, ◌-◌, ◌%◌, ◌^◌, ◌<◌, ◌≤◌, Bool, true, false, List, [], ◌∷◌, ◌++◌, length, take, drop, refl, sym, ◌∙◌, ap, subst, arith, length-drop, length-append, append_assoc, le-ltb, ltb-false, nat_lt, Ok, Err, Result, if◌then◌else◌, lit<}
use Rattle.std.proofs.lemmas.List.{length-take-le, take-append-drop, append-nil, drop-drop}
use Rattle.std.proofs.Math.Seq.{drop-append_seam}
use Rattle.bitstream.specs.declared.item.BitFault.{BitFault}
use Rattle.bitstream.specs.declared.item.BitFault.TheVariants.{Short}
use Rattle.bitstream.specs.declared.item.AbbrevOp.{AbbrevOp}
use Rattle.bitstream.specs.declared.item.AbbrevOp.TheVariants.{Literal, Fixed, Vbr, Array, Char6, Blob}
use Rattle.bitstream.specs.Bits.{value, bits, bits_of, byte_bits}
use Rattle.bitstream.specs.Fields.{Input, after, at_bits, number, fixed_at, vbr_at, ◌>>=◌}
use Rattle.bitstream.specs.Spelling.{IsVbr, AllBelow, spell}
use Rattle.bitstream.specs.Stream.{align_at, bytes_at, whole_bytes, blob_at, char6, scalar_at, prefixed, numbers_at, array_at, is_array, is_blob}
use Rattle.bitstream.specs.Stands.{BitPattern, nothing, ◌⨾◌, each, fixed_form, vbr_form, pad_form, bytes_form, number_form, array_form, blob_form}
use Rattle.bitstream.proofs.BitLaws.{value-lt, length-bits_of, byte-value}
use Rattle.bitstream.proofs.GroupLaws.{read-ok, vbr-none}
use Rattle.bitstream.proofs.SpellingLaws.{fixed-again, vbr-again, vbr-takes, field-back}
use Rattle.bitstream.proofs.StreamLaws.{take-byte, drop-byte}

-- Where a value is written and a condition on what is behind it holds, it is read. The value may depend on the position behind it.
abbrev pub AgainIf : {A : Type 0} → (ℕ → List Bool → Type 0) → (Input → Result (A × Input) BitFault) → (ℕ → A) → BitPattern → Type 0
AgainIf C read x P = (at : ℕ) (front rest : List Bool) → P at front → C (at + length front) rest → read (at_bits at (front ++ rest)) ≡ Ok (x (at + length front), at_bits (at + length front) rest)

abbrev pub Anywhere : ℕ → List Bool → Type 0
Anywhere at rest = Unit {0}

abbrev pub Again : {A : Type 0} → (Input → Result (A × Input) BitFault) → A → BitPattern → Type 0
Again read x P = AgainIf Anywhere read (λ n. x) P

pub again-then : {A B : Type 0} (C : ℕ → List Bool → Type 0) (r : Input → Result (A × Input) BitFault) (f : Input → A × Input → Result (B × Input) BitFault) (x : A) (y : ℕ → B) (P Q : BitPattern)
    → Again r x P → ((p : Input) → AgainIf C (λ q. f p (x, q)) y Q) → AgainIf C (λ p. r p >>= f p) y (P ⨾ Q)
again-then {B = B} C r f x y P Q first more at front rest (one, other, p, q, is) holds =
    let place : at + length one + length other ≡ at + length front = omega (arith, ap length is, length-append one other) in
    let whole : front ++ rest ≡ one ++ (other ++ rest) = ap (λ s. s ++ rest) is ∙ append_assoc one other rest in
    let start : Input = at_bits at (front ++ rest) in
    let here : r start ≡ Ok (x, at_bits (at + length one) (other ++ rest)) = ap (λ s. r (at_bits at s)) whole ∙ first at one (other ++ rest) p tt in
    let behind : f start (x, at_bits (at + length one) (other ++ rest)) ≡ Ok (y (at + length one + length other), at_bits (at + length one + length other) rest)
    = more start (at + length one) other rest q (subst (λ n. C n rest) (sym place) holds) in
    let result : ℕ → Result (B × Input) BitFault = λ n. Ok (y n, at_bits n rest) in
    ap (λ s. s >>= f start) here ∙ behind ∙ ap result place

-- nothing is read
pub again-nothing : {A : Type 0} (x : A) → Again (λ p. Ok (x, p)) x nothing
again-nothing x at front rest is t = let none : at + 0 ≡ at = omega arith in rw (is, none) refl

-- a last field, from which the value is made
pub again-last : {A B : Type 0} (r : Input → Result (A × Input) BitFault) (f : Input → A × Input → Result (B × Input) BitFault) (x : A) (y : B) (P : BitPattern)
    → Again r x P → ((p q : Input) → f p (x, q) ≡ Ok (y, q)) → Again (λ p. r p >>= f p) y P
again-last r f x y P first more at front rest p t = ap (λ s. s >>= f (at_bits at (front ++ rest))) (first at front rest p t) ∙ more (at_bits at (front ++ rest)) (at_bits (at + length front) rest)

-- what was read is written in front of the place behind it
abbrev pub Spelled : {A : Type 0} → (A → Input → List Bool → Type 0) → Input → Result (A × Input) BitFault → Type 0
Spelled P p (Ok x) = (front : List Bool) × P x.0 x.1 front × (p.bits ≡ front ++ (x.1).bits) × ((x.1).at ≡ p.at + length front)
Spelled P p (Err e) = Unit {0}

pub spelled-then : {A B : Type 0} (P : A → Input → List Bool → Type 0) (R : B → Input → List Bool → Type 0) (p : Input) (r : Result (A × Input) BitFault) (f : A × Input → Result (B × Input) BitFault)
    → Spelled P p r → ((x : A × Input) (one : List Bool) → P x.0 x.1 one → (x.1).at ≡ p.at + length one → Spelled (λ b q other. R b q (one ++ other)) x.1 (f x)) → Spelled R p (r >>= f)
spelled-then P R p (Err e) f h more = tt
spelled-then {B = B} P R p (Ok x) f (one, is, same, at) more = go (f x) (more x one is at)
  where
    go : (s : Result (B × Input) BitFault) → Spelled (λ b q other. R b q (one ++ other)) x.1 s → Spelled R p s
    go (Err e) h = tt
    go (Ok y) (other, made, same2, at2) = (
      one ++ other,
      made,
      same ∙ ap (λ s. one ++ s) same2 ∙ sym (append_assoc one other (y.1).bits),
      omega (arith, at, at2, length-append one other),
    )

pub spelled-nothing : {A : Type 0} (P : A → Input → List Bool → Type 0) (x : A) (p : Input) → P x p [] → Spelled P p (Ok (x, p))
spelled-nothing P x p is = ([], is, refl, omega arith)

pub spelled-either : {A : Type 0} (P : A → Input → List Bool → Type 0) (p : Input) (b : Bool) (x y : Result (A × Input) BitFault)
    → (b ≡ true → Spelled P p x) → (b ≡ false → Spelled P p y) → Spelled P p (if b then x else y)
spelled-either P p true x y f g = f refl
spelled-either P p false x y f g = g refl

pub spelled-weaker : {A : Type 0} (P Q : A → Input → List Bool → Type 0) (p : Input) (r : Result (A × Input) BitFault)
    → Spelled P p r → ((x : A) (q : Input) (front : List Bool) → q.at ≡ p.at + length front → P x q front → Q x q front) → Spelled Q p r
spelled-weaker P Q p (Ok x) (front, is, same, at) f = (front, f x.0 x.1 front at is, same, at)
spelled-weaker P Q p (Err e) h f = tt

-- a field of so many bits
pub fixed_form-again : (w n : ℕ) → Again (fixed_at w) n (fixed_form w n)
fixed_form-again w n at front rest (fits, is) t = rw is (fixed-again w n fits at rest)

pub fixed-spelled : (w : ℕ) (p : Input) → Spelled (λ n q front. fixed_form w n p.at front) p (fixed_at w p)
fixed-spelled w p = by_result (fixed_at w p) refl
  where
    by_result : (r : Result (ℕ × Input) BitFault) → fixed_at w p ≡ r → Spelled (λ n q front. fixed_form w n p.at front) p r
    by_result (Err e) is = tt
    by_result (Ok x) is =
        let (room, n-is, q-is) = read-ok w p x.1 x.0 is in
        let len : length (take w p.bits) ≡ w = length-take-le w p.bits room in
        let fits : value (take w p.bits) < 2 ^ w = rw len at (value-lt (take w p.bits)) in (
          take w p.bits,
          (rw n-is fits, rw n-is (sym (field-back w p.bits room))),
          rw q-is (sym (take-append-drop w p.bits)),
          rw (q-is, len) refl,
        )

-- a number in groups
digits-zero : (ds : List ℕ) → AllBelow 1 ds → (let w : ℕ = 0 in spell w ds) ≡ []
digits-zero [] h = refl
digits-zero (d ∷ []) h = refl
digits-zero (d ∷ e ∷ ds) h = digits-zero (e ∷ ds) h.1

pub vbr_form-again : (w n : ℕ) → 0 < w → Again (vbr_at w) n (vbr_form w n)
vbr_form-again w n pos at front rest is t = vbr-again w n at front rest pos is

pub vbr-spelled : (w : ℕ) (p : Input) → 0 < w → Spelled (λ n q front. vbr_form w n p.at front) p (vbr_at w p)
vbr-spelled w p pos = by_result (vbr_at w p) refl
  where
    by_result : (r : Result (ℕ × Input) BitFault) → vbr_at w p ≡ r → Spelled (λ n q front. vbr_form w n p.at front) p r
    by_result (Err e) is = tt
    by_result (Ok x) is = vbr-takes w p x.1 x.0 pos is

-- an alignment
pad-again : (at : ℕ) (front rest : List Bool) → length front ≡ (32 - at % 32) % 32 → align_at (at_bits at (front ++ rest)) ≡ Ok (tt, at_bits (at + length front) rest)
unfolding align_at
pad-again at front rest is =
    let room : length front ≤ length (front ++ rest) = omega (arith, length-append front rest) in
    rw (sym is, le-ltb _ _ room, drop-append_seam front rest) refl

pub pad_form-again : Again align_at tt pad_form
pad_form-again at front rest is t = pad-again at front rest is

pub pad-spelled : (p : Input) → Spelled (λ x q front. pad_form p.at front) p (align_at p)
unfolding align_at
pad-spelled p =
    let pad : ℕ = (32 - p.at % 32) % 32 in
    spelled-either (λ x q front. pad_form p.at front) p (nat_lt (length p.bits) pad) (Err (Short p.at)) (Ok (tt, after pad p))
    (λ t. tt)
    (λ t. (take pad p.bits, length-take-le pad p.bits (ltb-false _ _ t), sym (take-append-drop pad p.bits), ap (λ n. p.at + n) (sym (length-take-le pad p.bits (ltb-false _ _ t)))))

-- bytes
bytes-whole : (bytes : List ℕ) (rest : List Bool) → AllBelow 256 bytes → whole_bytes (length bytes) (bits_of bytes ++ rest) ≡ bytes
bytes-whole [] rest h = refl
bytes-whole (b ∷ bytes) rest h =
    rw (append_assoc (byte_bits b) (bits_of bytes) rest, take-byte b (bits_of bytes ++ rest), drop-byte b (bits_of bytes ++ rest), byte-value b h.0, bytes-whole bytes rest h.1) refl

pub bytes_form-again : (bytes : List ℕ) → Again (bytes_at (length bytes)) bytes (bytes_form bytes)
unfolding bytes_at
bytes_form-again bytes at front rest (fits, is) t =
    let len = length-bits_of bytes in
    let room : 8 * length bytes ≤ length (bits_of bytes ++ rest) = omega (arith, length-append (bits_of bytes) rest, len) in
    let cut : drop (8 * length bytes) (bits_of bytes ++ rest) ≡ rest = ap (λ k. drop k (bits_of bytes ++ rest)) (sym len) ∙ drop-append_seam (bits_of bytes) rest in
    rw (is, le-ltb _ _ room, bytes-whole bytes rest fits, cut, len) refl

bytes-written : (n : ℕ) (bs : List Bool) → 8 * n ≤ length bs → AllBelow 256 (whole_bytes n bs) × (bs ≡ bits_of (whole_bytes n bs) ++ drop (8 * n) bs)
unfolding byte_bits
bytes-written zero bs room = (tt, refl)
bytes-written (suc n) bs room =
    let (fits, is) = bytes-written n (drop 8 bs) (omega (arith, length-drop 8 bs, room)) in
    let enough : 8 ≤ length bs = omega (arith, room) in
    let low : value (take 8 bs) < 2 ^ 8 = rw (length-take-le 8 bs enough) at (value-lt (take 8 bs)) in
    let back : bits 8 (value (take 8 bs)) ≡ take 8 bs = field-back 8 bs enough in
    let count : 8 + 8 * n ≡ 8 * suc n = omega arith in (
      (low, fits),
      sym (take-append-drop 8 bs)
          ∙ ap (λ s. s ++ drop 8 bs) (sym back)
          ∙ ap (λ s. bits 8 (value (take 8 bs)) ++ s) (is ∙ ap (λ s. bits_of (whole_bytes n (drop 8 bs)) ++ s) (drop-drop (8 * n) 8 bs ∙ ap (λ k. drop k bs) count))
          ∙ sym (append_assoc (bits 8 (value (take 8 bs))) (bits_of (whole_bytes n (drop 8 bs))) (drop (8 * suc n) bs)),
    )

length-whole : (n : ℕ) (bs : List Bool) → length (whole_bytes n bs) ≡ n
length-whole zero bs = refl
length-whole (suc n) bs = ap suc (length-whole n (drop 8 bs))

pub bytes-spelled : (n : ℕ) (p : Input) → Spelled (λ bytes q front. (length bytes ≡ n) × bytes_form bytes p.at front) p (bytes_at n p)
unfolding bytes_at
bytes-spelled n p = spelled-either (λ bytes q front. (length bytes ≡ n) × bytes_form bytes p.at front) p (nat_lt (length p.bits) (8 * n)) _ _
    (λ t. tt)
    (λ t. let (fits, is) = bytes-written n p.bits (ltb-false _ _ t) in
    (bits_of (whole_bytes n p.bits), (length-whole n p.bits, (fits, refl)), is, omega (arith, length-bits_of (whole_bytes n p.bits), length-whole n p.bits)))

-- a blob
pub blob_form-again : (bytes : List ℕ) → Again blob_at bytes (blob_form bytes)
unfolding blob_at
blob_form-again bytes =
    again-then Anywhere (vbr_at 6) (λ p count. align_at count.1 >>= (λ q. bytes_at count.0 q.1 >>= (λ b. align_at b.1 >>= (λ r. Ok (b.0, r.1)))))
    (length bytes) (λ n. bytes) (vbr_form 6 (length bytes)) (pad_form ⨾ bytes_form bytes ⨾ pad_form) (vbr_form-again 6 (length bytes) (lit< tt))
    (λ p. again-then Anywhere align_at (λ p q. bytes_at (length bytes) q.1 >>= (λ b. align_at b.1 >>= (λ r. Ok (b.0, r.1)))) tt (λ n. bytes) pad_form (bytes_form bytes ⨾ pad_form) pad_form-again
    (λ p. again-then Anywhere (bytes_at (length bytes)) (λ p b. align_at b.1 >>= (λ r. Ok (b.0, r.1))) bytes (λ n. bytes) (bytes_form bytes) pad_form (bytes_form-again bytes)
    (λ p. again-last align_at (λ p r. Ok (bytes, r.1)) tt bytes pad_form pad_form-again (λ p q. refl))))

pub moved : (P : BitPattern) (n m : ℕ) (front : List Bool) → n ≡ m → P n front → P m front
moved P n m front is h = subst (λ k. P k front) is h

pub blob-spelled : (p : Input) → Spelled (λ bytes q front. blob_form bytes p.at front) p (blob_at p)
unfolding blob_at
blob-spelled p =
    let R : List ℕ → Input → List Bool → Type 0 = λ bytes q front. blob_form bytes p.at front in
    spelled-then (λ n q front. vbr_form 6 n p.at front) R p _ _ (vbr-spelled 6 p (lit< tt)) (λ count one is at.
    spelled-then (λ x q front. pad_form (count.1).at front) (λ b q other. R b q (one ++ other)) count.1 _ _ (pad-spelled count.1) (λ q two is2 at2.
    spelled-then (λ bytes r front. (length bytes ≡ count.0) × bytes_form bytes (q.1).at front) (λ b r other. R b r (one ++ (two ++ other))) q.1 _ _ (bytes-spelled count.0 q.1) (λ bytes three is3 at3.
    spelled-then (λ x r front. pad_form (bytes.1).at front) (λ b r other. R b r (one ++ (two ++ (three ++ other)))) bytes.1 _ _ (pad-spelled bytes.1) (λ r four is4 at4.
    spelled-nothing (λ b r other. R b r (one ++ (two ++ (three ++ (four ++ other))))) bytes.0 r.1
    (rw (append-nil four) (
      one,
      two ++ (three ++ four),
      rw is3.0 is,
      (two, three ++ four, moved pad_form _ _ two at is2, (three, four, is3.1, moved pad_form _ _ four (at4-is p.at (count.1).at (q.1).at (bytes.1).at (length one) (length two) (length three) at at2 at3) is4, refl), refl),
      refl,
    ))))))
  where
    at4-is : (a b c d x y z : ℕ) → b ≡ a + x → c ≡ b + y → d ≡ c + z → d ≡ a + x + y + z
    at4-is a b c d x y z e f g = omega (arith, e, f, g)

-- a number of an operand
number-none : (ds : List ℕ) → AllBelow 1 ds → number 0 ds ≡ 0
number-none [] h = refl
number-none (d ∷ ds) h = let rest = number-none ds h.1 in let low = h.0 in rw rest (omega (arith, low))

none-again : (n at : ℕ) (front rest : List Bool) → IsVbr 0 n front → vbr_at 0 (at_bits at (front ++ rest)) ≡ Ok (n, at_bits (at + length front) rest)
none-again n at front rest is =
    let n-is : n ≡ 0 = is.is_number ∙ number-none is.digits is.below in
    let front-is : front ≡ [] = is.spelled ∙ digits-zero is.digits is.below in
    let same : at + 0 ≡ at = omega arith in
    rw (n-is, front-is, same) (vbr-none (at_bits at rest))

pub any_vbr-again : (w n : ℕ) → Again (vbr_at w) n (vbr_form w n)
any_vbr-again zero n at front rest is t = none-again n at front rest is
any_vbr-again (suc w) n at front rest is t = vbr_form-again (suc w) n (omega arith) at front rest is t

pub any_vbr-spelled : (w : ℕ) (p : Input) → Spelled (λ n q front. vbr_form w n p.at front) p (vbr_at w p)
any_vbr-spelled zero p = rw (vbr-none p) ([], record { digits = 0 ∷ []; some_digit = lit< tt; below = (lit< tt, tt); is_number = refl; fits = lit< tt; spelled = refl }, refl, omega arith)
any_vbr-spelled (suc w) p = vbr-spelled (suc w) p (omega arith)

pub number-again : (op : AbbrevOp) (n : ℕ) → Again (scalar_at op) n (number_form op n)
unfolding scalar_at
number-again (Literal k) n at front rest (is, none) t = rw is (again-nothing k at front rest none t)
number-again (Fixed w) n at front rest is t = fixed_form-again w n at front rest is t
number-again (Vbr w) n at front rest is t = any_vbr-again w n at front rest is t
number-again Array n at front rest is t = absurd is
number-again Char6 n at front rest (k, n-is, is) t = rw n-is (again-last (fixed_at 6) (λ p x. Ok (char6 x.0, x.1)) k (char6 k) (fixed_form 6 k) (fixed_form-again 6 k) (λ p q. refl) at front rest is t)
number-again Blob n at front rest is t = absurd is

pub number-spelled : (op : AbbrevOp) (p : Input) → is_array op ≡ false → is_blob op ≡ false → Spelled (λ n q front. number_form op n p.at front) p (scalar_at op p)
unfolding scalar_at
number-spelled (Literal k) p a b = spelled-nothing (λ n q front. number_form (Literal k) n p.at front) k p (refl, refl)
number-spelled (Fixed w) p a b = fixed-spelled w p
number-spelled (Vbr w) p a b = any_vbr-spelled w p
number-spelled Array p a b = absurd cc
number-spelled Char6 p a b =
    let R : ℕ → Input → List Bool → Type 0 = λ n q front. number_form Char6 n p.at front in
    spelled-then (λ n q front. fixed_form 6 n p.at front) R p _ _ (fixed-spelled 6 p) (λ x one is at.
    spelled-nothing (λ n q other. R n q (one ++ other)) (char6 x.0) x.1 (rw (append-nil one) (x.0, refl, is)))
number-spelled Blob p a b = absurd cc

-- numbers one behind the other
pub again-prefixed : {A : Type 0} (C : ℕ → List Bool → Type 0) (r : Input → Result (List A × Input) BitFault) (ys xs : List A) (P : BitPattern) → AgainIf C r (λ n. xs) P → AgainIf C (λ q. prefixed ys (r q)) (λ n. ys ++ xs) P
again-prefixed C r ys xs P h at front rest p t = ap (prefixed ys) (h at front rest p t)

pub spelled-prefixed : {A : Type 0} (P Q : List A → Input → List Bool → Type 0) (p : Input) (xs : List A) (r : Result (List A × Input) BitFault)
    → Spelled P p r → ((ys : List A) (q : Input) (front : List Bool) → P ys q front → Q (xs ++ ys) q front) → Spelled Q p (prefixed xs r)
spelled-prefixed P Q p xs (Ok r) (front, is, same, at) f = (front, f r.0 r.1 front is, same, at)
spelled-prefixed P Q p xs (Err e) h f = tt

pub numbers-again : (op : AbbrevOp) (xs : List ℕ) → Again (numbers_at (length xs) op) xs (each (number_form op) xs)
numbers-again op [] = again-nothing []
numbers-again op (x ∷ xs) =
    again-then Anywhere (scalar_at op) (λ p x. prefixed (x.0 ∷ []) (numbers_at (length xs) op x.1)) x (λ n. x ∷ xs) (number_form op x) (each (number_form op) xs) (number-again op x)
    (λ p. again-prefixed Anywhere (numbers_at (length xs) op) (x ∷ []) xs (each (number_form op) xs) (numbers-again op xs))

pub numbers-spelled : (n : ℕ) (op : AbbrevOp) (p : Input) → is_array op ≡ false → is_blob op ≡ false
    → Spelled (λ xs q front. (length xs ≡ n) × each (number_form op) xs p.at front) p (numbers_at n op p)
numbers-spelled zero op p a b = spelled-nothing (λ xs q front. (length xs ≡ 0) × each (number_form op) xs p.at front) [] p (refl, refl)
numbers-spelled (suc n) op p a b =
    let R : List ℕ → Input → List Bool → Type 0 = λ xs q front. (length xs ≡ suc n) × each (number_form op) xs p.at front in
    spelled-then (λ n q front. number_form op n p.at front) R p _ _ (number-spelled op p a b) (λ x one is at.
    spelled-prefixed (λ xs q front. (length xs ≡ n) × each (number_form op) xs (x.1).at front) (λ xs q other. R xs q (one ++ other)) x.1 (x.0 ∷ []) _ (numbers-spelled n op x.1 a b)
    (λ ys q other h. (ap suc h.0, (one, other, is, moved (each (number_form op) ys) _ _ other at h.1, refl))))

-- an array, by its elements' operand
pub array-again : (ops : List AbbrevOp) (xs : List ℕ) → Again (array_at ops) xs (array_form ops xs)
unfolding array_at
array-again [] xs at front rest is t = absurd is
array-again (element ∷ ops) xs at front rest is t =
    again-then Anywhere (vbr_at 6) (λ p count. numbers_at count.0 element count.1) (length xs) (λ n. xs) (vbr_form 6 (length xs)) (each (number_form element) xs) (any_vbr-again 6 (length xs))
    (λ p. numbers-again element xs) at front rest is t

pub array-spelled : (element : AbbrevOp) (ops : List AbbrevOp) (p : Input) → is_array element ≡ false → is_blob element ≡ false
    → Spelled (λ xs q front. array_form (element ∷ ops) xs p.at front) p (array_at (element ∷ ops) p)
unfolding array_at
array-spelled element ops p a b =
    let R : List ℕ → Input → List Bool → Type 0 = λ xs q front. array_form (element ∷ ops) xs p.at front in
    spelled-then (λ n q front. vbr_form 6 n p.at front) R p _ _ (any_vbr-spelled 6 p) (λ count one is at.
    spelled-weaker (λ xs q front. (length xs ≡ count.0) × each (number_form element) xs (count.1).at front) (λ xs q other. R xs q (one ++ other)) count.1 _
    (numbers-spelled count.0 element count.1 a b) (λ xs q other at2 h. (one, other, rw h.0 is, moved (each (number_form element) xs) _ _ other at h.1, refl)))

-- Laws of bits and their value.
use Rattle.std.proofs.Common.{◌≡◌, ℕ, zero, suc, ◌+◌, ◌*◌, ◌/◌, ◌%◌, ◌^◌, ◌<◌, ◌≤◌, ◌==◌, Bool, true, false, List, [], ◌∷◌, ◌++◌, length, take, drop, refl, sym, ◌∙◌, ap, arith, mul_assoc, length-append}
use Rattle.std.proofs.lemmas.Nat.{pow_pos, shr-shr, shr_high, shr_split, mod-pow-add}
use Rattle.std.proofs.lemmas.List.{take-append-le, drop-take, drop-drop, length-take-le, take-append-drop}
use Rattle.std.proofs.Math.Seq.{drop-append_seam}
use Rattle.std.proofs.lemmas.Grind.{flat_map-append}
use Rattle.bitstream.specs.Bits.{bit_of, value, bits, byte_bits, bits_of}

drop-nil : (k : ℕ) → drop k (let e : List Bool = [] in e) ≡ []
drop-nil zero = refl
drop-nil (suc k) = refl

pub length-bits : (w n : ℕ) → length (bits w n) ≡ w
length-bits zero n = refl
length-bits (suc w) n = grind (arith, length-bits w (n / 2))

pub two_pow : (k : ℕ) → 2 ^ suc k ≡ 2 * 2 ^ k
two_pow k = omega arith

two_pow_mul : (k v : ℕ) → 2 ^ suc k * v ≡ 2 * (2 ^ k * v)
two_pow_mul k v = rw (two_pow k) (mul_assoc 2 (2 ^ k) v)

bit-odd : (n : ℕ) → bit_of (n % 2 == 1) ≡ n % 2
bit-odd n = grind arith

half_mod : (n k : ℕ) → n % 2 + 2 * (n / 2 % 2 ^ k) ≡ n % 2 ^ suc k
half_mod n k = grind (arith, mod-pow-add n k 1)

pub value-bits : (w n : ℕ) → value (bits w n) ≡ n % 2 ^ w
value-bits zero n = omega arith
value-bits (suc w) n = grind (arith, bit-odd n, value-bits w (n / 2), half_mod n w)

pub value-lt : (bs : List Bool) → value bs < 2 ^ length bs
value-lt [] = omega arith
value-lt (true ∷ bs) = grind (arith, value-lt bs, two_pow (length bs))
value-lt (false ∷ bs) = grind (arith, value-lt bs, two_pow (length bs))

pub value-append : (a b : List Bool) → value (a ++ b) ≡ value a + 2 ^ length a * value b
value-append [] b = omega arith
value-append (true ∷ a) b = rw (value-append a b, two_pow_mul (length a) (value b)) (omega arith)
value-append (false ∷ a) b = rw (value-append a b, two_pow_mul (length a) (value b)) (omega arith)

pub value-take : (k : ℕ) (bs : List Bool) → value (take k bs) ≡ value bs % 2 ^ k
value-take zero bs = omega arith
value-take (suc k) [] = omega arith
value-take (suc k) (true ∷ bs) = grind (arith, value-take k bs, half_mod (1 + 2 * value bs) k)
value-take (suc k) (false ∷ bs) = grind (arith, value-take k bs, half_mod (2 * value bs) k)

pub value-drop : (k : ℕ) (bs : List Bool) → value (drop k bs) ≡ value bs / 2 ^ k
value-drop zero bs = omega arith
value-drop (suc k) [] = omega (arith, pow_pos k)
value-drop (suc k) (true ∷ bs) = grind (arith, value-drop k bs, shr-shr (1 + 2 * value bs) 1 k)
value-drop (suc k) (false ∷ bs) = grind (arith, value-drop k bs, shr-shr (2 * value bs) 1 k)

same : (b c n m : ℕ) → b ≡ c → n ≡ m → bits c n ≡ bits b m
same b c n m e f = ap (λ k. bits k n) (sym e) ∙ ap (bits b) f

pub bits-append : (a b n : ℕ) → bits (a + b) n ≡ bits a n ++ bits b (n / 2 ^ a)
bits-append zero b n = same b (0 + b) n (n / 1) (omega arith) (omega arith)
bits-append (suc a) b n =
    let count : suc a + b ≡ suc (a + b) = omega arith in
    let halves : n / 2 / 2 ^ a ≡ n / 2 ^ suc a = shr-shr n 1 a ∙ ap (λ k. n / 2 ^ k) (omega arith) in
    ap (λ k. bits k n) count ∙ ap (λ bs. (n % 2 == 1) ∷ bs) (bits-append a b (n / 2) ∙ ap (λ m. bits a (n / 2) ++ bits b m) halves)

pub byte-value : (b : ℕ) → b < 256 → value (byte_bits b) ≡ b
unfolding byte_bits
byte-value b h = value-bits 8 b ∙ omega arith

pub byte-length : (b : ℕ) → length (byte_bits b) ≡ 8
unfolding byte_bits
byte-length b = length-bits 8 b

pub length-bits_of : (bytes : List ℕ) → length (bits_of bytes) ≡ 8 * length bytes
length-bits_of [] = refl
length-bits_of (b ∷ bytes) = grind (arith, length-append (byte_bits b) (bits_of bytes), byte-length b, length-bits_of bytes)

pub value-cons : (b : ℕ) (bytes : List ℕ) → b < 256 → value (bits_of (b ∷ bytes)) ≡ b + 256 * value (bits_of bytes)
value-cons b bytes h = grind (arith, value-append (byte_bits b) (bits_of bytes), byte-length b, byte-value b h)

-- whole bytes at the front are dropped
pub drop-bytes : (k : ℕ) (bytes : List ℕ) → drop (8 * k) (bits_of bytes) ≡ bits_of (drop k bytes)
drop-bytes zero bytes = refl
drop-bytes (suc k) [] = drop-nil (8 * suc k)
drop-bytes (suc k) (b ∷ bytes) =
    ap (λ n. drop n (byte_bits b ++ bits_of bytes)) eight ∙ sym (drop-drop (8 * k) 8 (byte_bits b ++ bits_of bytes))
    ∙ ap (drop (8 * k)) (ap (λ n. drop n (byte_bits b ++ bits_of bytes)) (sym (byte-length b)) ∙ drop-append_seam (byte_bits b) (bits_of bytes)) ∙ drop-bytes k bytes
  where
    eight : 8 * suc k ≡ 8 + 8 * k
    eight = omega arith

-- the field of w bits behind `skip` bits, read from `need` bytes
pub field-value : (bytes : List ℕ) (skip w need : ℕ) → need ≤ length bytes → skip + w ≤ 8 * need
    → value (take w (drop skip (bits_of bytes))) ≡ value (bits_of (take need bytes)) / 2 ^ skip % 2 ^ w
field-value bytes skip w need fits room =
    let split : bits_of bytes ≡ bits_of (take need bytes) ++ bits_of (drop need bytes)
    = ap bits_of (sym (take-append-drop need bytes)) ∙ flat_map-append byte_bits (take need bytes) (drop need bytes) in
    let long : skip + w ≤ length (bits_of (take need bytes))
    = omega (arith, length-bits_of (take need bytes), length-take-le need bytes fits) in
    let front : take (skip + w) (bits_of bytes) ≡ take (skip + w) (bits_of (take need bytes))
    = ap (take (skip + w)) split ∙ take-append-le (skip + w) (bits_of (take need bytes)) (bits_of (drop need bytes)) long in
    ap value (sym (drop-take skip w (bits_of bytes)) ∙ ap (drop skip) front ∙ drop-take skip w (bits_of (take need bytes)))
    ∙ value-take w (drop skip (bits_of (take need bytes))) ∙ ap (λ n. n % 2 ^ w) (value-drop skip (bits_of (take need bytes)))

pub bits-low : (n a v : ℕ) → bits n (a + 2 ^ n * v) ≡ bits n a
bits-low zero a v = refl
bits-low (suc n) a v =
    let even : a + 2 ^ suc n * v ≡ a + 2 * (2 ^ n * v) = rw (two_pow_mul n v) refl in
    let head : (a + 2 ^ suc n * v) % 2 ≡ a % 2 = rw even (omega arith) in
    let rest : (a + 2 ^ suc n * v) / 2 ≡ a / 2 + 2 ^ n * v = rw even (omega arith) in
    rw (head, rest) (ap (λ bs. (a % 2 == 1) ∷ bs) (bits-low n (a / 2) v))

-- two fields one after the other are one
pub bits-join : (n a w v : ℕ) → a < 2 ^ n → bits n a ++ bits w v ≡ bits (n + w) (v * 2 ^ n + a)
bits-join n a w v low =
    let turned : v * 2 ^ n + a ≡ a + 2 ^ n * v = omega arith in
    sym (bits-append n w (v * 2 ^ n + a) ∙ ap (λ bs. bs ++ bits w ((v * 2 ^ n + a) / 2 ^ n)) (ap (bits n) turned ∙ bits-low n a v)
    ∙ ap (λ m. bits n a ++ bits w m) (shr_high v n a low))

pub bits-mod : (n x : ℕ) → bits n (x % 2 ^ n) ≡ bits n x
bits-mod n x = sym (ap (bits n) (let e : x ≡ x % 2 ^ n + 2 ^ n * (x / 2 ^ n) = omega (arith, shr_split x n) in e) ∙ bits-low n (x % 2 ^ n) (x / 2 ^ n))

cell : (b : Bool) (bs : List Bool) (n : ℕ) → n % 2 ≡ bit_of b → n / 2 ≡ value bs → bits (length bs) (value bs) ≡ bs → (n % 2 == 1) ∷ bits (length bs) (n / 2) ≡ b ∷ bs
cell true bs n low high e = rw (low, high, e) refl
cell false bs n low high e = rw (low, high, e) refl

pub bits-value : (bs : List Bool) → bits (length bs) (value bs) ≡ bs
bits-value [] = refl
bits-value (true ∷ bs) = cell true bs (1 + 2 * value bs) (omega arith) (omega arith) (bits-value bs)
bits-value (false ∷ bs) = cell false bs (0 + 2 * value bs) (omega arith) (omega arith) (bits-value bs)

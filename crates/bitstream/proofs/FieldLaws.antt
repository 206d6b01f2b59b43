-- From bytes to fields.
use Rattle.std.proofs.Common.{◌≡◌, ℕ, suc, ◌+◌, ◌*◌, ◌-◌, ◌/◌, ◌%◌, ◌^◌, ◌<◌, ◌≤◌, List, [], ◌∷◌, length, take, drop, refl, sym, ◌∙◌, ap, arith, get_or, bit_or, bit_and, length-drop, drop-cons, le-ltb, lt-ltb, Ok, Err}
use Rattle.std.proofs.lemmas.Nat.{shl_whole, or_shifted, and_mask, one_shl}
use Rattle.std.specs.Int.{from_le_bytes, w64}
use Rattle.std.proofs.lemmas.List.{drop-drop}
use Rattle.bitstream.specs.declared.item.BitFault.TheVariants.{Short}
use Rattle.bitstream.specs.Bits.{value, bits_of}
use Rattle.bitstream.specs.Fields.{input_at, fixed_at}
use Rattle.bitstream.proofs.BitLaws.{value-lt, value-cons, length-bits_of, drop-bytes, field-value}

pub word-step : (bytes : List ℕ) (j sum : ℕ) → j < length bytes → length bytes ≤ 16 → get_or bytes j 0 < 256
    → sum ≡ value (bits_of (drop (suc j) bytes))
    → bit_or (sum * 256 % 2 ^ 128) (get_or bytes j 0) ≡ value (bits_of (drop j bytes))
word-step bytes j sum within small byte is =
    let high = bits_of (drop (suc j) bytes) in
    let bound : sum < 2 ^ length high = rw is (value-lt high) in
    let room : length high + 8 ≤ 128 = omega (arith, length-bits_of (drop (suc j) bytes), length-drop (suc j) bytes) in
    let shifted : sum * 256 % 2 ^ 128 ≡ sum * 256 = shl_whole sum (length high) 8 128 bound room in
    let joined : bit_or (sum * 256) (get_or bytes j 0) ≡ sum * 256 + get_or bytes j 0 = or_shifted sum 8 (get_or bytes j 0) byte in
    let whole : value (bits_of (drop j bytes)) ≡ get_or bytes j 0 + 256 * value high
    = ap (λ s. value (bits_of s)) (drop-cons bytes j 0 within) ∙ value-cons (get_or bytes j 0) (drop (suc j) bytes) byte in
    ap (λ n. bit_or n (get_or bytes j 0)) shifted ∙ joined ∙ omega (arith, is) ∙ sym whole

pub fixed-short : (bytes : List ℕ) (at w : ℕ) → 8 * length bytes < at + w → at ≤ 8 * length bytes
    → fixed_at w (input_at bytes at) ≡ Err (Short at)
fixed-short bytes at w short start =
    let few : length (drop at (bits_of bytes)) < w = omega (arith, length-drop at (bits_of bytes), length-bits_of bytes) in
    rw (lt-ltb _ _ few) refl

pub fixed-ok : (bytes : List ℕ) (at w v : ℕ) → at + w ≤ 8 * length bytes → v ≡ value (take w (drop at (bits_of bytes)))
    → fixed_at w (input_at bytes at) ≡ Ok (v, input_at bytes (at + w))
fixed-ok bytes at w v room is =
    let enough : w ≤ length (drop at (bits_of bytes)) = omega (arith, length-drop at (bits_of bytes), length-bits_of bytes) in
    rw (le-ltb _ _ enough, is) (ap (λ s. Ok (value (take w (drop at (bits_of bytes))), record { at = at + w; bits = s })) (drop-drop w at (bits_of bytes)))

-- the field behind `skip` bits of the bytes from `start` on
pub field-from : (bytes : List ℕ) (start skip w need : ℕ) → need ≤ length (drop start bytes) → skip + w ≤ 8 * need
    → value (take w (drop (8 * start + skip) (bits_of bytes))) ≡ value (bits_of (take need (drop start bytes))) / 2 ^ skip % 2 ^ w
field-from bytes start skip w need fits room =
    ap (λ s. value (take w s)) (sym (drop-drop skip (8 * start) (bits_of bytes)) ∙ ap (drop skip) (drop-bytes start bytes)) ∙ field-value (drop start bytes) skip w need fits room

pub field-here : (bytes : List ℕ) (at w need : ℕ) → need ≤ length (drop (at / 8) bytes) → at % 8 + w ≤ 8 * need
    → value (take w (drop at (bits_of bytes))) ≡ value (bits_of (take need (drop (at / 8) bytes))) / 2 ^ (at % 8) % 2 ^ w
field-here bytes at w need fits room =
    let place : at ≡ 8 * (at / 8) + at % 8 = omega arith in
    ap (λ n. value (take w (drop n (bits_of bytes)))) place ∙ field-from bytes (at / 8) (at % 8) w need fits room

pub masked : (n w : ℕ) → w ≤ 64 → bit_and n (1 * 2 ^ w % 2 ^ 128 - 1) ≡ n % 2 ^ w
masked n w h = rw (one_shl w 128 (omega arith)) (and_mask n w)

-- what the code computes from the bytes that the field touches
pub fixed-code : (bytes rest front : List ℕ) (at w n : ℕ) → w ≤ 64 → at ≤ 8 * length bytes
    → rest ≡ drop (at / 8) bytes → front ≡ take ((at % 8 + w + 7) / 8) rest → (at % 8 + w + 7) / 8 ≤ length rest
    → n ≡ value (bits_of front)
    → fixed_at w (input_at bytes at) ≡ Ok (bit_and (n / 2 ^ (at % 8)) (1 * 2 ^ w % 2 ^ 128 - 1), input_at bytes (at + w))
fixed-code bytes rest front at w n narrow start rest-is front-is room n-is =
    let fits : (at % 8 + w + 7) / 8 ≤ length (drop (at / 8) bytes) = rw (sym rest-is) room in
    let field = field-here bytes at w ((at % 8 + w + 7) / 8) fits (omega arith) in
    let read : n ≡ value (bits_of (take ((at % 8 + w + 7) / 8) (drop (at / 8) bytes)))
    = n-is ∙ ap (λ s. value (bits_of s)) (front-is ∙ ap (take ((at % 8 + w + 7) / 8)) rest-is) in
    fixed-ok bytes at w (bit_and (n / 2 ^ (at % 8)) (1 * 2 ^ w % 2 ^ 128 - 1)) (omega (arith, fits, length-drop (at / 8) bytes))
    (masked (n / 2 ^ (at % 8)) w narrow ∙ ap (λ m. m / 2 ^ (at % 8) % 2 ^ w) read ∙ sym field)

-- eight bytes, the first the lowest
pub eight-value : (bytes : List ℕ) → length bytes ≡ 8 → ((i : ℕ) → get_or bytes i 0 < 256) → from_le_bytes w64 bytes ≡ value (bits_of bytes)
eight-value (a ∷ b ∷ d ∷ e ∷ f ∷ g ∷ h ∷ k ∷ []) long small =
    rw (
      value-cons a (b ∷ d ∷ e ∷ f ∷ g ∷ h ∷ k ∷ []) (small 0),
      value-cons b (d ∷ e ∷ f ∷ g ∷ h ∷ k ∷ []) (small 1),
      value-cons d (e ∷ f ∷ g ∷ h ∷ k ∷ []) (small 2),
      value-cons e (f ∷ g ∷ h ∷ k ∷ []) (small 3),
      value-cons f (g ∷ h ∷ k ∷ []) (small 4),
      value-cons g (h ∷ k ∷ []) (small 5),
      value-cons h (k ∷ []) (small 6),
      value-cons k [] (small 7),
    ) (omega arith)
eight-value _ long small = absurd (omega (arith, long))

pub low_bits : (n w : ℕ) → w ≤ 56 → bit_and n (1 * 2 ^ w % 2 ^ 64 - 1) ≡ n % 2 ^ w
low_bits n w h = rw (one_shl w 64 (omega arith)) (and_mask n w)

-- what the code computes from eight bytes, `over` bits behind
pub fixed-behind : (bytes rest eight : List ℕ) (at over w v : ℕ) → over + w ≤ 56 → at ≤ 8 * length bytes
    → rest ≡ drop (at / 8) bytes → 8 ≤ length rest → eight ≡ take 8 rest → v ≡ value (bits_of eight) / 2 ^ (at % 8 + over) % 2 ^ w
    → fixed_at w (input_at bytes (at + over)) ≡ Ok (v, input_at bytes (at + (over + w)))
fixed-behind bytes rest eight at over w v narrow start rest-is room eight-is v-is =
    let fits : 8 ≤ length (drop (at / 8) bytes) = rw (sym rest-is) room in
    let here : at + over ≡ 8 * (at / 8) + (at % 8 + over) = omega arith in
    let field = ap (λ n. value (take w (drop n (bits_of bytes)))) here ∙ field-from bytes (at / 8) (at % 8 + over) w 8 fits (omega (arith, narrow)) in
    let read : value (bits_of eight) ≡ value (bits_of (take 8 (drop (at / 8) bytes))) = ap (λ s. value (bits_of s)) (eight-is ∙ ap (take 8) rest-is) in
    let behind : at + over + w ≡ at + (over + w) = omega arith in
    fixed-ok bytes (at + over) w v (omega (arith, fits, narrow, length-drop (at / 8) bytes)) (v-is ∙ ap (λ m. m / 2 ^ (at % 8 + over) % 2 ^ w) read ∙ sym field)
    ∙ ap (λ n. Ok (v, input_at bytes n)) behind

-- the same with no bits between
pub fixed-eight : (bytes rest eight : List ℕ) (at w v : ℕ) → w ≤ 56 → at ≤ 8 * length bytes
    → rest ≡ drop (at / 8) bytes → 8 ≤ length rest → eight ≡ take 8 rest → v ≡ value (bits_of eight) / 2 ^ (at % 8) % 2 ^ w
    → fixed_at w (input_at bytes at) ≡ Ok (v, input_at bytes (at + w))
fixed-eight bytes rest eight at w v narrow start rest-is room eight-is v-is =
    let fits : 8 ≤ length (drop (at / 8) bytes) = rw (sym rest-is) room in
    let field = field-here bytes at w 8 fits (omega (arith, narrow)) in
    let read : value (bits_of eight) ≡ value (bits_of (take 8 (drop (at / 8) bytes))) = ap (λ s. value (bits_of s)) (eight-is ∙ ap (take 8) rest-is) in
    fixed-ok bytes at w v (omega (arith, fits, narrow, length-drop (at / 8) bytes)) (v-is ∙ ap (λ m. m / 2 ^ (at % 8) % 2 ^ w) read ∙ sym field)

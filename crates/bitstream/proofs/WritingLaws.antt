-- What a writer adds.
use Rattle.std.proofs.Common.{◌≡◌, ℕ, zero, suc, ◌+◌, ◌*◌, ◌-◌, ◌/◌, ◌%◌, ◌^◌, ◌<◌, ◌≤◌, Bool, List, ◌++◌, length, take, drop, refl, sym, ◌∙◌, ap, arith, bit_or, append_assoc, length-append, length-drop, append-nil}
use Rattle.std.specs.Int.{to_le_bytes, w32, w64, bytes_low_first, byte_at}
use Rattle.std.proofs.lemmas.Nat.{shl_whole, or_shifted, mul-add-lt, pow-add, shr-shr}
use Rattle.std.proofs.lemmas.Grind.{flat_map-append}
use Rattle.std.proofs.Math.Nat.{pow-suc, pow-le-pow_right}
use Rattle.std.proofs.Math.Seq.{take-append_seam}
use Rattle.std.proofs.lemmas.List.{length-take-le, take-append-drop}
use Rattle.bitstream.specs.Bits.{value, bits, bits_of, byte_bits}
use Rattle.bitstream.specs.Writing.{written_of, aligned, pad_of, with_field}
use Rattle.bitstream.proofs.BitLaws.{bits-append, bits-join, bits-mod, length-bits, length-bits_of, drop-bytes}

pub joined-is : (pending count value width : ℕ) → count < 64 → pending < 2 ^ count → width ≤ 64 → value < 2 ^ width
    → bit_or (value * 2 ^ count % 2 ^ 128) pending ≡ value * 2 ^ count + pending
joined-is pending count value width few low narrow fits =
    rw (shl_whole value width count 128 fits (omega arith)) (or_shifted value count pending low)

pub joined-fits : (pending count value width : ℕ) → pending < 2 ^ count → value < 2 ^ width → value * 2 ^ count + pending < 2 ^ (count + width)
joined-fits pending count value width low fits = omega (arith, mul-add-lt value (2 ^ count) pending (2 ^ width) fits low, pow-add 2 count width)

pub packed-is : (pending count value width : ℕ) → pending < 2 ^ count → value < 2 ^ width → count + width ≤ 64
    → bit_or (value * 2 ^ count % 2 ^ 64) pending ≡ value * 2 ^ count + pending
packed-is pending count value width low fits room =
    rw (shl_whole value width count 64 fits (omega (arith, room))) (or_shifted value count pending low)

byte-mod : (x : ℕ) → byte_bits (x % 256) ≡ bits 8 x
unfolding byte_bits
byte-mod x = bits-mod 8 x

powers : (i : ℕ) → 256 ^ i ≡ 2 ^ (8 * i)
powers zero = refl
powers (suc i) = pow-suc 256 i ∙ ap (λ p. p * 256) (powers i) ∙ sym (pow-add 2 (8 * i) 8) ∙ ap (λ e. 2 ^ e) (omega arith)

byte_is : (i n : ℕ) → byte_at i n ≡ n / 2 ^ (8 * i) % 256
byte_is zero n = omega arith
byte_is (suc i) n = ap (λ d. n / d % 256) (powers (suc i))

word-from : (i k n : ℕ) → bits_of (bytes_low_first i k n) ≡ bits (8 * k) (n / 2 ^ (8 * i))
word-from i zero n = refl
word-from i (suc k) n =
    let next : n / 2 ^ (8 * suc i) ≡ n / 2 ^ (8 * i) / 2 ^ 8 = ap (λ e. n / 2 ^ e) (let e : 8 * suc i ≡ 8 * i + 8 = omega arith in e) ∙ sym (shr-shr n (8 * i) 8) in
    let count : 8 * suc k ≡ 8 + 8 * k = omega arith in
    rw (byte_is i n, count) (ap (λ s. s ++ bits_of (bytes_low_first (suc i) k n)) (byte-mod (n / 2 ^ (8 * i)))
    ∙ ap (λ s. bits 8 (n / 2 ^ (8 * i)) ++ s) (word-from (suc i) k n ∙ ap (bits (8 * k)) next)
    ∙ sym (bits-append 8 (8 * k) (n / 2 ^ (8 * i))))

pub word-bits : (n : ℕ) → bits_of (to_le_bytes w64 (n % 2 ^ 64)) ≡ bits 64 n
word-bits n = word-from 0 8 (n % 2 ^ 64) ∙ ap (bits 64) (omega arith) ∙ bits-mod 64 n

pub half_word-bits : (n : ℕ) → bits_of (to_le_bytes w32 (n % 2 ^ 32)) ≡ bits 32 n
half_word-bits n = word-from 0 4 (n % 2 ^ 32) ∙ ap (bits 32) (omega arith) ∙ bits-mod 32 n

-- the value stays pending
pub written-pending : (bytes : List ℕ) (pending count value width all : ℕ) → pending < 2 ^ count → all ≡ value * 2 ^ count + pending
    → written_of bytes (count + width) all ≡ written_of bytes count pending ++ bits width value
unfolding written_of
written-pending bytes pending count value width all low is =
    rw is (ap (λ s. bits_of bytes ++ s) (sym (bits-join count pending width value low)) ∙ sym (append_assoc (bits_of bytes) (bits count pending) (bits width value)))

pub word-bits-32 : (n : ℕ) → bits_of (to_le_bytes w32 n) ≡ bits 32 n
word-bits-32 n = word-from 0 4 n ∙ ap (bits 32) (omega arith)

-- a word of 32 or of 64 bits goes out
pub written-word : (bytes word : List ℕ) (pending count value width all size : ℕ) → bits_of word ≡ bits size all → pending < 2 ^ count → all ≡ value * 2 ^ count + pending → size ≤ count + width
    → written_of (bytes ++ word) (count + width - size) (all / 2 ^ size) ≡ written_of bytes count pending ++ bits width value
unfolding written_of
written-word bytes word pending count value width all size word-is low is room =
    let whole : bits size all ++ bits (count + width - size) (all / 2 ^ size) ≡ bits (count + width) all
    = sym (bits-append size (count + width - size) all) ∙ ap (λ n. bits n all) (omega (arith, room)) in
    ap (λ s. s ++ bits (count + width - size) (all / 2 ^ size)) (flat_map-append byte_bits bytes word ∙ ap (λ s. bits_of bytes ++ s) word-is)
    ∙ append_assoc (bits_of bytes) (bits size all) (bits (count + width - size) (all / 2 ^ size)) ∙ ap (λ s. bits_of bytes ++ s) whole
    ∙ written-pending bytes pending count value width all low is

-- whole words leave nothing pending
pub written-whole : (bytes : List ℕ) (count pending : ℕ) → length bytes % 4 ≡ 0 → count < 32 → length (written_of bytes count pending) % 32 ≡ 0
    → bits_of bytes ≡ written_of bytes count pending
unfolding written_of
written-whole bytes count pending words few whole = none count few (omega (arith, words, few, whole, length-append (bits_of bytes) (bits count pending), length-bits_of bytes, length-bits count pending))
  where
    none : (count : ℕ) → count < 32 → count ≡ 0 → bits_of bytes ≡ bits_of bytes ++ bits count pending
    none zero few is = sym (append-nil (bits_of bytes))
    none (suc k) few is = absurd (omega (arith, is))

-- how many bits there are to the next word
pub pad-written : (bytes : List ℕ) (count pending : ℕ) → length bytes % 4 ≡ 0 → count < 32 → pad_of (length (written_of bytes count pending)) ≡ (32 - count) % 32
unfolding written_of
pad-written bytes count pending words few = omega (arith, words, few, length-append (bits_of bytes) (bits count pending), length-bits_of bytes, length-bits count pending)

pub aligned-written : (bytes : List ℕ) (count pending : ℕ) (after : List Bool) → length bytes % 4 ≡ 0 → count < 32
    → after ≡ written_of bytes count pending ++ bits ((32 - count) % 32) 0 → after ≡ aligned (written_of bytes count pending)
unfolding aligned
aligned-written bytes count pending after words few is = is ∙ ap (λ n. written_of bytes count pending ++ bits n 0) (sym (pad-written bytes count pending words few))

pub length-aligned : (bs : List Bool) → length (aligned bs) % 32 ≡ 0
unfolding aligned
length-aligned bs = omega (arith, length-append bs (bits (pad_of (length bs)) 0), length-bits (pad_of (length bs)) 0)

pub whole-aligned : (bytes : List ℕ) (count pending : ℕ) (before : List Bool) → length bytes % 4 ≡ 0 → count < 32 → written_of bytes count pending ≡ aligned before
    → written_of bytes count pending ≡ bits_of bytes
whole-aligned bytes count pending before words few is = sym (written-whole bytes count pending words few (rw is (length-aligned before)))

-- what was pending is nothing
pub none_pending : (bytes : List ℕ) (count pending : ℕ) → written_of bytes count pending ≡ bits_of bytes → count ≡ 0
unfolding written_of
none_pending bytes count pending whole = omega (arith, ap length whole, length-append (bits_of bytes) (bits count pending), length-bits count pending)

nothing_waits : (bytes : List ℕ) (count pending : ℕ) → count ≡ 0 → written_of bytes count pending ≡ bits_of bytes
unfolding written_of
nothing_waits bytes zero pending e = append-nil (bits_of bytes)
nothing_waits bytes (suc k) pending e = absurd (omega (arith, e))

-- whole words of bytes go out, where nothing waits
pub words_added : (old new words rest : List ℕ) (k : ℕ) (bytes : List ℕ) (count pending : ℕ) → count ≡ 0 → new ≡ old ++ words → words ≡ take k bytes → rest ≡ drop k bytes
    → written_of new count pending ++ bits_of rest ≡ written_of old count pending ++ bits_of bytes
words_added old new words rest k bytes count pending none new-is words-is rest-is =
    let joined : bits_of words ++ bits_of rest ≡ bits_of bytes = rw (words-is, rest-is) (sym (flat_map-append byte_bits (take k bytes) (drop k bytes)) ∙ ap bits_of (take-append-drop k bytes)) in
    ap (λ s. s ++ bits_of rest) (nothing_waits new count pending none ∙ ap bits_of new-is ∙ flat_map-append byte_bits old words) ∙ append_assoc (bits_of old) (bits_of words) (bits_of rest)
    ∙ ap (λ s. bits_of old ++ s) joined ∙ ap (λ s. s ++ bits_of bytes) (sym (nothing_waits old count pending none))

take-bytes : (k : ℕ) (bytes : List ℕ) → k ≤ length bytes → take (8 * k) (bits_of bytes) ≡ bits_of (take k bytes)
take-bytes k bytes within =
    let split : bits_of bytes ≡ bits_of (take k bytes) ++ bits_of (drop k bytes)
    = ap bits_of (sym (take-append-drop k bytes)) ∙ flat_map-append byte_bits (take k bytes) (drop k bytes) in
    let front : 8 * k ≡ length (bits_of (take k bytes)) = omega (arith, length-bits_of (take k bytes), length-take-le k bytes within) in
    ap (take (8 * k)) split ∙ ap (λ n. take n (bits_of (take k bytes) ++ bits_of (drop k bytes))) front ∙ take-append_seam (bits_of (take k bytes)) (bits_of (drop k bytes))

field-bits : (bytes : List ℕ) (at n : ℕ) → at + 4 ≤ length bytes
    → bits_of (take at bytes ++ (to_le_bytes w32 n ++ drop (at + 4) bytes)) ≡ with_field (8 * at) n (bits_of bytes)
unfolding with_field
field-bits bytes at n within =
    let behind : 8 * at + 32 ≡ 8 * (at + 4) = omega arith in
    flat_map-append byte_bits (take at bytes) (to_le_bytes w32 n ++ drop (at + 4) bytes)
    ∙ ap (λ s. bits_of (take at bytes) ++ s) (flat_map-append byte_bits (to_le_bytes w32 n) (drop (at + 4) bytes))
    ∙ rw (behind, take-bytes at bytes (omega (arith, within)), drop-bytes (at + 4) bytes, word-bits-32 n) refl

-- a number over four bytes
pub field-written : (bytes new : List ℕ) (count pending at n : ℕ) → written_of bytes count pending ≡ bits_of bytes → at + 4 ≤ length bytes
    → new ≡ take at bytes ++ (to_le_bytes w32 n ++ drop (at + 4) bytes) → written_of new count pending ≡ with_field (8 * at) n (written_of bytes count pending)
field-written bytes new count pending at n whole within is =
    rw whole (nothing_waits new count pending (none_pending bytes count pending whole) ∙ ap bits_of is ∙ field-bits bytes at n within)

-- the ids of a stream fit each width
pub small_id : (id width : ℕ) → id < 4 → 2 ≤ width → id < 2 ^ width
small_id id width small wide = let p : 2 ^ 2 ≤ 2 ^ width = pow-le-pow_right {n = 2} (omega arith) wide in omega (arith, p, small)

-- four bytes more hold the field
pub field_room : (bytes before : List ℕ) (count pending n : ℕ) → length bytes % 4 ≡ 0 → count < 32 → written_of bytes count pending ≡ bits_of before ++ bits 32 n
    → length before % 4 ≡ 0 → length before + 4 ≤ length bytes
unfolding written_of
field_room bytes before count pending n words few is whole =
    omega (
      arith,
      ap length is,
      length-append (bits_of bytes) (bits count pending),
      length-bits_of bytes,
      length-bits count pending,
      length-append (bits_of before) (bits 32 n),
      length-bits_of before,
      length-bits 32 n,
      words,
      few,
      whole,
    )

pub field_at : (before : List ℕ) (n : ℕ) → length (bits_of before ++ bits 32 n) ≡ 8 * length before + 32
field_at before n = omega (arith, length-append (bits_of before) (bits 32 n), length-bits_of before, length-bits 32 n)

pub length-field : (bytes word : List ℕ) (at : ℕ) → at + 4 ≤ length bytes → length word ≡ 4 → length (take at bytes ++ (word ++ drop (at + 4) bytes)) ≡ length bytes
length-field bytes word at within four = omega (arith, within, four, length-append (take at bytes) (word ++ drop (at + 4) bytes), length-append word (drop (at + 4) bytes), length-take-le at bytes, length-drop (at + 4) bytes)

-- whole words with nothing behind them
pub words-written : (bytes : List ℕ) (count pending : ℕ) → count ≡ 0 → length bytes % 4 ≡ 0 → length (written_of bytes count pending) % 32 ≡ 0
words-written bytes count pending none words = omega (arith, words, ap length (nothing_waits bytes count pending none), length-bits_of bytes)

-- Slices of the input.
use Rattle.std.proofs.Common.{◌≡◌, ℕ, zero, suc, ◌+◌, ◌*◌, ◌/◌, ◌%◌, ◌<◌, ◌≤◌, Bool, List, [], ◌∷◌, ◌++◌, length, take, drop, get_or, refl, sym, ◌∙◌, ap, arith, length-drop, le-ltb, lt-ltb, Ok, Err}
use Rattle.std.proofs.lemmas.List.{drop-drop, get_or-drop}
use Rattle.std.proofs.Math.Seq.{drop-append_seam, take-append_seam}
use Rattle.bitstream.specs.declared.item.BitFault.TheVariants.{Short}
use Rattle.bitstream.specs.Bits.{bits_of, byte_bits}
use Rattle.bitstream.specs.Fields.{input_at}
use Rattle.bitstream.specs.Stream.{bytes_at, whole_bytes}
use Rattle.bitstream.proofs.BitLaws.{byte-value, byte-length, length-bits_of, drop-bytes}

pub take-byte : (b : ℕ) (rest : List Bool) → take 8 (byte_bits b ++ rest) ≡ byte_bits b
take-byte b rest = ap (λ n. take n (byte_bits b ++ rest)) (sym (byte-length b)) ∙ take-append_seam (byte_bits b) rest

pub drop-byte : (b : ℕ) (rest : List Bool) → drop 8 (byte_bits b ++ rest) ≡ rest
drop-byte b rest = ap (λ n. drop n (byte_bits b ++ rest)) (sym (byte-length b)) ∙ drop-append_seam (byte_bits b) rest

bytes-back : (n : ℕ) (bytes : List ℕ) → n ≤ length bytes → ((i : ℕ) → get_or bytes i 0 < 256) → whole_bytes n (bits_of bytes) ≡ take n bytes
bytes-back zero bytes within fits = refl
bytes-back (suc n) [] within fits = absurd (omega (arith, within))
bytes-back (suc n) (b ∷ bytes) within fits =
    rw (take-byte b (bits_of bytes), drop-byte b (bits_of bytes), byte-value b (fits 0), bytes-back n bytes (omega (arith, within)) (λ i. fits (suc i))) refl

-- the slice of the code
pub bytes-read : (bytes rest found : List ℕ) (at n : ℕ) → at % 8 ≡ 0 → at + 8 * n ≤ 8 * length bytes → rest ≡ drop (at / 8) bytes → found ≡ take n rest
    → ((i : ℕ) → get_or bytes i 0 < 256) → bytes_at n (input_at bytes at) ≡ Ok (found, input_at bytes (at + 8 * n))
unfolding bytes_at
bytes-read bytes rest found at n whole room rest-is found-is fits =
    let enough : 8 * n ≤ length (drop at (bits_of bytes)) = omega (arith, room, length-drop at (bits_of bytes), length-bits_of bytes) in
    let here : drop at (bits_of bytes) ≡ bits_of rest
    = ap (λ k. drop k (bits_of bytes)) (let e : at ≡ 8 * (at / 8) = omega (arith, whole) in e) ∙ drop-bytes (at / 8) bytes ∙ ap bits_of (sym rest-is) in
    let within : n ≤ length rest = omega (arith, ap length rest-is, length-drop (at / 8) bytes, room, whole) in
    let found' : whole_bytes n (drop at (bits_of bytes)) ≡ found
    = ap (whole_bytes n) here ∙ bytes-back n rest within (λ i. rw (rest-is, get_or-drop (at / 8) bytes i 0) (fits (at / 8 + i))) ∙ sym found-is in
    rw (le-ltb _ _ enough, found', drop-drop (8 * n) at (bits_of bytes)) refl

pub bytes-short : (bytes : List ℕ) (at n : ℕ) → 8 * length bytes < at + 8 * n → at ≤ 8 * length bytes → bytes_at n (input_at bytes at) ≡ Err (Short at)
unfolding bytes_at
bytes-short bytes at n short start = let few : length (drop at (bits_of bytes)) < 8 * n = omega (arith, short, start, length-drop at (bits_of bytes), length-bits_of bytes) in rw (lt-ltb _ _ few) refl

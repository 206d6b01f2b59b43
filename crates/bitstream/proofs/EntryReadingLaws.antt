-- The next item, entry by entry.
use Rattle.std.proofs.Common.{◌≡◌, ℕ, suc, ◌-◌, ◌<◌, true, false, List, [], ◌∷◌, length, drop, get_or, ◌==◌, arith, refl, sym, ◌∙◌, Ok, Err, Result, Some, None, Option}
use Rattle.bitstream.specs.declared.item.BitFault.{BitFault}
use Rattle.bitstream.specs.declared.item.AbbrevOp.{AbbrevOp}
use Rattle.bitstream.specs.declared.item.AbbrevOp.TheVariants.{Literal, Vbr, Blob}
use Rattle.bitstream.specs.Fields.{Input}
use Rattle.bitstream.proofs.ListLaws.{prefixed-none}
use Rattle.bitstream.specs.Stream.{scalar_at, blob_at, values_at, behind_numbers, Values, numbers_at, prefixed, HasHead}
use Rattle.bitstream.specs.Scopes.{abbrev_in}
use Rattle.bitstream.specs.Reading.{Context, Seen, Record, at_end, entry_at, next_at, left_at, judged, abbreviated_at, blob_record_at, by_abbrev}

pub next-some : (n left : ℕ) (c after : Context) (p q : Input) (s : Seen) → left ≡ suc n → at_end c p ≡ false → entry_at c p ≡ Ok ((Some s, after), q)
    → next_at left c p ≡ Ok ((p.at, s, after), q)
next-some n left c after p q s count more is = rw (count, more, is) refl

pub next-none : (n left : ℕ) (c after : Context) (p q : Input) → left ≡ suc n → at_end c p ≡ false → entry_at c p ≡ Ok ((None, after), q)
    → next_at left c p ≡ next_at n after q
next-none n left c after p q count more is = rw (count, more, is) refl

pub next-err : (n left : ℕ) (c : Context) (p : Input) (e : BitFault) → left ≡ suc n → at_end c p ≡ false → entry_at c p ≡ Err e → next_at left c p ≡ Err e
next-err n left c p e count more is = rw (count, more, is) refl

pub behind-none : (r : Result (Values × Input) BitFault) → behind_numbers [] r ≡ r
behind-none (Ok r) = refl
behind-none (Err e) = refl

pub abbreviated-is : (at id : ℕ) (c : Context) (p q : Input) (ops : List AbbrevOp) (code : ℕ) (numbers rest : List ℕ) (blob : Option (List ℕ))
    → abbrev_in c.scope c.block_info c.abbrevs (id - 4) ≡ Some ops → values_at ops p ≡ Ok (record { numbers = numbers; blob = blob }, q) → numbers ≡ code ∷ rest
    → abbreviated_at at id c p ≡ judged at code rest blob c q
abbreviated-is at id c p q ops code numbers rest blob found is numbers-is = rw (found, is, numbers-is) refl

pub abbreviated-none : (at id : ℕ) (c : Context) (p q : Input) (ops : List AbbrevOp) (numbers : List ℕ) (blob : Option (List ℕ))
    → abbrev_in c.scope c.block_info c.abbrevs (id - 4) ≡ Some ops → values_at ops p ≡ Ok (record { numbers = numbers; blob = blob }, q) → numbers ≡ []
    → abbreviated_at at id c p ≡ judged at 0 numbers blob c q
abbreviated-none at id c p q ops numbers blob found is numbers-is = rw (found, is, numbers-is) refl

pub uncons : (xs rest : List ℕ) (x : ℕ) → 0 < length xs → x ≡ get_or xs 0 x → rest ≡ drop 1 xs → xs ≡ x ∷ rest
uncons [] rest x some a b = absurd (omega (arith, some))
uncons (y ∷ ys) rest x some a b = rw (a, b) refl

pub none_left : (xs : List ℕ) (n : ℕ) → (n == 0) ≡ true → length xs ≡ n → xs ≡ []
none_left [] n none len = refl
none_left (x ∷ xs) n none len = let h : (suc (length xs) == 0) ≡ true = rw (sym len) at none in absurd (grind (arith, h))

pub some_left : (xs : List ℕ) (n : ℕ) → (n == 0) ≡ false → length xs ≡ n → 0 < length xs
some_left [] n some len = let h : (0 == 0) ≡ false = rw (sym len) at some in absurd (grind (arith, h))
some_left (x ∷ xs) n some len = omega arith

-- a record without an abbreviation comes next, in a block that isn't BLOCKINFO
pub next-plain : (c : Context) (p d q : Input) (code count : ℕ) (numbers : List ℕ) → (length c.outer == 0) ≡ false → (c.scope.block == 0) ≡ false
    → HasHead c.scope.width p 3 code count d → prefixed [] (numbers_at count (Vbr 6) d) ≡ Ok (numbers, q)
    → next_at (left_at p) c p ≡ Ok ((p.at, Record code numbers None, c), q)
next-plain c p d q code count numbers inside shows head numbers-are =
    let all : numbers_at count (Vbr 6) d ≡ Ok (numbers, q) = sym (prefixed-none (numbers_at count (Vbr 6) d)) ∙ numbers-are in
    let entry : entry_at c p ≡ Ok ((Some (Record code numbers None), c), q) = rw (head.2, inside, head.3, head.4, all, shows) refl in
    next-some (length p.bits) (left_at p) c c p q (Record code numbers None) (omega arith) (rw inside refl) entry

-- a record by an abbreviation that is a literal and a blob
pub abbreviated-blob : (at id : ℕ) (c : Context) (p : Input) (code : ℕ) → abbrev_in c.scope c.block_info c.abbrevs (id - 4) ≡ Some (Literal code ∷ Blob ∷ [])
    → abbreviated_at at id c p ≡ blob_record_at at code c p
unfolding scalar_at
abbreviated-blob at id c p code found = rw found (by_blob (blob_at p) refl)
  where
    by_blob : (r : Result (List ℕ × Input) BitFault) → blob_at p ≡ r → by_abbrev at id (Some (Literal code ∷ Blob ∷ [])) c p ≡ blob_record_at at code c p
    by_blob (Ok b) is = rw is refl
    by_blob (Err e) is = rw is refl

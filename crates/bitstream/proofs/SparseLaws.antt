-- Records of which many numbers take no bits: what is read of them makes the whole.
use Rattle.std.proofs.Common.{◌≡◌, ℕ, zero, suc, ◌+◌, ◌-◌, ◌<◌, ◌≤◌, ◌==◌, Bool, true, false, List, [], ◌∷◌, ◌++◌, length, take, drop, refl, sym, ◌∙◌, ap, arith, le-ltb, ltb-false, ltb-true, length-drop, nat_lt, Ok, Err, Result, Some, None, Option, if◌then◌else◌, All, IsTrue}
use Rattle.std.proofs.lemmas.List.Elements.{All-cons, All-head, All-tail}
use Rattle.bitstream.specs.declared.item.BitFault.{BitFault}
use Rattle.bitstream.specs.declared.item.AbbrevOp.{AbbrevOp}
use Rattle.bitstream.specs.declared.item.AbbrevOp.TheVariants.{Literal, Fixed, Vbr, Array, Char6, Blob}
use Rattle.bitstream.specs.Fields.{Input, after, fixed_at, vbr_at}
use Rattle.bitstream.specs.Stream.{Values, has_width, is_array, is_blob, scalar_at, values_at, behind_numbers}
use Rattle.bitstream.specs.Sparse.{takes_bits, ops_in_bits, free_number, filled, filled_values}
use Rattle.bitstream.specs.Reading.{Context, Seen, Record, by_abbrev, abbreviated_at, judged, judged_values, named_by}
use Rattle.bitstream.specs.Scopes.{abbrev_in}
use Rattle.bitstream.proofs.GroupLaws.{ok_value, vbr-none}
use Rattle.bitstream.proofs.EntryReadingLaws.{behind-none}

fixed-none : (p : Input) → fixed_at 0 p ≡ Ok (0, p)
fixed-none p =
    let here : Input → Result (ℕ × Input) BitFault = λ q. Ok (0, q) in
    let back : (let q : Input = record { at = p.at + 0; bits = p.bits } in q) ≡ p = ap (λ n. record { at = n; bits = p.bits }) (let e : p.at + 0 ≡ p.at = omega arith in e) in
    rw (le-ltb (length p.bits) 0 (omega arith)) (ap here back)

free-read : (op : AbbrevOp) (p : Input) → takes_bits op ≡ false → scalar_at op p ≡ Ok (free_number op, p)
unfolding scalar_at
free-read (Literal n) p t = refl
free-read (Fixed w) p t = let none : w ≡ 0 = omega (arith, ltb-false 0 w t) in rw none (fixed-none p)
free-read (Vbr w) p t = let none : w ≡ 0 = omega (arith, ltb-false 0 w t) in rw none (vbr-none p)
free-read Array p t = absurd cc
free-read Char6 p t = absurd cc
free-read Blob p t = absurd cc

same-values : (ops : List AbbrevOp) (r : Result (Values × Input) BitFault) → ((xs : List ℕ) → filled ops xs ≡ xs) → filled_values ops r ≡ r
same-values ops (Ok r) h = ap (λ (ns : List ℕ). Ok (record { numbers = ns; blob = (r.0).blob }, r.1)) (h (r.0).numbers)
same-values ops (Err e) h = refl

taken-more : (op : AbbrevOp) (ops : List AbbrevOp) (n : ℕ) (r : Result (Values × Input) BitFault) → is_array op ≡ false → is_blob op ≡ false → takes_bits op ≡ true
    → filled_values (op ∷ ops) (behind_numbers (n ∷ []) r) ≡ behind_numbers (n ∷ []) (filled_values ops r)
taken-more op ops n (Ok r) a b t = rw (a, b, t) refl
taken-more op ops n (Err e) a b t = refl

free-more : (op : AbbrevOp) (ops : List AbbrevOp) (r : Result (Values × Input) BitFault) → is_array op ≡ false → is_blob op ≡ false → takes_bits op ≡ false
    → filled_values (op ∷ ops) r ≡ behind_numbers (free_number op ∷ []) (filled_values ops r)
free-more op ops (Ok r) a b t = rw (a, b, t) refl
free-more op ops (Err e) a b t = refl

filled-step : (op : AbbrevOp) (ops : List AbbrevOp) (p : Input) → ((q : Input) → filled_values ops (values_at (ops_in_bits ops) q) ≡ values_at ops q)
    → filled_values (op ∷ ops) (values_at (ops_in_bits (op ∷ ops)) p) ≡ values_at (op ∷ ops) p
filled-step op ops p more = by_array (is_array op) refl
  where
    is-whole : ops_in_bits (op ∷ ops) ≡ op ∷ ops → ((xs : List ℕ) → filled (op ∷ ops) xs ≡ xs) → filled_values (op ∷ ops) (values_at (ops_in_bits (op ∷ ops)) p) ≡ values_at (op ∷ ops) p
    is-whole kept same = ap (λ xs. filled_values (op ∷ ops) (values_at xs p)) kept ∙ same-values (op ∷ ops) (values_at (op ∷ ops) p) same

    by_scalar : is_array op ≡ false → is_blob op ≡ false → takes_bits op ≡ true → (s : Result (ℕ × Input) BitFault) → scalar_at op p ≡ s
        → filled_values (op ∷ ops) (values_at (op ∷ ops_in_bits ops) p) ≡ values_at (op ∷ ops) p
    by_scalar a b t (Ok x) s =
        let left : values_at (op ∷ ops_in_bits ops) p ≡ behind_numbers (x.0 ∷ []) (values_at (ops_in_bits ops) x.1) = rw (a, b, s) refl in
        let right : values_at (op ∷ ops) p ≡ behind_numbers (x.0 ∷ []) (values_at ops x.1) = rw (a, b, s) refl in
        ap (filled_values (op ∷ ops)) left ∙ taken-more op ops x.0 (values_at (ops_in_bits ops) x.1) a b t ∙ ap (behind_numbers (x.0 ∷ [])) (more x.1) ∙ sym right
    by_scalar a b t (Err e) s =
        let left : values_at (op ∷ ops_in_bits ops) p ≡ Err e = rw (a, b, s) refl in
        let right : values_at (op ∷ ops) p ≡ Err e = rw (a, b, s) refl in
        ap (filled_values (op ∷ ops)) left ∙ sym right

    by_takes : is_array op ≡ false → is_blob op ≡ false → (takes : Bool) → takes_bits op ≡ takes → filled_values (op ∷ ops) (values_at (ops_in_bits (op ∷ ops)) p) ≡ values_at (op ∷ ops) p
    by_takes a b true t =
        let kept : ops_in_bits (op ∷ ops) ≡ op ∷ ops_in_bits ops = rw (a, b, t) refl in
        ap (λ xs. filled_values (op ∷ ops) (values_at xs p)) kept ∙ by_scalar a b t (scalar_at op p) refl
    by_takes a b false t =
        let kept : ops_in_bits (op ∷ ops) ≡ ops_in_bits ops = rw (a, b, t) refl in
        let right : values_at (op ∷ ops) p ≡ behind_numbers (free_number op ∷ []) (values_at ops p) = rw (a, b, free-read op p t) refl in
        ap (λ xs. filled_values (op ∷ ops) (values_at xs p)) kept ∙ free-more op ops (values_at (ops_in_bits ops) p) a b t ∙ ap (behind_numbers (free_number op ∷ [])) (more p) ∙ sym right

    by_blob : is_array op ≡ false → (blob : Bool) → is_blob op ≡ blob → filled_values (op ∷ ops) (values_at (ops_in_bits (op ∷ ops)) p) ≡ values_at (op ∷ ops) p
    by_blob a true b = is-whole (rw (a, b) refl) (λ xs. rw (a, b) refl)
    by_blob a false b = by_takes a b (takes_bits op) refl

    by_array : (array : Bool) → is_array op ≡ array → filled_values (op ∷ ops) (values_at (ops_in_bits (op ∷ ops)) p) ≡ values_at (op ∷ ops) p
    by_array true a = is-whole (rw a refl) (λ xs. rw a refl)
    by_array false a = by_blob a (is_blob op) refl

widths-step : (op : AbbrevOp) (ops : List AbbrevOp) → All (λ o. IsTrue (has_width o)) (op ∷ ops) → All (λ o. IsTrue (has_width o)) (ops_in_bits ops) → All (λ o. IsTrue (has_width o)) (ops_in_bits (op ∷ ops))
widths-step op ops all more = by_array (is_array op) refl
  where
    by_takes : is_array op ≡ false → is_blob op ≡ false → (takes : Bool) → takes_bits op ≡ takes → All (λ o. IsTrue (has_width o)) (ops_in_bits (op ∷ ops))
    by_takes a b true t = rw (a, b, t) (All-cons (λ o. IsTrue (has_width o)) op (ops_in_bits ops) (All-head (λ o. IsTrue (has_width o)) op ops all) more)
    by_takes a b false t = rw (a, b, t) more

    by_blob : is_array op ≡ false → (blob : Bool) → is_blob op ≡ blob → All (λ o. IsTrue (has_width o)) (ops_in_bits (op ∷ ops))
    by_blob a true b = rw (a, b) all
    by_blob a false b = by_takes a b (takes_bits op) refl

    by_array : (array : Bool) → is_array op ≡ array → All (λ o. IsTrue (has_width o)) (ops_in_bits (op ∷ ops))
    by_array true a = rw a all
    by_array false a = by_blob a (is_blob op) refl

pub widths-kept : (ops : List AbbrevOp) → All (λ o. IsTrue (has_width o)) ops → All (λ o. IsTrue (has_width o)) (ops_in_bits ops)
widths-kept [] all = all
widths-kept (op ∷ ops) all = widths-step op ops all (widths-kept ops (All-tail (λ o. IsTrue (has_width o)) op ops all))

-- What takes bits, filled up with what takes none, is the record.
pub filled-is : (ops : List AbbrevOp) (p : Input) → filled_values ops (values_at (ops_in_bits ops) p) ≡ values_at ops p
filled-is [] p = refl
filled-is (op ∷ ops) p = filled-step op ops p (filled-is ops)

behind-read : (n : ℕ) (r : Result (Values × Input) BitFault) (v : Values) (q : Input) → behind_numbers (n ∷ []) r ≡ Ok (v, q)
    → (w : Values) × (r ≡ Ok (w, q)) × (length v.numbers ≡ suc (length w.numbers))
behind-read n (Ok s) v q is = let e = ok_value _ _ is in (s.0, ap (λ (y : Input). Ok (s.0, y)) (ap (λ x. x.1) e), sym (ap (λ x. length (x.0).numbers) e))
behind-read n (Err e) v q is = absurd cc

abbrev HasAll : List AbbrevOp → Values → Type 0
HasAll ops v = length ops ≤ length v.numbers + length (ops_in_bits ops)

many-step : (op : AbbrevOp) (ops : List AbbrevOp) (p q : Input) (v : Values) → ((a b : Input) (w : Values) → values_at ops a ≡ Ok (w, b) → HasAll ops w)
    → values_at (op ∷ ops) p ≡ Ok (v, q) → HasAll (op ∷ ops) v
many-step op ops p q v more is = by_array (is_array op) refl
  where
    by_takes : (w : Values) → HasAll ops w → length v.numbers ≡ suc (length w.numbers) → is_array op ≡ false → is_blob op ≡ false → (takes : Bool) → takes_bits op ≡ takes → HasAll (op ∷ ops) v
    by_takes w h len a b true t = rw (a, b, t) (omega (arith, h, len))
    by_takes w h len a b false t = rw (a, b, t) (omega (arith, h, len))

    by_scalar : is_array op ≡ false → is_blob op ≡ false → (s : Result (ℕ × Input) BitFault) → scalar_at op p ≡ s → HasAll (op ∷ ops) v
    by_scalar a b (Ok x) s =
        let whole : values_at (op ∷ ops) p ≡ behind_numbers (x.0 ∷ []) (values_at ops x.1) = rw (a, b, s) refl in
        let r = behind-read x.0 (values_at ops x.1) v q (sym whole ∙ is) in
        by_takes r.0 (more x.1 q r.0 r.1) r.2 a b (takes_bits op) refl
    by_scalar a b (Err e) s = let whole : values_at (op ∷ ops) p ≡ Err e = rw (a, b, s) refl in let h = sym whole ∙ is in absurd cc

    by_blob : is_array op ≡ false → (blob : Bool) → is_blob op ≡ blob → HasAll (op ∷ ops) v
    by_blob a true b = rw (a, b) (omega arith)
    by_blob a false b = by_scalar a b (scalar_at op p) refl

    by_array : (array : Bool) → is_array op ≡ array → HasAll (op ∷ ops) v
    by_array true a = rw a (omega arith)
    by_array false a = by_blob a (is_blob op) refl

-- A record has a number for each operand that takes no bits.
pub has-all : (ops : List AbbrevOp) (p q : Input) (v : Values) → values_at ops p ≡ Ok (v, q) → HasAll ops v
has-all [] p q v is = omega arith
has-all (op ∷ ops) p q v is = many-step op ops p q v (has-all ops) is

pub sparse-read : (ops parts : List AbbrevOp) (p q : Input) (old in_bits : List ℕ) (blob : Option (List ℕ)) → parts ≡ ops_in_bits ops → old ≡ []
    → behind_numbers old (values_at parts p) ≡ Ok (record { numbers = in_bits; blob = blob }, q)
    → values_at ops p ≡ Ok (record { numbers = filled ops in_bits; blob = blob }, q)
sparse-read ops parts p q old in_bits blob parts-is old-is is =
    let read : behind_numbers [] (values_at (ops_in_bits ops) p) ≡ Ok (record { numbers = in_bits; blob = blob }, q) = rw (sym parts-is, sym old-is) is in
    sym (filled-is ops p) ∙ ap (filled_values ops) (sym (behind-none (values_at (ops_in_bits ops) p)) ∙ read)

pub sparse-err : (at : ℕ) (ops parts : List AbbrevOp) (c : Context) (p : Input) (old : List ℕ) (e : BitFault) → parts ≡ ops_in_bits ops → old ≡ []
    → behind_numbers old (values_at parts p) ≡ Err e → by_abbrev at 0 (Some ops) c p ≡ Err e
sparse-err at ops parts c p old e parts-is old-is is =
    let read : behind_numbers [] (values_at (ops_in_bits ops) p) ≡ Err e = rw (sym parts-is, sym old-is) is in
    let whole : values_at ops p ≡ Err e = sym (filled-is ops p) ∙ ap (filled_values ops) (sym (behind-none (values_at (ops_in_bits ops) p)) ∙ read) in
    rw whole refl

-- What a record is, of which these numbers take bits.
pub sparse-is : (at : ℕ) (ops parts whole : List AbbrevOp) (c : Context) (p q : Input) (old in_bits numbers : List ℕ) (blob : Option (List ℕ)) → parts ≡ ops_in_bits ops → old ≡ []
    → behind_numbers old (values_at parts p) ≡ Ok (record { numbers = in_bits; blob = blob }, q) → whole ≡ ops → numbers ≡ in_bits
    → by_abbrev at 0 (Some ops) c p ≡ judged_values at (filled whole numbers) blob c q
sparse-is at ops parts whole c p q old in_bits numbers blob parts-is old-is is whole-is numbers-is =
    rw (whole-is, numbers-is, sparse-read ops parts p q old in_bits blob parts-is old-is is) refl

pub item-is : (at code : ℕ) (ns rest : List ℕ) (blob : Option (List ℕ)) (c : Context) (p : Input) → (c.scope.block == 0) ≡ false → ns ≡ code ∷ rest
    → judged_values at ns blob c p ≡ Ok ((Some (Record code (drop 1 ns) blob), c), p)
item-is at code ns rest blob c p block is = rw (is, block) refl

pub nothing-is : (at : ℕ) (ns none : List ℕ) (blob : Option (List ℕ)) (c : Context) (p : Input) → ns ≡ [] → none ≡ []
    → judged_values at ns blob c p ≡ judged at 0 none blob c p
nothing-is at ns none blob c p is none-is = rw (is, none-is) refl

pub many-numbers : (ops parts : List AbbrevOp) (p q : Input) (old in_bits : List ℕ) (blob : Option (List ℕ)) → parts ≡ ops_in_bits ops → old ≡ []
    → behind_numbers old (values_at parts p) ≡ Ok (record { numbers = in_bits; blob = blob }, q) → nat_lt 8 (length ops - length (ops_in_bits ops)) ≡ true
    → 8 ≤ length (drop 1 (filled ops in_bits))
many-numbers ops parts p q old in_bits blob parts-is old-is is many =
    let all = has-all ops p q (record { numbers = filled ops in_bits; blob = blob }) (sparse-read ops parts p q old in_bits blob parts-is old-is is) in
    omega (arith, all, ltb-true 8 (length ops - length (ops_in_bits ops)) many, length-drop 1 (filled ops in_bits))

-- a record by the abbreviation that has the id
pub abbreviated-sparse : (at id : ℕ) (c : Context) (p : Input) (ops shared : List AbbrevOp) → abbrev_in c.scope c.block_info c.abbrevs (id - 4) ≡ Some ops → shared ≡ ops
    → abbreviated_at at id c p ≡ by_abbrev at 0 (Some shared) c p
abbreviated-sparse at id c p ops shared found is = rw (found, is) refl

-- In BLOCKINFO a record with the code of SETBID names a block by its second number.
pub passed-named : (at code n : ℕ) (ns rest : List ℕ) (blob : Option (List ℕ)) (c : Context) (p : Input) → c.scope.block ≡ 0 → (code == 1) ≡ true → ns ≡ code ∷ (n ∷ rest)
    → judged_values at ns blob c p ≡ named_by at (n ∷ rest) c p
passed-named at code n ns rest blob c p block one is = rw (is, block, one) refl

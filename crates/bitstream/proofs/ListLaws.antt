-- Lists that are read one by one.
use Rattle.std.proofs.Common.{◌≡◌, ℕ, suc, Bool, true, false, List, [], ◌∷◌, ◌++◌, refl, sym, ap, append_assoc, Ok, Err, Result}
use Rattle.bitstream.specs.declared.item.BitFault.{BitFault}
use Rattle.bitstream.specs.declared.item.AbbrevOp.{AbbrevOp}
use Rattle.bitstream.specs.declared.item.AbbrevOp.TheVariants.{Vbr}
use Rattle.bitstream.specs.Fields.{Input, vbr_at}
use Rattle.bitstream.specs.Stream.{scalar_at, numbers_at, prefixed, op_at, ops_at, may_stand, is_array}

prefixed-prefixed : {A : Type 0} (xs ys : List A) (r : Result (List A × Input) BitFault) → prefixed xs (prefixed ys r) ≡ prefixed (xs ++ ys) r
prefixed-prefixed xs ys (Ok r) = ap (λ s. Ok (s, r.1)) (sym (append_assoc xs ys r.0))
prefixed-prefixed xs ys (Err e) = refl

pub prefixed-none : {A : Type 0} (r : Result (List A × Input) BitFault) → prefixed [] r ≡ r
prefixed-none (Ok r) = refl
prefixed-none (Err e) = refl

pub numbers-step : (xs new : List ℕ) (n left : ℕ) (op : AbbrevOp) (p q : Input) (x : ℕ) → left ≡ suc n → scalar_at op p ≡ Ok (x, q) → new ≡ xs ++ x ∷ []
    → prefixed new (numbers_at n op q) ≡ prefixed xs (numbers_at left op p)
numbers-step xs new n left op p q x count is new-is = rw (count, is, new-is) (sym (prefixed-prefixed xs (x ∷ []) (numbers_at n op q)))

-- the same of numbers in groups of six bits
pub vbrs-step : (xs new : List ℕ) (n left : ℕ) (p q : Input) (x : ℕ) → left ≡ suc n → vbr_at 6 p ≡ Ok (x, q) → new ≡ xs ++ x ∷ []
    → prefixed new (numbers_at n (Vbr 6) q) ≡ prefixed xs (numbers_at left (Vbr 6) p)
unfolding scalar_at
vbrs-step xs new n left p q x count is new-is = numbers-step xs new n left (Vbr 6) p q x count is new-is

pub ops-step : (ops new : List AbbrevOp) (entered n left : ℕ) (first in_array : Bool) (p q : Input) (op : AbbrevOp) → left ≡ suc n → op_at entered p ≡ Ok (op, q)
    → may_stand first in_array n op ≡ true → new ≡ ops ++ op ∷ []
    → prefixed new (ops_at entered n false (is_array op) q) ≡ prefixed ops (ops_at entered left first in_array p)
ops-step ops new entered n left first in_array p q op count is stands new-is =
    rw (count, is, stands, new-is) (sym (prefixed-prefixed ops (op ∷ []) (ops_at entered n false (is_array op) q)))

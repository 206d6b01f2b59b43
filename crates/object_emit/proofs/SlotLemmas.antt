-- Where values begin that stand one behind the other.
use Rattle.std.proofs.Common.{ℕ, zero, suc, ◌<◌, ◌≤◌, ◌+◌, List, [], ◌∷◌, length, arith}
use Rattle.std.proofs.lemmas.List.Sums.{sum_by-cons}
use Rattle.dep_key.specs.declared.key.Key.{Key}
use Rattle.type_rules.specs.declared.ty.Ty.{Ty}
use Rattle.type_rules.specs.declared.meaning.Meaning.{Meaning}
use Rattle.object_emit.specs.Layouts.{words, total}
use Rattle.object_emit.specs.Laws.{begins, ends}

pub slots_within : (answers : Key → Meaning) (first : ℕ) (types : List Ty) (i : ℕ) → i < length types →
    (first ≤ begins answers first types i) × (ends answers first types i ≤ first + total answers types)
unfolding total
slots_within answers first [] i l = absurd (omega (arith, l))
slots_within answers first (of ∷ types) zero l = (omega arith, omega (arith, sum_by-cons (words answers) of types))
slots_within answers first (of ∷ types) (suc i) l =
    let rest = slots_within answers (first + words answers of) types i (omega (arith, l)) in
    (omega (arith, rest.0), omega (arith, rest.1, sum_by-cons (words answers) of types))

pub slots_apart : (answers : Key → Meaning) (first : ℕ) (types : List Ty) (i j : ℕ) → i < j → j < length types → ends answers first types i ≤ begins answers first types j
slots_apart answers first [] i j b l = absurd (omega (arith, l))
slots_apart answers first (of ∷ types) zero zero b l = absurd (omega (arith, b))
slots_apart answers first (of ∷ types) zero (suc j) b l = (slots_within answers (first + words answers of) types j (omega (arith, l))).0
slots_apart answers first (of ∷ types) (suc i) zero b l = absurd (omega (arith, b))
slots_apart answers first (of ∷ types) (suc i) (suc j) b l = slots_apart answers (first + words answers of) types i j (omega (arith, b)) (omega (arith, l))

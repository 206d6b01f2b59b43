-- A record with more operands than any has can't stand anywhere.
use Rattle.std.proofs.Common.{◌≡◌, ℕ, ◌==◌, ◌≤◌, ◌<◌, Bool, true, false, cond, ◌&&◌, if◌then◌else◌, List, length, Option, Result, Ok, Err, refl, arith, eqb-true}
use Rattle.std.specs.Prelude.{is_none}
use Rattle.dep_key.specs.declared.key.Key.{Key}
use Rattle.swiftdeps.specs.declared.fault.DepsFault.{DepsFault}
use Rattle.swiftdeps.specs.declared.fault.DepsFault.TheVariants as faults
use Rattle.swiftdeps.specs.Stages.{takes_version, takes_identifier, takes_node, takes_print, takes_use, takes_file}
use Rattle.swiftdeps.specs.Judging.{State, ◌>>=◌, key_in, version_at, identifier_at, file_at, node_at, print_at, use_at, record_at}

other : (n m : ℕ) → m < n → (n == m) ≡ false
other n m above = by_test (n == m) refl
  where
    by_test : (same : Bool) → (n == m) ≡ same → (n == m) ≡ false
    by_test true t = absurd (omega (arith, above, eqb-true n m t))
    by_test false t = t

choose : (at : ℕ) (c : Bool) (x y : Result State DepsFault) → x ≡ Err (faults.RecordOrder at) → y ≡ Err (faults.RecordOrder at) → (if c then x else y) ≡ Err (faults.RecordOrder at)
choose at true x y a b = a
choose at false x y a b = b

barred : (at : ℕ) (a b : Bool) (x : Result State DepsFault) → (if a && (b && false) then x else Err (faults.RecordOrder at)) ≡ Err (faults.RecordOrder at)
barred at true true x = refl
barred at true false x = refl
barred at false b x = refl

fails : (at : ℕ) (b : Bool) (x : Result Key DepsFault) (f : Key → Result State DepsFault) → ((if b && false then x else Err (faults.RecordOrder at)) >>= f) ≡ Err (faults.RecordOrder at)
fails at true x f = refl
fails at false x f = refl

pub long_record : (one : Bool) (at code : ℕ) (ops : List ℕ) (blob : Option (List ℕ)) (s : State) → 8 ≤ length ops → record_at one at code ops blob s ≡ Err (faults.RecordOrder at)
unfolding record_at version_at node_at key_in print_at use_at identifier_at file_at
long_record one at code ops blob s many =
    rw (other (length ops) 0 (omega (arith, many)), other (length ops) 1 (omega (arith, many)), other (length ops) 4 (omega (arith, many)))
    (choose at (code == 1) _ _ (barred at (takes_version s.stage) (is_none blob) _)
    (choose at (code == 2) _ _ (choose at (takes_node s.stage) _ _ (fails at (is_none blob) _ _) refl)
    (choose at (code == 3) _ _ (choose at (takes_print s.stage) _ _ refl refl)
    (choose at (code == 4) _ _ (choose at (takes_use s.stage) _ _ (fails at (is_none blob) _ _) refl)
    (choose at (code == 5) _ _ (choose at (takes_identifier s.stage) _ _ refl refl)
    (choose at (code == 6) _ _ (barred at (takes_file one s.stage) (is_none blob) _) refl))))))

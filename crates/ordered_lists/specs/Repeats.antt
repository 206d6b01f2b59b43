-- Elements that stand in a list more than once.
use Rattle.std.specs.Prelude.{◌≤◌, ◌≢◌, ◌&&◌, not, if◌then◌else◌, ℕ, Bool, true, List, Option, Some, None}
use Rattle.std.specs.List.{count_by}
use Rattle.std.specs.Ordering.{eq_by_cmp, is_lt}
use Rattle.std.specs.declared.cmp.Ordering.{Ordering}
use Rattle.std.specs.declared.cmp.Ordering.TheVariants.{Less}

-- how often an element stands in a list, where the order says what is equal
abbrev pub times : {T : Type 0} → (T → T → Ordering) → T → List T → ℕ
times cmp x xs = count_by (eq_by_cmp cmp x) xs

-- an element stands in a list more than once
abbrev pub IsRepeated : {T : Type 0} → (T → T → Ordering) → List T → T → Type 0
IsRepeated cmp xs x = 2 ≤ times cmp x xs

-- each element stands in a list once
abbrev pub HasNoRepeat : {T : Type 0} → (T → T → Ordering) → List T → Type 0
HasNoRepeat {T} cmp xs = (x : T) → times cmp x xs ≤ 1

-- an element is repeated, and none below it is
abbrev pub IsLeastRepeated : {T : Type 0} → (T → T → Ordering) → List T → T → Type 0
IsLeastRepeated {T} cmp xs x = IsRepeated cmp xs x × ((y : T) → IsRepeated cmp xs y → cmp y x ≢ Less)

-- the least element that is repeated, and None where each stands once
abbrev pub IsLeastRepeat : {T : Type 0} → (T → T → Ordering) → List T → Option T → Type 0
IsLeastRepeat cmp xs None = HasNoRepeat cmp xs
IsLeastRepeat cmp xs (Some x) = IsLeastRepeated cmp xs x

-- whether an element is below another, where there is another
abbrev pub comes_before : {T : Type 0} → (T → T → Ordering) → T → Option T → Bool
comes_before cmp x None = true
comes_before cmp x (Some y) = is_lt (cmp x y)

-- the least repeated element once one more is seen, which may be new
abbrev pub least_with : {T : Type 0} → (T → T → Ordering) → Option T → T → Bool → Option T
least_with cmp least x is_new = if not is_new && comes_before cmp x least then Some x else least

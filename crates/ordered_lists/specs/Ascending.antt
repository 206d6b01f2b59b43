-- Lists in which each element is below the next.
use Rattle.std.specs.Prelude.{◌&&◌, Bool, true, List, [], ◌∷◌, Option, Some, None}
use Rattle.std.specs.Ordering.{is_lt}
use Rattle.std.specs.declared.cmp.Ordering.{Ordering}

-- whether an element is above another, where there is another
abbrev pub is_above : {T : Type 0} → (T → T → Ordering) → T → Option T → Bool
is_above cmp x None = true
is_above cmp x (Some last) = is_lt (cmp last x)

-- each element is above the one before it, and the first above the last of those before
abbrev pub steps_up_after : {T : Type 0} → (T → T → Ordering) → Option T → List T → Bool
steps_up_after cmp last [] = true
steps_up_after cmp last (x ∷ xs) = is_above cmp x last && steps_up_after cmp (Some x) xs

-- each element is above the one before it
abbrev pub steps_up : {T : Type 0} → (T → T → Ordering) → List T → Bool
steps_up cmp xs = steps_up_after cmp None xs

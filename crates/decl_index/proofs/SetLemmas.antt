-- Sets of names.
use Rattle.std.proofs.Common.{◌≡◌, Bool, true, false, ◌||◌, cond, refl}

-- one more name among those that are known, and one fewer among those that are left
pub one_more_known : (at known left : Bool) → cond at true known || left ≡ known || (at || left)
one_more_known true true left = refl
one_more_known true false left = refl
one_more_known false true left = refl
one_more_known false false left = refl

-- An integer literal is printed from the left: `_` is skipped, and a zero before the first other digit.
use Rattle.std.specs.Prelude.{ℕ, Bool, true, false, ◌==◌, ◌&&◌, ◌||◌, not, List, filter}
use Rattle.object_emit.specs.Emission.{integer_text}

abbrev pub is_skipped : Bool → ℕ → Bool
is_skipped after_digit c = (c == 95) || ((c == 48) && not after_digit)

-- what is printed of the rest of a literal
abbrev pub text_of_rest : Bool → List ℕ → List ℕ
text_of_rest true rest = filter (λ c. not (c == 95)) rest
text_of_rest false rest = integer_text rest

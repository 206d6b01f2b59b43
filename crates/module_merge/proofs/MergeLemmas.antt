-- One more part of a text that is put together.
use Rattle.std.proofs.Common.{◌≡◌, ◌∙◌, ◌++◌, ℕ, List, map, Option, None, append_assoc, ap, sym}
use Rattle.std.specs.Iterator.{Yields}
use Rattle.std.proofs.lemmas.Iterator.{YieldsList}
use Rattle.std.proofs.lemmas.Iterator.Consumers.{YieldsList-end}

pub one_part_more : (had have part rest left whole : List ℕ) → had ++ left ≡ whole → left ≡ part ++ rest → have ≡ had ++ part → have ++ rest ≡ whole
one_part_more had have part rest left whole e f g = rw g (append_assoc had part rest ∙ ap (λ x. had ++ x) (sym f) ∙ e)

-- At the end of a loop all items were yielded. The list that the iterator yields comes last, so that
-- what its steps are is known there.
pub all_yielded : {S A B : Type 0} {steps : S → Option A → S → Type 0} {v : A → B} {s : S} {all : List B} (xs : List A) (t : S) → Yields steps s xs t → (r : Option A) (u : S) → r ≡ None → steps t r u → YieldsList steps v s all → map v xs ≡ all
all_yielded xs t y r u is p e = (YieldsList-end e xs t y r u is p).0

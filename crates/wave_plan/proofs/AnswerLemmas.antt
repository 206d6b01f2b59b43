-- What an answer of a known variant has.
use Rattle.std.proofs.Common.{◌≡◌, Option, Some, None, Result, Ok, Err, subst}
use Rattle.std.specs.Prelude.{MatchResult, MatchOption}

pub ok_of : {A E : Type 0} (P : A → Type 0) (Q : E → Type 0) (r : Result A E) (x : A) → r ≡ Ok x → MatchResult r P Q → P x
ok_of P Q r x e h = subst (λ r. MatchResult r P Q) e h

pub err_of : {A E : Type 0} (P : A → Type 0) (Q : E → Type 0) (r : Result A E) (x : E) → r ≡ Err x → MatchResult r P Q → Q x
err_of P Q r x e h = subst (λ r. MatchResult r P Q) e h

pub some_of : {A : Type 0} (P : Type 0) (Q : A → Type 0) (o : Option A) (x : A) → o ≡ Some x → MatchOption o P Q → Q x
some_of P Q o x e h = subst (λ o. MatchOption o P Q) e h

pub none_of : {A : Type 0} (P : Type 0) (Q : A → Type 0) (o : Option A) → o ≡ None → MatchOption o P Q → P
none_of P Q o e h = subst (λ o. MatchOption o P Q) e h

use Rattle.std.proofs.Common.{◌≡◌, ◌∷◌, ◌++◌, Some, Ok, refl, ap, sym, ◌∙◌}
use Rattle.queries.specs.Queries.{Task, Done, Fetch, ◌>>=◌, run, dependencies, value_with}

-- with all keys answered, reading ends
pub run-value : {K A X : Type 0} (answers : K → A) (q : Task K A X) → run (λ k. Some (answers k)) q ≡ Ok (value_with answers q)
run-value answers (Done x) = refl
run-value answers (Fetch k g) = run-value answers (g (answers k))

pub value-bind : {K A X Y : Type 0} (answers : K → A) (q : Task K A X) (f : X → Task K A Y) → value_with answers (q >>= f) ≡ value_with answers (f (value_with answers q))
value-bind answers (Done x) f = refl
value-bind answers (Fetch k g) f = value-bind answers (g (answers k)) f

-- what is dependencies on the whole is what is dependencies first and then
pub dependencies-bind : {K A X Y : Type 0} (answers : K → A) (q : Task K A X) (f : X → Task K A Y) → dependencies answers (q >>= f) ≡ dependencies answers q ++ dependencies answers (f (value_with answers q))
dependencies-bind answers (Done x) f = refl
dependencies-bind answers (Fetch k g) f = ap (λ l. k ∷ l) (dependencies-bind answers (g (answers k)) f)

pub bind-assoc : {K A X Y Z : Type 0} (q : Task K A X) (f : X → Task K A Y) (h : Y → Task K A Z) (answers : K → A) → value_with answers ((q >>= f) >>= h) ≡ value_with answers (q >>= (λ x. f x >>= h))
bind-assoc q f h answers = value-bind answers (q >>= f) h ∙ ap (λ y. value_with answers (h y)) (value-bind answers q f) ∙ sym (value-bind answers (f (value_with answers q)) h) ∙ sym (value-bind answers q (λ x. f x >>= h))

-- A look-up key by key.
use Rattle.std.proofs.Common.{◌≡◌, List, ◌∷◌, Option, Some, refl, sym, ap, ◌∙◌}
use Rattle.dep_key.specs.declared.key.Key.{Key}
use Rattle.type_rules.specs.declared.meaning.Meaning.{Meaning}
use Rattle.type_rules.specs.declared.meaning.Meaning.TheVariants as means
use Rattle.checks.specs.Checks.{sure}
use Rattle.checks.specs.Logs.{Orders, Logged, asking, made}
use Rattle.expr_check.specs.declared.line.Line.{Line}
use Rattle.expr_check.specs.Types.{CheckOf, Found, provided, look_up}

provided_there : (key : Key) (m : Meaning) (others : CheckOf (Option Found)) → (m ≡ means.NoProvider → ⊥) → provided key m others ≡ sure (Some (key, m))
provided_there key means.NoProvider others h = absurd (h refl)
provided_there key means.Ambiguous others h = refl
provided_there key means.Broken others h = refl
provided_there key means.Circular others h = refl
provided_there key (means.Value mutable of) others h = refl
provided_there key (means.Function params result) others h = refl
provided_there key (means.Struct context) others h = refl
provided_there key (means.Alias of) others h = refl
provided_there key (means.Fields fields words) others h = refl

-- a key that has a provider ends it
pub one_there : (o : Orders Key Line) (answers : Key → Meaning) (key : Key) (keys : List Key) (m : Meaning) (old new : Logged Key Line) → m ≡ answers key → (m ≡ means.NoProvider → ⊥) → new ≡ asking o old key →
    (Some (Some (key, m)), new) ≡ made o answers (look_up (key ∷ keys)) old
unfolding look_up
one_there o answers key keys m old new e h n =
    ap (λ l. (Some (Some (key, m)), l)) n ∙ sym (ap (λ c. made o answers c (asking o old key)) (ap (λ x. provided key x (look_up keys)) (sym e) ∙ provided_there key m (look_up keys) h))

-- one that has none is passed over
pub one_missing : (o : Orders Key Line) (answers : Key → Meaning) (key : Key) (keys : List Key) (old new : Logged Key Line) → answers key ≡ means.NoProvider → new ≡ asking o old key →
    made o answers (look_up (key ∷ keys)) old ≡ made o answers (look_up keys) new
unfolding look_up
one_missing o answers key keys old new e n = ap (λ m. made o answers (provided key m (look_up keys)) (asking o old key)) e ∙ ap (λ l. made o answers (look_up keys) l) (sym n)

-- A text with one file graph alone.
use Rattle.std.proofs.Common.{◌≡◌, ℕ, ◌==◌, Bool, true, false, ◌&&◌, ◌||◌, List, [], ◌∷◌, length, get_or, refl, sym, ap, subst, arith}
use Rattle.std.specs.Prelude.{not}
use Rattle.std.proofs.lemmas.Bool.{eqb-true}
use Rattle.dep_key.specs.declared.graph.FileGraph.{FileGraph}
use Rattle.swiftdeps.specs.Stages.{is_version}
use Rattle.swiftdeps.specs.Spelling.{BytesSpell}
use Rattle.swiftdeps.proofs.Sound.{BytesRead}

version_two : (version : ℕ) → is_version true version ≡ true → version ≡ 2
version_two version e = by (version == 2) refl e
  where
    by : (b : Bool) → b ≡ (version == 2) → b || (not true && (version == 3)) ≡ true → version ≡ 2
    by true h e = eqb-true version 2 (sym h)
    by false h e = absurd cc

one_item : {A : Type 0} (xs : List A) (x : A) → length xs ≡ 1 → x ≡ get_or xs 0 x → xs ≡ x ∷ []
one_item [] x e h = absurd (omega (arith, e))
one_item (y ∷ []) x e h = ap (λ z. z ∷ []) (sym h)
one_item (y ∷ z ∷ zs) x e h = absurd (omega (arith, e))

pub graph_read : (version : ℕ) (files : List FileGraph) (graph : FileGraph) (bytes : List ℕ) → BytesRead true (version, files) bytes → graph ≡ get_or files 0 graph → BytesSpell 2 (graph ∷ []) bytes
graph_read version files graph bytes r h =
    let two = version_two version r.version in
    let one = one_item files graph (r.single refl) h in
    subst (λ (v : ℕ). BytesSpell v (graph ∷ []) bytes) two (subst (λ (x : List FileGraph). BytesSpell version x bytes) one r.spelled)

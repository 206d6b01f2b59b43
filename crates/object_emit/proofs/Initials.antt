-- The values of stored properties, one by one.
use Rattle.std.proofs.Common.{◌≡◌, ℕ, ◌<◌, ◌≤◌, ◌+◌, List, length, drop, get_or, sym, ap, ◌∙◌}
use Rattle.std.proofs.lemmas.List.{drop_more, drop_all}
use Rattle.dep_key.specs.declared.key.Key.{Key}
use Rattle.type_rules.specs.declared.meaning.Meaning.{Meaning}
use Rattle.typed_code.specs.declared.units.Initial.{Initial}
use Rattle.object_emit.specs.Pieces.{Emitted, behind}
use Rattle.object_emit.specs.Objects.{given_words, initial_piece, initials_piece}
use Rattle.object_emit.proofs.Joining.{behind_joined, behind_none}

pub initials_turn : (answers : Key → Meaning) (slot next : ℕ) (initials : List Initial) (i : ℕ) (d : Initial) (old new : Emitted) → i < length initials →
    new ≡ behind old (initial_piece answers slot (get_or initials i d)) → next ≡ slot + given_words answers (get_or initials i d) →
    behind old (initials_piece answers slot (drop i initials)) ≡ behind new (initials_piece answers next (drop (i + 1) initials))
initials_turn answers slot next initials i d old new lt h n =
    let at : Initial = get_or initials i d in
    let rest : List Initial = drop (i + 1) initials in
    ap (λ l. behind old (initials_piece answers slot l)) (drop_more initials i d lt)
    ∙ behind_joined old (initial_piece answers slot at) (initials_piece answers (slot + given_words answers at) rest)
    ∙ ap (λ e. behind e (initials_piece answers (slot + given_words answers at) rest)) (sym h)
    ∙ ap (λ m. behind new (initials_piece answers m rest)) (sym n)

pub initials_end : (answers : Key → Meaning) (slot : ℕ) (initials : List Initial) (i : ℕ) (e : Emitted) → length initials ≤ i → behind e (initials_piece answers slot (drop i initials)) ≡ e
initials_end answers slot initials i e le = ap (λ l. behind e (initials_piece answers slot l)) (drop_all i initials le) ∙ behind_none e

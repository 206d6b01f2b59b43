use Rattle.std.proofs.Common.{ℕ, List, [], ◌∷◌, map, not, ap, sym, subst}
use Rattle.std.specs.List.{Contains}
use Rattle.std.specs.String.{string_bytes}
use Rattle.swiftdeps.specs.Written.{Adds}
use Rattle.swiftdeps.proofs.NameLaws.{adds_same, adds_copy, found_text}
use Rattle.swiftdeps.proofs.names.TextSet.add.Goals as goal

pub returns-then-contains : goal.returns-then-contains
returns-then-contains c =
    adds_same c.args.text.now c.args.self.now (λ _. subst (λ (names : List (List ℕ)). Contains names c.args.text.now) c.self.view_is (found_text c.self.inside.texts.keys c.args.text.now (sym c.if-contains.ensures)))

pub returns : goal.returns
returns c =
    subst (λ (names : List (List ℕ)). Adds (c.args.text.now ∷ []) names (map string_bytes c.insert.new.self.keys)) c.self.view_is
    (adds_copy c.self.inside.texts.keys c.insert.new.self.keys c.in_ok-text.text c.args.text.now c.in_ok-text.ensures.ok (ap not (sym c.if-is_empty.ensures)) c.in_ok-insert.ensures.keys)

use Rattle.std.proofs.Common.{ℕ, List, Some, ap, sym, ◌∙◌}
use Rattle.std.specs.List.{slice_get}
use Rattle.std.proofs.lemmas.Option.{slice_get-get_or}
use Rattle.swiftdeps.specs.Spelling.{number_of}
use Rattle.swiftdeps.proofs.NameLaws.{numbered}
use Rattle.swiftdeps.proofs.names.Names.number_of.Goals as goal

pub returns-in-Some : goal.returns-in-Some
returns-in-Some c =
    let inside = c.self.inside in
    let text = c.args.text.now in
    let numbers = c.deref.result.now in
    let place = c.place_of-place.result in
    let found = ap Some (c.in-Some.ensures.lookup.3.1 0) ∙ sym (slice_get-get_or numbers place 0 c.in-Some.ensures.lookup.3.0) in
    numbered (number_of inside.sorted) inside.met text c.in-Some.number.now (found ∙ (λ i. slice_get ((c.deref.ensures.value ∙ c.self.invariant) i) (c.place_of-place.ensures.place i)))
    ∙ ap (λ (names : List (List ℕ)). number_of names text) c.self.view_is

use Rattle.std.proofs.Common.{ℕ, List, ap, ◌∙◌}
use Rattle.swiftdeps.specs.Spelling.{place_of}
use Rattle.swiftdeps.proofs.NameLaws.{found_place, absent_place}
use Rattle.swiftdeps.proofs.names.TextSet.place_of.Goals as goal

pub returns-in-Some-clause-place : goal.returns-in-Some-clause-place
returns-in-Some-clause-place c = found_place c.self.inside.texts.keys c.args.text.now c.in-Some.place c.in-Some.ensures.index ∙ ap (λ (names : List (List ℕ)). place_of names c.args.text.now) c.self.view_is

pub returns-in-None-clause-place : goal.returns-in-None-clause-place
returns-in-None-clause-place c = c.len-count.ensures.len ∙ absent_place c.self.inside.texts.keys c.args.text.now c.in-None.ensures.index ∙ ap (λ (names : List (List ℕ)). place_of names c.args.text.now) c.self.view_is

use Rattle.std.proofs.Common.{ℕ, List, map, subst, ◌∙◌}
use Rattle.std.specs.List.Sorted.{IsPermutation}
use Rattle.std.specs.String.{string_bytes}
use Rattle.std.proofs.lemmas.List.Sorted.{IsPermutation-map}
use Rattle.swiftdeps.proofs.NameLaws.{sorted_texts, same_texts}
use Rattle.swiftdeps.proofs.names.TextSet.sorted.Goals as goal

pub returns-clause-permutation : goal.returns-clause-permutation
returns-clause-permutation c =
    subst (λ (names : List (List ℕ)). IsPermutation names (map string_bytes c.sort.new.self.keys)) (same_texts c.self.inside.texts.keys c.in_ok-texts.texts.keys c.in_ok-texts.ensures.cases ∙ c.self.view_is)
    (IsPermutation-map string_bytes c.in_ok-texts.texts.keys c.sort.new.self.keys c.sort.ensures.reordered.0)

pub returns-clause-ascending : goal.returns-clause-ascending
returns-clause-ascending c = sorted_texts c.sort.new.self.keys c.in_ok-sort.ensures.sorted c.sort.ensures.unique

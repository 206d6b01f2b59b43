use Rattle.std.proofs.Common.{◌≡◌, ◌∙◌, ◌++◌, ◌+◌, IsTrue, List, ℕ, drop, codes, ap, sym, subst}
use Rattle.std.specs.List.{flat_map, after_first}
use Rattle.std.proofs.lemmas.List.{at_drop_more}
use Rattle.std.proofs.lemmas.List.Concat.{flat_map-append}
use Rattle.module_merge.specs.Lines.{is_line_feed, all_but_first, lines_of, text_of, first_line, is_heading}
use Rattle.module_merge.specs.Module.{merged_text, is_partial}
use Rattle.module_merge.proofs.LineLemmas.{lines_after_first_where}
use Rattle.module_merge.proofs.MergeLemmas.{one_part_more}
use Rattle.module_merge.proofs.module.merged_text.Goals as goal

abbrev members : List ℕ → List (List ℕ)
members partial = all_but_first (lines_of partial)

pub loop-partial-preserved : goal.loop-partial-preserved
loop-partial-preserved c =
    let i = c.loop-partial.partial-index in
    let partials = c.args.partials.now in
    let partial = c.partial-item.result in
    let rest = flat_map members (drop (i + 1) partials) in
    let passes : IsTrue (is_partial partial) = subst (λ p. IsTrue (is_partial p)) (sym c.partial-item.is) (c.requires.partial i c.partial-item.result c.loop-partial-test.true) in
    let part : text_of (members partial) ≡ after_first is_line_feed partial = lines_after_first_where partial (is_heading (codes "partial ") (first_line partial)) passes in
    let more : text_of (flat_map members (drop i partials)) ≡ after_first is_line_feed partial ++ text_of rest =
    ap text_of (at_drop_more (flat_map members) partials i partial c.loop-partial-test.true ∙ ap (λ p. members p ++ rest) (sym c.partial-item.is))
    ∙ flat_map-append (λ line. line ++ codes "\n") (members partial) rest
    ∙ ap (λ t. t ++ text_of rest) part in
    let pushed : c.extend_from_slice-in-loop-partial.new.self.items ≡ c.loop-partial.merged.items ++ after_first is_line_feed partial = c.in_ok-extend_from_slice-4.ensures.items ∙ ap (λ x. c.loop-partial.merged.items ++ x) (c.after.ensures ∙ ap (after_first is_line_feed) c.as_slice.ensures) in
    one_part_more c.loop-partial.merged.items c.extend_from_slice-in-loop-partial.new.self.items (after_first is_line_feed partial) (text_of rest) (text_of (flat_map members (drop i partials))) (merged_text c.args.name.now partials) c.loop-partial.invariant more pushed

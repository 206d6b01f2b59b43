use Rattle.std.proofs.Common.{◌≡◌, ◌++◌, drop}
use Rattle.std.specs.List.{flat_map}
use Rattle.module_merge.specs.Lines.{all_but_first, lines_of, text_of}
use Rattle.module_merge.specs.Module.{merged_text}
use Rattle.module_merge.proofs.module.merged_text.Given as goal

-- The text so far, and the lines of the partial texts that are left, are the whole text.
abbrev pub invariant-loop-partial : goal.invariant-loop-partial
invariant-loop-partial l = l.merged.items ++ text_of (flat_map (λ partial. all_but_first (lines_of partial)) (drop l.partial-index l.partials)) ≡ merged_text l.fn.name l.partials

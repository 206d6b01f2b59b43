use Rattle.std.proofs.Common.{◌≡◌, ◌∙◌, sym, ap, []}
use Rattle.drv_outside.specs.Reads.{reads_one, reads_failed}
use Rattle.project_sources.specs.Parsed.{entry_paths}
use Rattle.project_sources.specs.Refusals.{listing_errors}
use Rattle.project_sources.proofs.CallLemmas.{pass_one}
use Rattle.project_sources.proofs.SourceLemmas.{list_refused, list_listed, paths_plain, filled, emptied}
use Rattle.project_sources.proofs.reading.list_sources.Goals as goal

pub returns-in_err-entries-clause-reads : goal.returns-in_err-entries-clause-reads
returns-in_err-entries-clause-reads g c = reads_failed _ _ _ _ tt c.in_err-entries.ensures.err

pub returns-in_err-errors-clause-reads : goal.returns-in_err-errors-clause-reads
returns-in_err-errors-clause-reads g c = reads_one _ _ _ _ tt c.in_ok-entries.ensures.change

pub returns-then-is_empty-clause-reads : goal.returns-then-is_empty-clause-reads
returns-then-is_empty-clause-reads g c = reads_one _ _ _ _ tt c.in_ok-entries.ensures.change

pub returns-else-is_empty-clause-reads : goal.returns-else-is_empty-clause-reads
returns-else-is_empty-clause-reads g c = reads_one _ _ _ _ tt c.in_ok-entries.ensures.change

pub returns-then-is_empty-clause-passed : goal.returns-then-is_empty-clause-passed
returns-then-is_empty-clause-passed g c = pass_one _ _ _ tt c.in_ok-entries.ensures.change

pub returns-else-is_empty-clause-passed : goal.returns-else-is_empty-clause-passed
returns-else-is_empty-clause-passed g c = pass_one _ _ _ tt c.in_ok-entries.ensures.change

pub returns-then-is_empty-clause-listing : goal.returns-then-is_empty-clause-listing
returns-then-is_empty-clause-listing g c =
    let none : listing_errors (entry_paths c.in_ok-entries.entries.items) ≡ [] =
    ap (λ es. listing_errors (entry_paths es)) (sym c.deref.ensures.value) ∙ sym c.in_ok-errors.ensures ∙ emptied c.in_ok-errors.errors (sym c.is_empty.ensures ∙ c.if-is_empty.true) in
    list_listed (g.T.Tree.observed c.args.tree.now) c.in_ok-entries.entries c.in_ok-entries.ensures.answer none

pub returns-then-is_empty-clause-plain : goal.returns-then-is_empty-clause-plain
returns-then-is_empty-clause-plain g c =
    let none : listing_errors (entry_paths c.in_ok-entries.entries.items) ≡ [] =
    ap (λ es. listing_errors (entry_paths es)) (sym c.deref.ensures.value) ∙ sym c.in_ok-errors.ensures ∙ emptied c.in_ok-errors.errors (sym c.is_empty.ensures ∙ c.if-is_empty.true) in
    (paths_plain c.in_ok-entries.entries.items none, c.in_ok-entries.ensures.ordered)

pub returns-else-is_empty-clause-listing : goal.returns-else-is_empty-clause-listing
returns-else-is_empty-clause-listing g c =
    list_refused (g.T.Tree.observed c.args.tree.now) c.in_ok-entries.entries.items c.in_ok-errors.errors c.in_ok-entries.ensures.answer
    (c.in_ok-errors.ensures ∙ ap (λ es. listing_errors (entry_paths es)) c.deref.ensures.value) (filled c.in_ok-errors.errors (sym c.is_empty.ensures ∙ c.if-is_empty.false))

use Rattle.std.proofs.Common.{◌∙◌, sym, ap, append_assoc}
use Rattle.std.specs.Prelude.{codes, decimal}
use Rattle.project_sources.specs.Refusals.{unplaced}
use Rattle.project_sources.specs.declared.listing.TheConstants.{MOST_SOURCES}
use Rattle.project_sources.proofs.listing.too_many_error.Goals as goal

pub returns : goal.returns
returns c =
    c.in_ok-error.ensures ∙ ap unplaced (c.in_ok-text.ensures.ok ∙ sym (append_assoc (decimal c.args.count) (codes " source files, at most ") (decimal MOST_SOURCES)))

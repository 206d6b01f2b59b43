-- The order in which errors are printed.
use Rattle.std.specs.Prelude.{ℕ, ◌==◌, List, [], ◌∷◌, length, if◌then◌else◌}
use Rattle.std.specs.BTreeSet.{insert_key}
use Rattle.std.specs.declared.cmp.Ordering.{Ordering}
use Rattle.std.specs.Ordering.{nat_cmp, on, then_cmp}
use Rattle.std.specs.Cmp.{IsTotalOrder, then_total, on_total, nat_cmp_total}
use Rattle.std.specs.Cmp.Lexicographic.{slice_cmp, nat_list_cmp_total}
use Rattle.diag_text.specs.declared.diag.Diag.{Diag}
use Rattle.diag_text.specs.Line.{lines_of}

-- A number of an error's place, and 0 for an error without a path.
abbrev pub number_at : Diag → ℕ → ℕ
number_at diag number = if length diag.path == 0 then 0 else number

-- Errors are ordered by path, then by line, by column, and by text: numbers by size, and paths and texts byte by byte.
abbrev pub diag_order : Diag → Diag → Ordering
diag_order =
    then_cmp (on (λ d. d.path) (slice_cmp nat_cmp))
    (then_cmp (on (λ d. number_at d d.line) nat_cmp)
    (then_cmp (on (λ d. number_at d d.column) nat_cmp) (on (λ d. d.text) (slice_cmp nat_cmp))))

pub diag_order_total : IsTotalOrder diag_order
diag_order_total =
    then_total (on_total (λ (d : Diag). d.path) nat_list_cmp_total)
    (then_total (on_total (λ (d : Diag). number_at d d.line) nat_cmp_total)
    (then_total (on_total (λ (d : Diag). number_at d d.column) nat_cmp_total) (on_total (λ (d : Diag). d.text) nat_list_cmp_total)))

-- Each error enters at its place in the order, unless an equal one is there.
abbrev pub entered : List Diag → List Diag → List Diag
entered ordered [] = ordered
entered ordered (diag ∷ diags) = entered (insert_key diag_order ordered diag) diags

-- Errors in the order in which they are printed, and equal ones once.
abbrev pub in_order : List Diag → List Diag
in_order diags = entered [] diags

-- What is printed of the errors of a build.
abbrev pub printed_lines : List Diag → List ℕ
printed_lines diags = lines_of (in_order diags)

-- A module has one merged text and one image, whatever the order of its texts.
use Rattle.std.proofs.Common.{◌≡◌, ◌∙◌, ◌++◌, ◌≤◌, ℕ, List, ◌∷◌, sym, ap, subst, codes}
use Rattle.std.specs.List.{flat_map}
use Rattle.std.specs.List.Sorted.{IsPermutation}
use Rattle.std.specs.FinMap.{slice_cmp-IsAntisymmetric, nat_cmp-IsAntisymmetric}
use Rattle.std.specs.Cmp.Lexicographic.{nat_list_cmp_total}
use Rattle.std.proofs.lemmas.List.Sorted.{IsPermutation-sym, IsPermutation-trans}
use Rattle.module_merge.specs.Lines.{text_of}
use Rattle.module_merge.specs.ByPath.{IsByPath}
use Rattle.module_merge.specs.Module.{merged_text}
use Rattle.module_merge.specs.Image.{image_of, symbol_lines, IsMissing, defined_in, used_in}
use Rattle.module_merge.specs.Laws.{MergedTextIsOne, MergedTextIsOfAnyOrder, ImageIsOne, ImageIsOfAnyOrder, LinkingIsOfAnyOrder, EndIsOfAnyOrder}
use Rattle.module_merge.specs.declared.ends.MergeEnd.TheVariants.{Missing, Twice, NoMemory}
use Rattle.module_merge.proofs.OneOrderLemmas.{one_order}
use Rattle.module_merge.proofs.AnyOrderLemmas.{times_moved, among_moved, distinct_moved, table_moved}

one_by_path : (word : List ℕ) (texts one other : List (List ℕ)) → IsByPath word texts one → IsByPath word texts other → one ≡ other
one_by_path word texts first second (moved, by, up) (moved_too, by_too, upper) =
    one_order nat_list_cmp_total (slice_cmp-IsAntisymmetric nat_cmp-IsAntisymmetric) texts first second moved moved_too up upper

by_path_moved : (word : List ℕ) (texts others ordered : List (List ℕ)) → IsPermutation texts others → IsByPath word texts ordered → IsByPath word others ordered
by_path_moved word texts others ordered moved (ranked, by, up) = (IsPermutation-trans others texts ordered (IsPermutation-sym texts others moved) ranked, by, up)

pub one_merged : MergedTextIsOne
one_merged name partials one other (first, is, text) (second, is_too, text_too) =
    text ∙ ap (merged_text name) (one_by_path (codes "partial ") partials first second is is_too) ∙ sym text_too

pub merged_moved : MergedTextIsOfAnyOrder
merged_moved name partials others text moved (ordered, is, e) = (ordered, by_path_moved (codes "partial ") partials others ordered moved is, e)

pub one_image : ImageIsOne
one_image name objects one other (first, is, text) (second, is_too, text_too) =
    text ∙ ap (image_of name objects) (one_by_path (codes "object ") objects first second is is_too) ∙ sym text_too

pub image_moved : ImageIsOfAnyOrder
image_moved name objects others text moved distinct (ordered, is, e) = (
  ordered,
  by_path_moved (codes "object ") objects others ordered moved is,
  e ∙ ap (λ table. text_of ((codes "image " ++ name) ∷ symbol_lines table) ++ flat_map (λ object. object) ordered) (table_moved objects others moved distinct),
)

missing_moved : (objects others : List (List ℕ)) (symbol : List ℕ) → IsPermutation objects others → IsMissing objects symbol → IsMissing others symbol
missing_moved objects others symbol moved (used, not_defined) =
    (sym (among_moved used_in symbol objects others moved) ∙ used, sym (among_moved defined_in symbol objects others moved) ∙ not_defined)

pub linking_moved : LinkingIsOfAnyOrder
linking_moved objects others moved distinct linked =
    (distinct_moved objects others moved distinct, λ symbol missing. linked symbol (missing_moved others objects symbol (IsPermutation-sym objects others moved) missing))

pub end_moved : EndIsOfAnyOrder
end_moved objects others (Twice symbol) moved (twice, least) = (
  subst (λ n. 2 ≤ n) (times_moved defined_in symbol objects others moved) twice,
  λ other again. least other (subst (λ n. 2 ≤ n) (sym (times_moved defined_in other objects others moved)) again),
)
end_moved objects others (Missing symbol) moved (distinct, (missing, least)) = (
  distinct_moved objects others moved distinct,
  (
    missing_moved objects others symbol moved missing,
    λ other is. least other (missing_moved others objects other (IsPermutation-sym objects others moved) is),
  ),
)
end_moved objects others NoMemory moved h = tt

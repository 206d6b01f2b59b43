-- What a test of each of a list tells of all.
use Rattle.std.proofs.Common.{◌≡◌, IsTrue, ℕ, true, List, All}
use Rattle.std.specs.List.{list_all}
use Rattle.std.proofs.lemmas.List.Sums.{AllPass-from_list_all}
use Rattle.drv_outside.specs.Plain.{is_plain_path}
use Rattle.module_merge.specs.Module.{is_partial}
use Rattle.module_merge.specs.Object.{is_object}

pub all_plain : (paths : List (List ℕ)) → list_all is_plain_path paths ≡ true → All (λ path. IsTrue (is_plain_path path)) paths
all_plain paths h k d lt = AllPass-from_list_all is_plain_path paths h k d lt

pub all_objects : (objects : List (List ℕ)) → list_all is_object objects ≡ true → All (λ object. IsTrue (is_object object)) objects
all_objects objects h k d lt = AllPass-from_list_all is_object objects h k d lt

pub all_partials : (partials : List (List ℕ)) → list_all is_partial partials ≡ true → All (λ partial. IsTrue (is_partial partial)) partials
all_partials partials h k d lt = AllPass-from_list_all is_partial partials h k d lt

use Rattle.std.proofs.Common.{◌≡◌, ◌∙◌, ap, ℕ, List, nat_cmp}
use Rattle.std.specs.BTreeSet as sets
use Rattle.std.specs.Cmp.Lexicographic.{slice_cmp}
use Rattle.std.specs.List.{list_any}
use Rattle.std.specs.Ordering.{eq_by_cmp}
use Rattle.dep_key.specs.KeyOrder.{key_order}
use Rattle.decl_index.specs.Declarations.{private_structs, is_among}
use Rattle.file_check.proofs.SiteLemmas.{file_keys}
use Rattle.file_check.proofs.sites.SiteIndex.of.Goals as goal

pub invariant_of-result : goal.invariant_of-result
invariant_of-result c =
    let file = c.args.file.now in
    let names : c.as_slice-2.result.now ≡ private_structs file.decls = c.as_slice-2.ensures.value ∙ c.in_ok-own.ensures ∙ ap private_structs c.as_slice.ensures in
    let own : (name : List ℕ) → sets.contains (slice_cmp nat_cmp) c.in_ok-own_structs.own_structs name ≡ is_among (private_structs file.decls) name = λ name. c.in_ok-own_structs.ensures name ∙ ap (λ ns. is_among ns name) names in
    let keys = c.as_slice-3.ensures.value ∙ c.in_ok-keys.ensures own ∙ file_keys file.path (private_structs file.decls) file.decls in
    record { own = own; declared = λ key. c.in_ok-names.ensures key ∙ ap (λ ks. list_any (λ k. eq_by_cmp key_order k key) ks) keys }

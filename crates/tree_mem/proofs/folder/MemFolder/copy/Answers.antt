use Rattle.std.proofs.Common.{◌≡◌, ◌∙◌, ℕ, List, sym, ap, nat_cmp}
use Rattle.std.specs.BTreeMap.{BTreeMap, IsClone}
use Rattle.std.specs.Cmp.Lexicographic.{slice_cmp}
use Rattle.std.specs.FinMap.{from_entries}
use Rattle.std.proofs.lemmas.Map.Entries.{entries_from_clone}
use Rattle.tree_mem.proofs.folder.MemFolder.copy.Goals as goal

same_entries : {C D : List ℕ → List ℕ → Type 0} (m n : BTreeMap (List ℕ) (List ℕ)) → IsClone C D m n → ((x y : List ℕ) → C x y → y ≡ x) → ((x y : List ℕ) → D x y → y ≡ x) → n.entries ≡ m.entries
same_entries {C} {D} m n is g h = entries_from_clone C D g h m.entries n.entries is

pub invariant_of-result : goal.invariant_of-result
invariant_of-result c =
    (rw (same_entries c.self.inside.files c.in_ok-files.files c.in_ok-files.ensures.cases (λ x y e. sym e.3 ∙ e.4 ∙ e.2) (λ x y e. sym e.3 ∙ e.4 ∙ e.2)) c.self.inside.plain, tt)

pub returns : goal.returns
returns c =
    ap (λ es. from_entries {R = slice_cmp nat_cmp} es) (same_entries c.self.inside.files c.in_ok-files.files c.in_ok-files.ensures.cases (λ x y e. sym e.3 ∙ e.4 ∙ e.2) (λ x y e. sym e.3 ∙ e.4 ∙ e.2)) ∙ c.self.view_is

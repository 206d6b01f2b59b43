use Rattle.std.proofs.Common.{rules, ◌≡◌, ◌∙◌, ap, not, nat_eq, filter}
use Rattle.std.specs.Cmp.Lexicographic.{pointwise}
use Rattle.std.specs.FinMap.{remove}
use Rattle.std.proofs.lemmas.Map.Made.{filter_same_pairs}
use Rattle.tree_mem.proofs.Entries.{one_removed}
use Rattle.tree_mem.proofs.Filters.{at_filtered}
use Rattle.tree_mem.proofs.Plain.{plain_filtered}
use Rattle.tree_mem.proofs.doubts.MemDoubts.remove_named.Goals as goal

pub invariant_of-self-inside : goal.invariant_of-self-inside
invariant_of-self-inside c =
    let all : c.retain.new.self.entries ≡ filter (λ e. not (pointwise nat_eq e.0 c.args.name.now)) c.self.inside.names.entries =
    filter_same_pairs _ (λ e. not (pointwise nat_eq e.0 c.args.name.now)) _ (λ k v b w f' t. search rules) _ _ c.retain.ensures.filtered in
    (rw all (plain_filtered _ c.self.inside.names.entries c.self.inside.plain), tt)

pub returns : goal.returns
returns c =
    let all : c.retain.new.self.entries ≡ filter (λ e. not (pointwise nat_eq e.0 c.args.name.now)) c.self.inside.names.entries =
    filter_same_pairs _ (λ e. not (pointwise nat_eq e.0 c.args.name.now)) _ (λ k v b w f' t. search rules) _ _ c.retain.ensures.filtered in
    one_removed c.self.inside.names.entries c.retain.new.self.entries c.args.name.now (λ q. rw all (at_filtered c.args.name.now q c.self.inside.names.entries))
    ∙ ap (λ m. remove m c.args.name.now) c.self.view_is

use Rattle.std.proofs.Common.{◌∙◌, ap, not}
use Rattle.std.specs.BTreeSet as sets
use Rattle.dep_key.specs.KeyOrder.{key_order}
use Rattle.body_check.specs.Declarations.{site, with_other_visibility}
use Rattle.file_check.specs.Sites.{name_key}
use Rattle.file_check.proofs.SiteLemmas.{others}
use Rattle.file_check.proofs.sites.SiteIndex.has_other_visibility.Goals as goal

pub returns : goal.returns
returns c =
    let context = c.args.context in
    let name = c.args.name in
    let private = c.args.private in
    c.contains.ensures
    ∙ ap (λ key. sets.contains key_order c.self.inside.names key) c.name_key-key.ensures
    ∙ c.self.invariant.declared (name_key (record { context = context; name = name; private = not private }))
    ∙ others (site c.self.inside.file.now).names context name private
    ∙ ap (λ f. with_other_visibility f (record { context = context; name = name; private = private })) c.self.view_is

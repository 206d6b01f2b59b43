use Rattle.std.proofs.Common.{◌∙◌, ◌++◌, ap, sym}
use Rattle.std.specs.BTreeSet as sets
use Rattle.std.specs.Ordering.{nat_cmp}
use Rattle.std.specs.Cmp.Lexicographic.{slice_cmp}
use Rattle.file_check.specs.Sites.{extension_keys, decl_keys}
use Rattle.file_check.proofs.sites.add_decl.Goals as goal

pub returns-in_ok-add_extension-in-Extension : goal.returns-in_ok-add_extension-in-Extension
returns-in_ok-add_extension-in-Extension c = λ names h.
    let tree = c.in-Extension.tree in
    let had = c.args.keys.now.items in
    c.in_ok-add_extension-in-Extension.ensures
    ∙ ap (λ is_own. had ++ extension_keys c.args.path.now is_own tree)
    (c.in_ok-is_own-in-Extension.ensures ∙ ap (λ name. sets.contains (slice_cmp nat_cmp) c.args.own.now name) c.as_str.ensures ∙ h tree.name.text)
    ∙ ap (λ d. had ++ decl_keys c.args.path.now names d) (sym c.in-Extension.is)

use Rattle.std.proofs.Common.{◌≡◌, ◌∙◌, ◌++◌, ◌+◌, ap, sym, drop, flat_map, append_assoc}
use Rattle.std.proofs.lemmas.List.{at_drop_more}
use Rattle.decl_index.specs.Declarations.{private_structs}
use Rattle.file_check.specs.Sites.{decl_keys}
use Rattle.file_check.proofs.sites.declared_names.Goals as goal

pub loop-decl-init : goal.loop-decl-init
loop-decl-init c = λ h. ap (λ ds. c.new-keys.result.items ++ flat_map (decl_keys c.args.file.now.path (private_structs c.args.file.now.decls)) ds) c.as_slice-decls.ensures ∙ ap (λ ks. ks ++ flat_map (decl_keys c.args.file.now.path (private_structs c.args.file.now.decls)) c.args.file.now.decls) c.new-keys.ensures.items

pub loop-decl-preserved : goal.loop-decl-preserved
loop-decl-preserved c = λ h.
    let slice = c.as_slice-decls.result.now in
    let decls = c.args.file.now.decls in
    let own = private_structs decls in
    let each = decl_keys c.args.file.now.path own in
    let i = c.loop-decl.decl-index in
    let decl = c.decl-item.result in
    let had = c.loop-decl.keys.items in
    let more = flat_map each (drop (i + 1) slice) in
    let added : c.add_decl.new.keys.items ≡ had ++ each decl =
    c.in_ok-add_decl.ensures own h ∙ ap (λ path. had ++ decl_keys path own decl) c.as_str.ensures in
    let left : flat_map each (drop i slice) ≡ each decl ++ more = at_drop_more (flat_map each) slice i decl c.loop-decl-test.true ∙ ap (λ d. each d ++ more) (sym c.decl-item.is) in
    ap (λ l. l ++ more) added ∙ append_assoc had (each decl) more ∙ ap (λ l. had ++ l) (sym left) ∙ c.loop-decl.invariant h

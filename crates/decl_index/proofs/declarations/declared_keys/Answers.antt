use Rattle.std.proofs.Common.{◌≡◌, ◌∙◌, ◌++◌, ◌+◌, ap, sym, drop, flat_map, append_assoc}
use Rattle.std.proofs.lemmas.List.{at_drop_more, map-append}
use Rattle.decl_index.specs.Declarations.{Declaration, keys_of, decl_declarations, private_structs, is_among}
use Rattle.decl_index.proofs.declarations.declared_keys.Goals as goal

pub loop-decl-preserved : goal.loop-decl-preserved
loop-decl-preserved c =
    let slice = c.as_slice-decls.result.now in
    let decls = c.args.file.now.decls in
    let own = private_structs decls in
    let each = decl_declarations c.args.file.now.path own in
    let i = c.loop-decl.decl-index in
    let decl = c.decl-item.result in
    let had = c.loop-decl.made.items in
    let more = flat_map each (drop (i + 1) slice) in
    let added : c.add_decl.new.made.items ≡ had ++ keys_of (each decl) =
    c.in_ok-add_decl.ensures own (λ name. c.in_ok-own.ensures name ∙ ap (λ ds. is_among (private_structs ds) name) c.as_slice-decls.ensures)
    ∙ ap (λ path. had ++ keys_of (decl_declarations path own decl)) c.as_str.ensures in
    let left : flat_map each (drop i slice) ≡ each decl ++ more = at_drop_more (flat_map each) slice i decl c.loop-decl-test.true ∙ ap (λ d. each d ++ more) (sym c.decl-item.is) in
    ap (λ l. l ++ keys_of more) added ∙ append_assoc had (keys_of (each decl)) (keys_of more)
    ∙ ap (λ l. had ++ l) (sym (map-append (λ (d : Declaration). d.keys) (each decl) more) ∙ ap keys_of (sym left)) ∙ c.loop-decl.invariant

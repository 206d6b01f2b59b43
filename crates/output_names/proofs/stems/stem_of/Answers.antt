use Rattle.std.proofs.Common.{◌≡◌, ◌∙◌, ap, sym, subst}
use Rattle.std.specs.Str.{IsUtf8}
use Rattle.output_names.specs.Stems.{stem_of}
use Rattle.output_names.proofs.StemsLemmas.{stem_is_utf8}
use Rattle.output_names.proofs.stems.stem_of.Goals as goal

pub unwrap-stem-requires : goal.unwrap-stem-requires
unwrap-stem-requires c =
    let same : c.in_ok-stem.stem.items ≡ stem_of c.args.path.now = c.in_ok-stem.ensures ∙ ap stem_of c.as_bytes-bytes.ensures.value in
    c.from_utf8.ensures.succeeds (subst (λ b. IsUtf8 b) (sym same) (stem_is_utf8 c.args.path.now c.requires))

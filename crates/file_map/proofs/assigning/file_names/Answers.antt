use Rattle.std.proofs.Common.{◌≡◌, ◌∙◌, ◌++◌, ap, codes}
use Rattle.output_names.specs.Stems.{stem_of}
use Rattle.file_map.specs.Assigned.{name_of}
use Rattle.file_map.specs.Kinds.{object_kind, module_kind, dependencies_kind}
use Rattle.file_map.specs.Table.{members}
use Rattle.file_map.proofs.assigning.file_names.Goals as goal

pub returns : goal.returns
returns c =
    let stem : c.as_str-stem.result.now ≡ stem_of c.args.path.now = c.as_str-stem.ensures.value ∙ c.in_ok-stem.ensures in
    let named = name_of (members c.args.file_map.now) c.args.path.now in
    let object = c.in_ok-object.ensures ∙ ap (λ s. named object_kind (s ++ codes ".o")) stem in
    let partial = c.in_ok-partial.ensures ∙ ap (λ s. named module_kind (s ++ codes "~partial.swiftmodule")) stem in
    let deps = c.in_ok-deps.ensures ∙ ap (λ s. named dependencies_kind (s ++ codes ".swiftdeps")) stem in
    λ i. record { object = object i; partial = partial i; deps = deps i }

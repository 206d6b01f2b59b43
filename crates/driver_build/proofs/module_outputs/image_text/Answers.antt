use Rattle.std.proofs.Common.{◌∙◌, sym}
use Rattle.module_merge.specs.Object.{is_object}
use Rattle.driver_build.proofs.OutputsLemmas.{all_of}
use Rattle.driver_build.proofs.module_outputs.image_text.Goals as goal

pub image-requires : goal.image-requires
image-requires c = record { object = all_of is_object c.args.objects.now (sym c.are_objects.ensures ∙ c.if-not-are_objects.false) }

-- Texts of files are functions of the answers to keys that the files use.
use Rattle.std.proofs.Common.{◌≡◌, true, ap, ◌∙◌, inl, inr}
use Rattle.type_infer.specs.Meanings.{meaning_in}
use Rattle.type_infer.specs.Sound.{is_asked_kind}
use Rattle.type_infer.proofs.ListFacts.{among-append, among-left, among-right}
use Rattle.iface_print.specs.Coverage.{IsUse}
use Rattle.iface_print.proofs.Covered.{used}
use Rattle.body_check.specs.Files.{file_units, file_asks}
use Rattle.body_check.proofs.FileLemmas.{same_file}
use Rattle.object_emit.specs.Objects.{object_text}
use Rattle.file_coverage.specs.Laws.{implementation}
use Rattle.file_coverage.proofs.FileLemmas.{asked-keys}
use Rattle.object_coverage.specs.Texts.{code_keys, EqualAnswersGiveEqualObjects, LayoutsWereAsked, ObjectsAskUses, UnchangedFilesHaveTheSameTexts}
use Rattle.object_coverage.proofs.DeclarationLemmas.{layouts-asked}
use Rattle.object_coverage.proofs.EmissionLemmas.{object-same}
use Rattle.object_coverage.proofs.PartialLemmas.{partials-same, partials-ask}

pub objects-same : EqualAnswersGiveEqualObjects
objects-same m o f h =
    object-same m o f.path (file_units m f) (λ key w. h key (among-right (file_asks m f) (code_keys m f) key w))
    ∙ ap (object_text o f.path) (same_file m o f (λ key w. h key (among-left (file_asks m f) (code_keys m f) key w))).units

pub layouts-were-asked : LayoutsWereAsked
layouts-were-asked = layouts-asked

pub objects-ask : ObjectsAskUses
objects-ask files h f mf key w = asked-keys files h f mf key (elim (among-append (file_asks (meaning_in files) f) (code_keys (meaning_in files) f) key w) [ inl a ↦ a | inr c ↦ layouts-asked (meaning_in files) f key c ])

pub unchanged-texts : UnchangedFilesHaveTheSameTexts
unchanged-texts changed p s hp hs c f mf free = record {
  object = objects-same (meaning_in p) (meaning_in s) f (λ key w.
      let r : (is_asked_kind key.kind ≡ true) × IsUse (implementation p) p f key = objects-ask p hp f mf key w in used (implementation p) changed p s hp hs c f mf free key r.0 r.1);
  partial = partials-same (meaning_in p) (meaning_in s) f (λ key w.
      let r : (is_asked_kind key.kind ≡ true) × IsUse (implementation p) p f key = partials-ask p f key w in used (implementation p) changed p s hp hs c f mf free key r.0 r.1);
}

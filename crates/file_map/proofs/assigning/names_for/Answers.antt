use Rattle.file_map.proofs.assigning.names_for.Goals as goal

pub returns : goal.returns
returns c = λ i. record {
  files = c.in_ok-files.ensures i;
  «module» = c.in_ok-module.ensures i;
  image = c.in_ok-image.ensures i;
  priors = c.in_ok-priors.ensures i;
  build_record = c.in_ok-build_record.ensures i;
  gate = c.in_ok-gate.ensures i;
}

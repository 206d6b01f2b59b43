use Rattle.std.proofs.Common.{◌∙◌, refl}
use Rattle.drv_outside.specs.Reads.{reads_one, reads_failed}
use Rattle.project_sources.proofs.CallLemmas.{pass_one}
use Rattle.project_sources.proofs.ParsedLemmas.{parsed_source, read_length}
use Rattle.project_sources.proofs.sources.read_file.Goals as goal

pub returns-in_err-text-clause-reads : goal.returns-in_err-text-clause-reads
returns-in_err-text-clause-reads g c = reads_failed _ _ _ _ tt c.in_err-text.ensures.err

pub returns-in_err-path-clause-reads : goal.returns-in_err-path-clause-reads
returns-in_err-path-clause-reads g c = reads_one _ _ _ _ tt c.in_ok-text.ensures.change

pub returns-in_err-file-clause-reads : goal.returns-in_err-file-clause-reads
returns-in_err-file-clause-reads g c = reads_one _ _ _ _ tt c.in_ok-text.ensures.change

pub returns-clause-reads : goal.returns-clause-reads
returns-clause-reads g c = reads_one _ _ _ _ tt c.in_ok-text.ensures.change

pub returns-clause-passed : goal.returns-clause-passed
returns-clause-passed g c = pass_one _ _ _ tt c.in_ok-text.ensures.change

pub returns-clause-file : goal.returns-clause-file
returns-clause-file g c =
    parsed_source c.args.path.now c.as_str.result.now c.in_ok-path.path c.in_ok-text.text c.as_slice.result.now c.in_ok-file.file (g.T.Tree.observed c.args.tree.now)
    c.as_str.ensures (c.in_ok-path.ensures ∙ c.as_str-2.ensures) c.as_slice.ensures c.in_ok-text.ensures.answer c.in_ok-file.ensures.file

pub returns-clause-bytes : goal.returns-clause-bytes
returns-clause-bytes g c =
    read_length c.args.path.now c.as_str.result.now c.in_ok-text.text c.as_slice-bytes.result.now _ (g.T.Tree.observed c.args.tree.now) c.as_str.ensures c.as_slice-bytes.ensures refl c.in_ok-text.ensures.answer

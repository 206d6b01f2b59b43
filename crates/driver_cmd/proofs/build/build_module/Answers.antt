use Rattle.std.proofs.Common.{◌≡◌, refl, sym, ap, subst}
use Rattle.std.specs.Prelude.{IsTrue}
use Rattle.std.specs.List.{All}
use Rattle.disk_commit.specs.declared.files.File.{File}
use Rattle.drv_outside.specs.Plain.{is_plain_name}
use Rattle.drv_outside.specs.Reads.{OnlyReads, reads_nothing}
use Rattle.drv_outside.specs.declared.status.Status.{Status}
use Rattle.file_map.specs.Assigned.{all_names}
use Rattle.module_compile.specs.ModuleGraph.{recorded_graph}
use Rattle.project_sources.proofs.SourceLemmas.{any_error}
use Rattle.driver_build.specs.CleanFolder.{clean_results}
use Rattle.driver_build.specs.Replacing.{Replaces, StopsReplacing}
use Rattle.driver_build.specs.Wanted.{wanted_of}
use Rattle.driver_build.proofs.NamesLemmas.{gate_has_name, outputs_have_names, record_has_name}
use Rattle.driver_cmd.proofs.build.build_module.Goals as goal

pub returns-in_err-names-clause-early : goal.returns-in_err-names-clause-early
returns-in_err-names-clause-early g c =
    any_error c.from_residual.result (λ status. status ≡ Status.NoMemory → OnlyReads (g.T.Tree.observed c.args.tree.now) (g.T.Tree.observed c.args.tree.now)) (λ status early. reads_nothing _)

pub replace_folder-requires-clause-gate : goal.replace_folder-requires-clause-gate
replace_folder-requires-clause-gate g c = gate_has_name (λ n. IsTrue (is_plain_name n)) c.in_ok-names.field-0.names c.in_ok-names.ensures.made.plain

pub replace_folder-requires-clause-build_record : goal.replace_folder-requires-clause-build_record
replace_folder-requires-clause-build_record g c = record_has_name (λ n. IsTrue (is_plain_name n)) c.in_ok-names.field-0.names c.in_ok-names.ensures.made.plain

pub replace_folder-requires-clause-outputs : goal.replace_folder-requires-clause-outputs
replace_folder-requires-clause-outputs g c =
    let made = c.in_ok-names.ensures.made in
    subst (λ fs. All (λ (file : File). IsTrue (is_plain_name file.name)) fs) (sym c.deref.ensures.value)
    (outputs_have_names (λ n. IsTrue (is_plain_name n)) (wanted_of c.args.name.now c.args.entries.items) (clean_results c.args.trees.items) (recorded_graph c.args.trees.items) c.in_ok-names.field-0.files.items
    (subst (λ ns. All (λ n. IsTrue (is_plain_name n)) (all_names ns)) made.names made.plain) made.files)

pub returns-in-Ok-clause-builds : goal.returns-in-Ok-clause-builds
returns-in-Ok-clause-builds g c =
    let observed = g.T.Tree.observed in
    record {
      made = c.in_ok-names.field-0;
      are = c.in_ok-names.ensures.made;
      has_lines = refl;
      replaces = subst (λ fs. Replaces c.in_ok-names.field-0.names fs (observed c.args.tree.now) (observed c.replace_folder.new.tree)) c.deref.ensures.value c.in-Ok.ensures.replaced;
    }

pub returns-clause-stops : goal.returns-clause-stops
returns-clause-stops g c = λ fault.
    let observed = g.T.Tree.observed in
    record {
      made = c.in_ok-names.field-0;
      are = c.in_ok-names.ensures.made;
      stops = subst (λ fs. StopsReplacing c.in_ok-names.field-0.names fs (observed c.args.tree.now) (observed c.replace_folder.new.tree)) c.deref.ensures.value (c.in-Err.ensures.stops fault);
    }

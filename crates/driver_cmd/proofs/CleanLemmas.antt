-- What a build leaves is the clean build, and a crash at any moment of it does no harm.
use Rattle.std.proofs.Common.{◌≡◌, ℕ, List, [], Option, Some, None, refl, sym, ap, subst, ◌∙◌, inl, inr}
use Rattle.std.specs.Prelude.{◌≢◌, ◌⊎◌, IfSome, IfOk, IfErr, Result, Ok, Err}
use Rattle.std.specs.declared.alloc.Global.{Global}
use Rattle.std.specs.declared.vec.Vec.{Vec}
use Rattle.drv_outside.specs.declared.status.Status.{Status}
use Rattle.std.specs.FinMap.{empty}
use Rattle.diag_text.specs.Line.{lines_of}
use Rattle.diag_text.specs.declared.diag.Diag.{Diag}
use Rattle.disk_commit.specs.Change.{opened_folder}
use Rattle.disk_commit.specs.declared.files.File.{File}
use Rattle.disk_images.specs.Laws.{TrustsByGate}
use Rattle.disk_images.proofs.MomentsLemmas.{reads_leave}
use Rattle.drv_outside.specs.Disk.{Folder, Durably}
use Rattle.drv_outside.specs.IfObserved.{IfObserved}
use Rattle.drv_outside.specs.Moments.{LeavesOnly}
use Rattle.drv_outside.specs.Reads.{OnlyReads, all_listed, reads_then}
use Rattle.drv_outside.specs.TreeState.{TreeState, disk_of, entries_of}
use Rattle.drv_outside.specs.declared.types.Entry.{Entry}
use Rattle.drv_outside.specs.declared.types.Source.{Source}
use Rattle.file_map.specs.Assigned.{all_names}
use Rattle.file_map.specs.Repeated.{AreDistinct}
use Rattle.file_map.specs.declared.names.Names.{Names}
use Rattle.module_compile.specs.ModuleGraph.{recorded_graph}
use Rattle.project_sources.specs.Calls.{PassedCalls, AreSynced, ReadsPass}
use Rattle.project_sources.specs.Refusals.{IsRefused, HaveTrees}
use Rattle.project_sources.proofs.CallLemmas.{pass_listed, then_synced}
use Rattle.project_sources.proofs.UniqueLemmas.{same_errors, same_trees, never_both}
use Rattle.swift_ast.specs.declared.declarations.FileTree.{FileTree}
use Rattle.driver_build.specs.Building.{AreMade, module_errors}
use Rattle.driver_build.specs.CleanFolder.{IsCleanFolder, clean_results}
use Rattle.driver_build.specs.Outputs.{AreOutputs}
use Rattle.driver_build.specs.Replacing.{Replaces, StopsReplacing}
use Rattle.driver_build.specs.Wanted.{wanted_of}
use Rattle.driver_build.proofs.NamesLemmas.{may_replace}
use Rattle.driver_build.proofs.OneFolderLemmas.{one_folder}
use Rattle.driver_build.proofs.ReplacingLemmas.{MayReplace, behind_reads, read_safely, replaced_folder, replaced_settled, replaced_synced, replaced_safely, stopped_safely}
use Rattle.driver_cmd.specs.Clean.{Clean, IsClean, refused, built, LeavesCleanBuild, refusal, build_of}
use Rattle.driver_cmd.specs.Projects.{Builds, StopsBuilding}
use Rattle.driver_cmd.specs.Trusted.{MayBeTrusted, shut, unrecorded, left, AreBooked, StaysTrusted}

-- what is left where the sources are refused
pub refused_leaves : (name : List ℕ) (before after : Option TreeState) (errors : List Diag) (lines : List ℕ) → ReadsPass before after → IfSome before (λ t. IsRefused t.sources errors)
    → lines ≡ lines_of errors → IfObserved before after (LeavesCleanBuild name lines before after)
refused_leaves name None after errors lines pass is has = tt
refused_leaves name (Some t) after errors lines pass is has =
    subst (λ o. IfObserved (Some t) o (LeavesCleanBuild name lines (Some t) after)) (sym pass.reads.is)
    (record {
      clean = refusal errors;
      is = refused errors is refl;
      has_lines = sym has;
      folder = refl;
      untouched = λ _. pass.reads;
      settled = λ some. absurd (some refl);
      synced = pass_listed t (Some t) after pass;
    })

-- the outputs of a build and an open gate are a clean folder
clean_folder : (name : List ℕ) (sources : List Source) (entries : List Entry) (trees : List FileTree) (names : Names) (outputs : List File) → entries ≡ entries_of sources → names ≡ (wanted_of name entries).names
    → AreOutputs (wanted_of name entries) (clean_results trees) (recorded_graph trees) outputs → IsCleanFolder (wanted_of name (entries_of sources)) trees (opened_folder names.gate outputs)
clean_folder name sources entries trees names outputs is named are =
    subst (λ es. IsCleanFolder (wanted_of name es) trees (opened_folder names.gate outputs)) is
    (record { outputs = outputs; are = are; is = ap (λ (ns : Names). opened_folder ns.gate outputs) named })

-- what is left where the files of a module have trees, behind calls that read
left_by : (name : List ℕ) (before : Option TreeState) (t s : TreeState) (after : Option TreeState) (entries : List Entry) (trees : List FileTree) (lines : List ℕ) → entries ≡ entries_of t.sources → HaveTrees t.sources trees
    → (b : Builds name entries trees lines (Some s) after) → IfObserved (Some s) after (λ s u. u.folder ≡ opened_folder b.made.names.gate b.made.files.items) → IfObserved (Some s) after (λ s u. u.doubts ≡ empty)
    → IfObserved (Some t) after (PassedCalls AreSynced) → IfObserved (Some t) after (LeavesCleanBuild name lines before after)
left_by name before t s None entries trees lines is have b folder doubts passed = passed
left_by name before t s (Some u) entries trees lines is have b folder doubts passed =
    let whole = opened_folder b.made.names.gate b.made.files.items in
    record {
      clean = build_of trees whole;
      is = built trees whole have (clean_folder name t.sources entries trees b.made.names b.made.files.items is b.are.names b.are.files) refl;
      has_lines = sym b.are.lines ∙ b.has_lines;
      folder = folder;
      untouched = λ none. cc;
      settled = λ some. doubts;
      synced = passed;
    }

pub built_leaves : (name : List ℕ) (before between after : Option TreeState) (entries : List Entry) (trees : List FileTree) (lines : List ℕ) → ReadsPass before between
    → IfSome before (λ t. (entries ≡ entries_of t.sources) × HaveTrees t.sources trees) → Builds name entries trees lines between after → IfObserved before after (LeavesCleanBuild name lines before after)
built_leaves name None between after entries trees lines pass have builds = tt
built_leaves name (Some t) between after entries trees lines pass have builds =
    let s : TreeState = all_listed pass.reads.calls pass.reads.failed t in
    let b : Builds name entries trees lines (Some s) after = subst (λ o. Builds name entries trees lines o after) pass.reads.is builds in
    left_by name (Some t) t s after entries trees lines have.0 have.1 b
    (replaced_folder b.made.names b.made.files.items (Some s) after b.replaces)
    (replaced_settled b.made.names b.made.files.items (Some s) after b.replaces)
    (then_synced (Some t) between after pass (replaced_synced builds.made.names builds.made.files.items between after builds.replaces))

-- ---- crashes

trusts : (name : List ℕ) (entries : List Entry) (book : List Source) → TrustsByGate (wanted_of name entries).names.gate (wanted_of name entries).names.build_record (MayBeTrusted name book)
trusts name entries book = record { shut = λ folder is. shut is; unrecorded = λ folder is. unrecorded is }

-- the outputs of a build may take the place of what stands in a folder that may be trusted
may_build : (name : List ℕ) (t : TreeState) (entries : List Entry) (trees : List FileTree) (outputs : List File) → entries ≡ entries_of t.sources → HaveTrees t.sources trees
    → AreDistinct (all_names (wanted_of name entries).names) → AreOutputs (wanted_of name entries) (clean_results trees) (recorded_graph trees) outputs
    → AreBooked t.book t.sources → Durably (MayBeTrusted name t.book) (disk_of t) → MayReplace (wanted_of name entries).names outputs (MayBeTrusted name t.book) t
may_build name t entries trees outputs is have distinct are booked trusted =
    may_replace (MayBeTrusted name t.book) (wanted_of name entries) (clean_results trees) (recorded_graph trees) outputs t distinct are (trusts name entries t.book)
    (left t.sources trees (opened_folder (wanted_of name entries).names.gate outputs) booked have
    (clean_folder name t.sources entries trees (wanted_of name entries).names outputs is refl are) (λ n bytes found. inr found))
    trusted

pub stays_reading : (name : List ℕ) (before after : Option TreeState) → OnlyReads before after → StaysTrusted name before after
stays_reading name None after reads = tt
stays_reading name (Some t) after reads = λ booked trusted. reads_leave (MayBeTrusted name t.book) t after trusted reads

pub stays_built : (name : List ℕ) (before between after : Option TreeState) (entries : List Entry) (trees : List FileTree) (lines : List ℕ) → OnlyReads before between
    → IfSome before (λ t. (entries ≡ entries_of t.sources) × HaveTrees t.sources trees) → Builds name entries trees lines between after → StaysTrusted name before after
stays_built name None between after entries trees lines reads have builds = tt
stays_built name (Some t) between after entries trees lines reads have builds = λ booked trusted.
    let P = MayBeTrusted name t.book in
    let s : TreeState = all_listed reads.calls reads.failed t in
    let outputs = builds.made.files.items in
    let replaces : Replaces (wanted_of name entries).names outputs (Some s) after =
    subst (λ ns. Replaces ns outputs (Some s) after) builds.are.names (subst (λ o. Replaces builds.made.names outputs o after) reads.is builds.replaces) in
    behind_reads P t reads.calls reads.failed after (read_safely P t between reads trusted)
    (replaced_safely P (wanted_of name entries).names outputs s after
    (may_build name s entries trees outputs have.0 have.1 (subst (λ ns. AreDistinct (all_names ns)) builds.are.names builds.are.distinct) builds.are.files booked trusted) replaces)

pub stays_stopped : (name : List ℕ) (before between after : Option TreeState) (entries : List Entry) (trees : List FileTree) → OnlyReads before between
    → IfSome before (λ t. (entries ≡ entries_of t.sources) × HaveTrees t.sources trees) → StopsBuilding name entries trees between after → StaysTrusted name before after
stays_stopped name None between after entries trees reads have stops = tt
stays_stopped name (Some t) between after entries trees reads have stops = λ booked trusted.
    let P = MayBeTrusted name t.book in
    let s : TreeState = all_listed reads.calls reads.failed t in
    let outputs = stops.made.files.items in
    let stopped : StopsReplacing (wanted_of name entries).names outputs (Some s) after =
    subst (λ ns. StopsReplacing ns outputs (Some s) after) stops.are.names (subst (λ o. StopsReplacing stops.made.names outputs o after) reads.is stops.stops) in
    behind_reads P t reads.calls reads.failed after (read_safely P t between reads trusted)
    (stopped_safely P (wanted_of name entries).names outputs s after
    (may_build name s entries trees outputs have.0 have.1 (subst (λ ns. AreDistinct (all_names ns)) stops.are.names stops.are.distinct) stops.are.files booked trusted) stopped)

-- A build of a module that was read is at its end, whatever it answers.
pub stays_ended : (name : List ℕ) (before between after : Option TreeState) (entries : List Entry) (trees : List FileTree) (r : Result (Vec ℕ Global) Status) → OnlyReads before between
    → IfSome before (λ t. (entries ≡ entries_of t.sources) × HaveTrees t.sources trees) → IfOk r (λ lines. Builds name entries trees lines.items between after)
    → IfErr r (λ status. status ≡ Status.TreeFault → StopsBuilding name entries trees between after) → IfErr r (λ status. status ≡ Status.NoMemory → OnlyReads between after)
    → IfErr r (λ status. (status ≡ Status.TreeFault) ⊎ (status ≡ Status.NoMemory)) → StaysTrusted name before after
stays_ended name before between after entries trees (Ok lines) reads have builds stops early ends = stays_built name before between after entries trees lines.items reads have builds
stays_ended name before between after entries trees (Err status) reads have builds stops early (inl is) = stays_stopped name before between after entries trees reads have (stops is)
stays_ended name before between after entries trees (Err status) reads have builds stops early (inr is) = stays_reading name before after (reads_then before between after reads (early is))

-- A module has one clean build.
pub one_clean : (name : List ℕ) (sources : List Source) (one two : Clean) → IsClean name sources one → IsClean name sources two → one ≡ two
one_clean name sources one two (refused es a is) (refused fs b also) = is ∙ ap refusal (same_errors sources es fs a b) ∙ sym also
one_clean name sources one two (refused es a is) (built trees folder have whole also) = absurd (never_both sources es trees a have)
one_clean name sources one two (built trees folder have whole is) (refused es a also) = absurd (never_both sources es trees a have)
one_clean name sources one two (built fs f a whole is) (built gs g b other also) =
    let trees : fs ≡ gs = same_trees sources fs gs a b in
    let folder : f ≡ g = one_folder (wanted_of name (entries_of sources)) gs f g (subst (λ ts. IsCleanFolder (wanted_of name (entries_of sources)) ts f) trees whole) other in
    is ∙ (λ i. build_of (trees i) (folder i)) ∙ sym also

-- What a project is, from what was read of it.
use Rattle.std.proofs.Common.{◌≡◌, ℕ, List, [], Option, Some, None, sym, subst}
use Rattle.std.specs.Prelude.{IfSome, IfOk, IfErr, OnOk, Result, Ok, Err}
use Rattle.std.specs.declared.alloc.Global.{Global}
use Rattle.std.specs.declared.vec.Vec.{Vec}
use Rattle.diag_text.specs.declared.diag.Diag.{Diag}
use Rattle.drv_outside.specs.Reads.{OnlyReads, reads_then}
use Rattle.drv_outside.specs.declared.status.Status.{Status}
use Rattle.project_sources.specs.Calls.{ReadsPass}
use Rattle.project_sources.proofs.CallLemmas.{pass_then}
use Rattle.drv_outside.specs.TreeState.{TreeState}
use Rattle.drv_outside.specs.declared.types.Entry.{Entry}
use Rattle.drv_outside.specs.declared.types.Source.{Source}
use Rattle.swift_ast.specs.declared.declarations.FileTree.{FileTree}
use Rattle.project_sources.specs.Parsed.{entry_paths}
use Rattle.project_sources.specs.Reading.{IsListed, AreReadAs}
use Rattle.project_sources.specs.declared.reading.Listing.TheVariants as listing
use Rattle.project_sources.specs.declared.reading.Sources.TheVariants as read
use Rattle.project_sources.proofs.ParsedLemmas.{sources_stay}
use Rattle.project_sources.proofs.SourceLemmas.{listing_refused, reading_refused, reading_trees}
use Rattle.driver_cmd.specs.Projects.{IsReadFrom}
use Rattle.driver_cmd.specs.declared.build.Project.{Project}
use Rattle.driver_cmd.specs.declared.build.Project.TheVariants.{Refused, Read}

pub list_refused : (observed : Option TreeState) (errors : Vec Diag Global) → IfSome observed (λ t. IsListed t.sources (listing.Refused errors)) → IfSome observed (λ t. IsReadFrom t.sources (Refused errors))
list_refused None errors is = tt
list_refused (Some t) errors is = listing_refused t.sources errors is

pub read_refused : (observed : Option TreeState) (entries : Vec Entry Global) (errors : Vec Diag Global) → IfSome observed (λ t. AreReadAs t.sources (entry_paths entries.items) (read.Refused errors))
    → IfSome observed (λ t. IsListed t.sources (listing.Listed entries) → IsReadFrom t.sources (Refused errors))
read_refused None entries errors so = tt
read_refused (Some t) entries errors so = λ is. reading_refused t.sources entries errors is so

pub read_trees : (observed : Option TreeState) (entries : Vec Entry Global) (trees : Vec FileTree Global) → IfSome observed (λ t. AreReadAs t.sources (entry_paths entries.items) (read.Trees trees))
    → IfSome observed (λ t. IsListed t.sources (listing.Listed entries) → IsReadFrom t.sources (Read entries trees))
read_trees None entries trees so = tt
read_trees (Some t) entries trees so = λ is. (is.0, reading_trees t.sources entries trees is so)

both_so : (observed : Option TreeState) (A B : TreeState → Type 0) → IfSome observed A → IfSome observed (λ t. A t → B t) → IfSome observed B
both_so None A B a f = tt
both_so (Some t) A B a f = f a

-- what was listed and then read
pub read_behind : (before between : Option TreeState) (entries : Vec Entry Global) (project : Project) → OnlyReads before between → IfSome before (λ t. IsListed t.sources (listing.Listed entries))
    → IfSome between (λ t. IsListed t.sources (listing.Listed entries) → IsReadFrom t.sources project) → IfSome before (λ t. IsReadFrom t.sources project)
read_behind before between entries project reads listed so =
    both_so before (λ t. IsListed t.sources (listing.Listed entries)) (λ t. IsReadFrom t.sources project) listed
    (sources_stay (λ sources. IsListed sources (listing.Listed entries) → IsReadFrom sources project) before between reads so)

-- calls that pass behind others, where a call has answered
pub passed_behind : {X E : Type 0} (r : Result X E) (before between after : Option TreeState) → ReadsPass before between → OnOk r (ReadsPass between after) → OnOk r (ReadsPass before after)
passed_behind (Ok x) before between after one two = pass_then before between after one two
passed_behind (Err e) before between after one two = tt

-- and calls that read behind others, where it ended early
pub early_behind : {X : Type 0} (r : Result X Status) (before between after : Option TreeState) → OnlyReads before between → IfErr r (λ status. status ≡ Status.NoMemory → OnlyReads between after)
    → IfErr r (λ status. status ≡ Status.NoMemory → OnlyReads before after)
early_behind (Ok x) before between after one two = tt
early_behind (Err e) before between after one two = λ early. reads_then before between after one (two early)

-- what an answer is, it is said of it
pub for_ok : {X E : Type 0} (r : Result X E) (P Q : X → Type 0) → IfOk r P → ((x : X) → P x → Q x) → IfOk r Q
for_ok (Ok x) P Q so f = f x so
for_ok (Err e) P Q so f = tt

-- What a call of the driver has done, by the status that it ends with: the page to begin with.
--
-- `clean` is the clean build of the sources: the error lines, and what stands in the build folder, that a build of the module
-- from nothing gives. `t` and `u` are what the tree tells before and after the call. Of a tree that tells nothing, as a real
-- folder, the causes alone are promised.
use Rattle.std.specs.Prelude.{◌≡◌, ◌≢◌, ◌⊎◌, ◌↔◌, ℕ, List, [], ◌++◌, Option, None, IsOk, Ok, Err, option_map}
use Rattle.std.specs.FinMap.{empty}
use Rattle.drv_outside.specs.Faults.{CountRose}
use Rattle.drv_outside.specs.IfObserved.{IfObserved}
use Rattle.drv_outside.specs.Reads.{OnlyReads}
use Rattle.drv_outside.specs.Sink.{PutsSome}
use Rattle.drv_outside.specs.TreeState.{TreeState}
use Rattle.drv_outside.specs.declared.status.Status.{Status}
use Rattle.drv_outside.specs.declared.status.Status.TheVariants.{Done, Errors, Usage, TreeFault, NoMemory, SinkFault, BadMap}
use Rattle.project_sources.specs.Calls.{PassedCalls, AreSynced}
use Rattle.driver_cmd.specs.Clean.{Clean, ForCleanBuild, IsLeftBy}
use Rattle.driver_cmd.specs.Command.{request_of}
use Rattle.driver_cmd.specs.Trusted.{StaysTrusted}

-- What is seen from outside before a call of the driver, or after it.
pub record Outside : Type 0 where
  -- what the tree holds and was asked, where it tells
  pub tree : Option TreeState
  -- how often a call of the tree has failed
  pub tree_faults : ℕ
  -- the bytes that were put into the sink, where it tells
  pub printed : Option (List ℕ)
  -- how often a put into the sink has failed
  pub sink_faults : ℕ

abbrev pub outside : Option TreeState → ℕ → Option (List ℕ) → ℕ → Outside
outside tree tree_faults printed sink_faults = record { tree = tree; tree_faults = tree_faults; printed = printed; sink_faults = sink_faults }

-- Statuses 0, 1 and 5 end a build whose folder is ready.
abbrev pub IsBuilt : Status → Type 0
IsBuilt Done = Unit {0}
IsBuilt Errors = Unit {0}
IsBuilt SinkFault = Unit {0}
IsBuilt (Usage at) = ⊥
IsBuilt TreeFault = ⊥
IsBuilt NoMemory = ⊥
IsBuilt (BadMap fault) = ⊥

-- Statuses 2 and 4 come before anything is written.
abbrev pub EndsEarly : Status → Type 0
EndsEarly (Usage at) = Unit {0}
EndsEarly NoMemory = Unit {0}
EndsEarly Done = ⊥
EndsEarly Errors = ⊥
EndsEarly TreeFault = ⊥
EndsEarly SinkFault = ⊥
EndsEarly (BadMap fault) = ⊥

-- All statuses but 1 and 5 come without a line.
abbrev pub PutsNothing : Status → Type 0
PutsNothing Errors = ⊥
PutsNothing SinkFault = ⊥
PutsNothing Done = Unit {0}
PutsNothing (Usage at) = Unit {0}
PutsNothing TreeFault = Unit {0}
PutsNothing NoMemory = Unit {0}
PutsNothing (BadMap fault) = Unit {0}

-- Where the words ask to build a module, this is so of its name.
abbrev pub IfAsked : List (List ℕ) → (List ℕ → Type 0) → Type 0
IfAsked words P = (name : List ℕ) → request_of words ≡ Ok name → P name

-- Where the tree tells what it holds, this is so of the clean build of its sources, and of the tree before and after.
abbrev pub IfClean : List (List ℕ) → Outside → Outside → (Clean → TreeState → TreeState → Type 0) → Type 0
IfClean words old new P = IfAsked words (λ name. IfObserved old.tree new.tree (λ t u. ForCleanBuild name t.sources (λ clean. P clean t u)))

-- All lines were put behind what was put before.
abbrev pub PutsAll : List ℕ → Option (List ℕ) → Option (List ℕ) → Type 0
PutsAll lines before after = after ≡ option_map (λ had. had ++ lines) before

-- A call of the driver with these words made `new` of `old`, and ended with the status.
pub record Driven (words : List (List ℕ)) (old new : Outside) (status : Status) : Type 0 where
  -- Status 0: the build folder is as the clean build leaves it, and there are no error lines.
  pub done : status ≡ Done → IfClean words old new (λ clean t u. IsLeftBy clean t u × (clean.lines ≡ []))
  -- Status 1: the build folder is as the clean build leaves it, and there are error lines.
  pub errors : status ≡ Errors → IfClean words old new (λ clean t u. IsLeftBy clean t u × (clean.lines ≢ []))
  -- Status 5: the build folder is as the clean build leaves it, and there are error lines.
  pub sink_fault_folder : status ≡ SinkFault → IfClean words old new (λ clean t u. IsLeftBy clean t u × (clean.lines ≢ []))
  -- Status 1: all error lines were put.
  pub errors_put : status ≡ Errors → IfClean words old new (λ clean t u. PutsAll clean.lines old.printed new.printed)
  -- Status 5: some first bytes of the error lines were put.
  pub sink_fault_put : status ≡ SinkFault → IfClean words old new (λ clean t u. PutsSome clean.lines old.printed new.printed)
  -- Any other status: nothing was put.
  pub nothing_put : PutsNothing status → new.printed ≡ old.printed
  -- Statuses 0, 1 and 5: no call of the tree failed, and behind the last one that changed a file there is a sync.
  pub synced : IsBuilt status → IfObserved old.tree new.tree (PassedCalls AreSynced)
  -- Statuses 0, 1 and 5: where the clean build has a folder, a crash from now on leaves exactly this folder.
  pub settled : IsBuilt status → IfClean words old new (λ clean t u. clean.folder ≢ None → u.doubts ≡ empty)
  -- Statuses 0, 1 and 5: where the clean build leaves the build folder as it was, it was only read.
  pub untouched : IsBuilt status → IfClean words old new (λ clean t u. clean.folder ≡ None → OnlyReads old.tree new.tree)
  -- Statuses 2 and 4: the build folder was only read.
  pub nothing_written : EndsEarly status → OnlyReads old.tree new.tree
  -- Any status: a crash at any moment since the call began, or from now on, leaves a folder that may be trusted, if that was
  -- so before.
  pub trusted : IfAsked words (λ name. StaysTrusted name old.tree new.tree)
  -- Any status but 3: no call of the tree failed, by its count.
  pub no_tree_fault : status ≢ TreeFault → new.tree_faults ≡ old.tree_faults
  -- Any status but 5: no put into the sink failed, by its count.
  pub no_sink_fault : status ≢ SinkFault → new.sink_faults ≡ old.sink_faults
  -- Status 2 comes exactly where the words are no accepted command, and tells the place of the first one to blame.
  pub usage : (at : ℕ) → (status ≡ Usage at) ↔ (request_of words ≡ Err at)
  -- Status 3 comes only where a call of the tree failed,
  pub tree_fault : status ≡ TreeFault → CountRose old.tree_faults new.tree_faults
  -- and status 5 only where a put into the sink did.
  pub sink_fault : status ≡ SinkFault → CountRose old.sink_faults new.sink_faults
  -- Status 6 never comes: no command has an output file map.
  pub bad_map : (fault : _) → status ≢ BadMap fault
  -- Accepted words, and no call that failed, give status 0, 1 or 4.
  pub completes : IsOk (request_of words) → ¬ CountRose old.tree_faults new.tree_faults → ¬ CountRose old.sink_faults new.sink_faults
      → (status ≡ Done) ⊎ (status ≡ Errors) ⊎ (status ≡ NoMemory)

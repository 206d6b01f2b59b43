-- The calls of a tree that a build makes.
use Rattle.std.specs.Prelude.{◌≡◌, Bool, false, List, ◌∷◌, ◌++◌, map, Option}
use Rattle.drv_outside.specs.Reads.{AreReads, OnlyReads}
use Rattle.drv_outside.specs.TreeState.{TreeState}
use Rattle.drv_outside.specs.declared.types.Call.{Call}
use Rattle.drv_outside.specs.declared.types.Call.TheVariants.{Sync}

-- of each of these calls, that it didn't fail
abbrev pub none_failed : List Call → List Bool
none_failed calls = map (λ call. false) calls

-- The calls that the tree was asked between `t` and `u` are so, and none of them failed.
pub record PassedCalls (AreSo : List Call → Type 0) (t u : TreeState) : Type 0 where
  pub calls : List Call
  pub listed : u.calls ≡ t.calls ++ calls
  pub passed : u.failed ≡ t.failed ++ none_failed calls
  pub are : AreSo calls

-- No call changes a file, or there is a sync behind the last one that does.
pub data AreSynced (calls : List Call) : Type 0 where
  unchanged : AreReads calls → AreSynced calls
  synced : (front reads : List Call) → calls ≡ front ++ Sync ∷ reads → AreReads reads → AreSynced calls

-- Calls were made that read, none of which failed, and nothing else.
pub record ReadsPass (before after : Option TreeState) : Type 0 where
  pub reads : OnlyReads before after
  pub passed : reads.failed ≡ none_failed reads.calls

-- How error lines were printed.
use Rattle.std.specs.Prelude.{◌≡◌, ◌≢◌, ℕ, List, [], Option}
use Rattle.drv_outside.specs.Faults.{CountRose}
use Rattle.drv_outside.specs.Sink.{PutsSome}
use Rattle.drv_outside.specs.declared.status.Status.{Status}
use Rattle.driver_cmd.specs.Driven.{PutsAll}

-- Lines were printed, with this status: none where there are none, else all of them, or as many as the sink took.
pub data Printed (lines : List ℕ) (before after : Option (List ℕ)) (faults_before faults_after : ℕ) (status : Status) : Type 0 where
  unneeded : status ≡ Status.Done → lines ≡ [] → after ≡ before → faults_after ≡ faults_before → Printed lines before after faults_before faults_after status
  whole : status ≡ Status.Errors → lines ≢ [] → PutsAll lines before after → faults_after ≡ faults_before → Printed lines before after faults_before faults_after status
  cut : status ≡ Status.SinkFault → lines ≢ [] → PutsSome lines before after → CountRose faults_before faults_after → Printed lines before after faults_before faults_after status

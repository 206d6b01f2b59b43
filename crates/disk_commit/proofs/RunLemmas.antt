-- Runs of calls that are done, and runs that stop at a call that failed.
use Rattle.std.proofs.Common.{◌≡◌, ◌++◌, inl, inr, List, [], ◌∷◌, map, true, Option, Some, None, option_map, refl, sym, ap, subst, ◌∙◌, append_assoc, ℕ}
use Rattle.std.specs.Prelude.{Result, Ok, Err, OnErr}
use Rattle.drv_outside.specs.TreeState.{TreeState, done, UnlistedOr, FailsToChange}
use Rattle.drv_outside.specs.TreeState as state
use Rattle.drv_outside.specs.Moments.{all_done, Fails, unlisted, listed, Stops}
use Rattle.drv_outside.specs.declared.types.Call.{Call}
use Rattle.drv_outside.specs.declared.types.Call.TheVariants.{Write, Remove, Sync}

pub run_none : (o : Option TreeState) → o ≡ option_map (all_done []) o
run_none None = refl
run_none (Some t) = refl

all_done_then : (a b : List Call) (t : TreeState) → all_done (a ++ b) t ≡ all_done b (all_done a t)
all_done_then [] b t = refl
all_done_then (call ∷ a) b t = all_done_then a b (done call t)

-- one run behind another
pub run_then : (a b : List Call) (before between after : Option TreeState) → between ≡ option_map (all_done a) before → after ≡ option_map (all_done b) between → after ≡ option_map (all_done (a ++ b)) before
run_then a b None between after one two = two ∙ ap (option_map (all_done b)) one
run_then a b (Some t) between after one two = two ∙ ap (option_map (all_done b)) one ∙ ap Some (sym (all_done_then a b t))

-- one call more
pub run_more : (calls : List Call) (call : Call) (before between after : Option TreeState) → between ≡ option_map (all_done calls) before → after ≡ option_map (done call) between → after ≡ option_map (all_done (calls ++ call ∷ [])) before
run_more calls call before between after one two = run_then calls (call ∷ []) before between after one two

-- a run stops at its next call
pub stops_at : (calls : List Call) (call : Call) (rest : List Call) (before between after : Option TreeState) → between ≡ option_map (all_done calls) before → Fails call between after → Stops (calls ++ call ∷ rest) before after
stops_at calls call rest before between after is fails = record { done_calls = calls; call = call; rest = rest; is = refl; fails = subst (λ o. Fails call o after) is fails }

-- a run stops in its first part
pub stops_first : (a b : List Call) (before after : Option TreeState) → Stops a before after → Stops (a ++ b) before after
stops_first a b before after s = record {
  done_calls = s.done_calls;
  call = s.call;
  rest = s.rest ++ b;
  is = ap (λ calls. calls ++ b) s.is ∙ append_assoc s.done_calls (s.call ∷ s.rest) b;
  fails = s.fails;
}

-- a run stops in its second part
pub stops_then : (a b : List Call) (before between after : Option TreeState) → between ≡ option_map (all_done a) before → Stops b between after → Stops (a ++ b) before after
stops_then a b before between after is s = record {
  done_calls = a ++ s.done_calls;
  call = s.call;
  rest = s.rest;
  is = ap (λ calls. a ++ calls) s.is ∙ sym (append_assoc a s.done_calls (s.call ∷ s.rest));
  fails = subst (λ o. Fails s.call o after) (run_then a s.done_calls before between (option_map (all_done s.done_calls) between) is refl) s.fails;
}

pub write_fails : (name bytes : List ℕ) (before after : Option TreeState) → FailsToChange name (Write name bytes) before after → Fails (Write name bytes) before after
write_fails name bytes before after (state.unlisted is) = unlisted is
write_fails name bytes before after (state.left found is) = listed found is

pub remove_fails : (name : List ℕ) (before after : Option TreeState) → FailsToChange name (Remove name) before after → Fails (Remove name) before after
remove_fails name before after (state.unlisted is) = unlisted is
remove_fails name before after (state.left found is) = listed found is

pub sync_fails : (before after : Option TreeState) → UnlistedOr Sync true before after → Fails Sync before after
sync_fails before after (inl is) = unlisted is
sync_fails before after (inr is) = listed None is

-- at the exit by an error
pub on_err : {X E : Type 0} (r : Result X E) (P : Type 0) → P → OnErr r P
on_err (Ok x) P so = tt
on_err (Err e) P so = so

-- the same for a call for each element of a list
calls_push : {X : Type 0} (call_of : X → Call) (front : List X) (x : X) (rest : List X) → map call_of (front ++ x ∷ rest) ≡ map call_of front ++ call_of x ∷ map call_of rest
calls_push call_of [] x rest = refl
calls_push call_of (y ∷ front) x rest = ap (λ calls. call_of y ∷ calls) (calls_push call_of front x rest)

pub more_of : {X : Type 0} (call_of : X → Call) (front longer : List X) (x : X) (before between after : Option TreeState) → longer ≡ front ++ x ∷ []
    → between ≡ option_map (all_done (map call_of front)) before → after ≡ option_map (done (call_of x)) between → after ≡ option_map (all_done (map call_of longer)) before
more_of call_of front longer x before between after is one two =
    run_more (map call_of front) (call_of x) before between after one two ∙ ap (λ calls. option_map (all_done calls) before) (sym (ap (map call_of) is ∙ calls_push call_of front x []))

pub stops_of : {X : Type 0} (call_of : X → Call) (whole front : List X) (x : X) (rest : List X) (before between after : Option TreeState) → whole ≡ front ++ x ∷ rest
    → between ≡ option_map (all_done (map call_of front)) before → Fails (call_of x) between after → Stops (map call_of whole) before after
stops_of call_of whole front x rest before between after is one fails =
    subst (λ calls. Stops calls before after) (sym (ap (map call_of) is ∙ calls_push call_of front x rest)) (stops_at (map call_of front) (call_of x) (map call_of rest) before between after one fails)

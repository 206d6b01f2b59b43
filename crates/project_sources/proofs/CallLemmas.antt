-- Runs of calls that pass.
use Rattle.std.proofs.Common.{◌≡◌, ℕ, false, Bool, List, [], ◌∷◌, ◌++◌, Option, Some, None, option_map, refl, sym, ap, subst, ◌∙◌, append_assoc, append-nil}
use Rattle.std.proofs.lemmas.List.{map-append}
use Rattle.drv_outside.specs.IfObserved.{IfObserved}
use Rattle.drv_outside.specs.Moments.{all_done}
use Rattle.drv_outside.specs.Reads.{IsRead, AreReads, all_listed}
use Rattle.drv_outside.specs.TreeState.{TreeState, listed, done}
use Rattle.drv_outside.specs.declared.types.Call.{Call}
use Rattle.drv_outside.specs.declared.types.Call.TheVariants.{Sync}
use Rattle.project_sources.specs.Calls.{PassedCalls, AreSynced, unchanged, synced, ReadsPass, none_failed}

reads_both : (c d : List Call) → AreReads c → AreReads d → AreReads (c ++ d)
reads_both [] d r s = s
reads_both (call ∷ c) d r s = (r.0, reads_both c d r.1 s)

failed_both : (c d : List Call) → none_failed (c ++ d) ≡ none_failed c ++ none_failed d
failed_both c d = map-append (λ call. false) c d

listed_twice : (c d : List Call) (f g : List Bool) (o : Option TreeState) → option_map (all_listed d g) (option_map (all_listed c f) o) ≡ option_map (all_listed (c ++ d) (f ++ g)) o
listed_twice c d f g None = refl
listed_twice c d f g (Some t) = simp (append_assoc, map-append)

nothing_listed : (o : Option TreeState) → option_map (all_listed [] []) o ≡ o
nothing_listed None = refl
nothing_listed (Some t) = simp append-nil

-- no call passes
pub pass_nothing : (observed : Option TreeState) → ReadsPass observed observed
pass_nothing observed = record { reads = record { calls = []; failed = []; reads = tt; is = sym (nothing_listed observed) }; passed = refl }

-- a call that reads passes
pub pass_one : (call : Call) (before after : Option TreeState) → IsRead call → after ≡ option_map (listed call false) before → ReadsPass before after
pass_one call before after reads is = record { reads = record { calls = call ∷ []; failed = false ∷ []; reads = (reads, tt); is = is }; passed = refl }

-- calls that read pass behind others
pub pass_then : (before between after : Option TreeState) → ReadsPass before between → ReadsPass between after → ReadsPass before after
pass_then before between after one two =
    let c = one.reads.calls in
    let d = two.reads.calls in
    record {
      reads = record {
        calls = c ++ d;
        failed = one.reads.failed ++ two.reads.failed;
        reads = reads_both c d one.reads.reads two.reads.reads;
        is = two.reads.is ∙ ap (option_map (all_listed d two.reads.failed)) one.reads.is ∙ listed_twice c d one.reads.failed two.reads.failed before;
      };
      passed = ap (λ f. f ++ two.reads.failed) one.passed ∙ ap (λ f. none_failed c ++ f) two.passed ∙ sym (failed_both c d);
    }

-- the calls that a tree was asked, where they read alone and passed
pub pass_listed : (t : TreeState) (before after : Option TreeState) (pass : ReadsPass before after) → PassedCalls AreSynced t (all_listed pass.reads.calls pass.reads.failed t)
pass_listed t before after pass =
    record { calls = pass.reads.calls; listed = refl; passed = ap (λ f. t.failed ++ f) pass.passed; are = unchanged pass.reads.reads }

synced_behind : (front calls : List Call) → AreReads front → AreSynced calls → AreSynced (front ++ calls)
synced_behind front calls reads (unchanged more) = unchanged (reads_both front calls reads more)
synced_behind front calls reads (synced before behind is more) = synced (front ++ before) behind (ap (λ c. front ++ c) is ∙ sym (append_assoc front before (Sync ∷ behind))) more

synced_on : (t : TreeState) (front : List Call) (failed : List Bool) (after : Option TreeState) → AreReads front → failed ≡ none_failed front → IfObserved (Some (all_listed front failed t)) after (PassedCalls AreSynced)
    → IfObserved (Some t) after (PassedCalls AreSynced)
synced_on t front failed None reads none so = so
synced_on t front failed (Some u) reads none so = record {
  calls = front ++ so.calls;
  listed = so.listed ∙ append_assoc t.calls front so.calls;
  passed = so.passed ∙ append_assoc t.failed failed (none_failed so.calls) ∙ ap (λ f. t.failed ++ (f ++ none_failed so.calls)) none ∙ ap (λ f. t.failed ++ f) (sym (failed_both front so.calls));
  are = synced_behind front so.calls reads so.are;
}

-- calls that read, and then calls with a sync behind what they change
pub then_synced : (before between after : Option TreeState) → ReadsPass before between → IfObserved between after (PassedCalls AreSynced) → IfObserved before after (PassedCalls AreSynced)
then_synced None between after pass so = tt
then_synced (Some t) between after pass so =
    synced_on t pass.reads.calls pass.reads.failed after pass.reads.reads pass.passed (subst (λ o. IfObserved o after (PassedCalls AreSynced)) pass.reads.is so)

-- the calls and the failures that a tree lists grow so
abbrev Grows : List Call → TreeState → TreeState → Type 0
Grows calls t u = (u.calls ≡ t.calls ++ calls) × (u.failed ≡ t.failed ++ none_failed calls)

grows_on : (call : Call) (calls : List Call) (t s u : TreeState) → s.calls ≡ t.calls ++ call ∷ [] → s.failed ≡ t.failed ++ false ∷ [] → Grows calls s u → Grows (call ∷ calls) t u
grows_on call calls t s u c f g = (
  g.0 ∙ ap (λ x. x ++ calls) c ∙ append_assoc t.calls (call ∷ []) calls,
  g.1 ∙ ap (λ x. x ++ none_failed calls) f ∙ append_assoc t.failed (false ∷ []) (none_failed calls),
)

done_grows : (calls : List Call) (t : TreeState) → Grows calls t (all_done calls t)
done_grows [] t = (sym (append-nil t.calls), sym (append-nil t.failed))
done_grows (call ∷ calls) t = grows_on call calls t (done call t) (all_done calls (done call t)) refl refl (done_grows calls (done call t))

grows_then : (c d : List Call) (t s u : TreeState) → Grows c t s → Grows d s u → Grows (c ++ d) t u
grows_then c d t s u g h = (
  h.0 ∙ ap (λ x. x ++ d) g.0 ∙ append_assoc t.calls c d,
  h.1 ∙ ap (λ x. x ++ none_failed d) g.1 ∙ append_assoc t.failed (none_failed c) (none_failed d) ∙ ap (λ f. t.failed ++ f) (sym (failed_both c d)),
)

-- Calls that are all done, a sync at their end, are synced.
pub done_synced : (calls front : List Call) (before after : Option TreeState) → calls ≡ front ++ Sync ∷ [] → after ≡ option_map (all_done calls) before → IfObserved before after (PassedCalls AreSynced)
done_synced calls front None after ends is = tt
done_synced calls front (Some t) after ends is =
    let grows = done_grows calls t in
    subst (λ o. IfObserved (Some t) o (PassedCalls AreSynced)) (sym is)
    (record { calls = calls; listed = grows.0; passed = grows.1; are = synced front [] ends tt })

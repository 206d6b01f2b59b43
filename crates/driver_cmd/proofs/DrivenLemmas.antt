-- What a call of the driver has done, at each of its ends.
use Rattle.std.proofs.Common.{◌≡◌, ℕ, List, [], ◌++◌, Option, Some, None, option_map, refl, sym, ap, subst, ◌∙◌, inl, inr}
use Rattle.std.specs.Prelude.{◌≢◌, ◌⊎◌, ◌↔◌, Result, Ok, Err, IsOk}
use Rattle.std.specs.FinMap.{empty}
use Rattle.std.proofs.lemmas.Bool.{false≢true}
use Rattle.drv_outside.specs.Faults.{CountRose}
use Rattle.drv_outside.specs.IfObserved.{IfObserved}
use Rattle.drv_outside.specs.Reads.{OnlyReads, reads_nothing}
use Rattle.drv_outside.specs.Sink.{PutsSome}
use Rattle.drv_outside.specs.TreeState.{TreeState}
use Rattle.drv_outside.specs.declared.status.Status.{Status}
use Rattle.drv_outside.specs.declared.status.Status.TheVariants.{Done, Errors, Usage, TreeFault, NoMemory, SinkFault}
use Rattle.project_sources.specs.Calls.{PassedCalls, AreSynced}
use Rattle.driver_cmd.specs.Clean.{ForCleanBuild, IsLeftBy, LeavesCleanBuild}
use Rattle.driver_cmd.specs.Command.{request_of}
use Rattle.driver_cmd.specs.Driven.{IfAsked, outside, PutsAll, Driven}
use Rattle.driver_cmd.specs.Trusted.{StaysTrusted}
use Rattle.driver_cmd.specs.Printed.{Printed, unneeded, whole, cut}

-- accepted words blame no place
not_blamed : (words : List (List ℕ)) (at : ℕ) → IsOk (request_of words) → request_of words ≡ Err at → ⊥
not_blamed words at accepted is = false≢true (subst (λ r. IsOk r) is accepted)

accepted_usage : (words : List (List ℕ)) (status : Status) → IsOk (request_of words) → ((at : ℕ) → status ≡ Usage at → ⊥) → (at : ℕ) → (status ≡ Usage at) ↔ (request_of words ≡ Err at)
accepted_usage words status accepted other at = ((λ e. absurd (other at e)), (λ e. absurd (not_blamed words at accepted e)))

-- The tree before and after a build that left the clean build's folder.
abbrev pub Leaves : List ℕ → List ℕ → Option TreeState → Option TreeState → Type 0
Leaves lines name before after = IfObserved before after (LeavesCleanBuild name lines before after)

left_done : (lines name : List ℕ) (before after : Option TreeState) → lines ≡ [] → Leaves lines name before after
    → IfObserved before after (λ t u. ForCleanBuild name t.sources (λ clean. IsLeftBy clean t u × (clean.lines ≡ [])))
left_done lines name None after none so = tt
left_done lines name (Some t) None none so = so
left_done lines name (Some t) (Some u) none l = record { clean = l.clean; is = l.is; so = (l.folder, l.has_lines ∙ none) }

left_errors : (lines name : List ℕ) (before after : Option TreeState) → lines ≢ [] → Leaves lines name before after
    → IfObserved before after (λ t u. ForCleanBuild name t.sources (λ clean. IsLeftBy clean t u × (clean.lines ≢ [])))
left_errors lines name None after some so = tt
left_errors lines name (Some t) None some so = so
left_errors lines name (Some t) (Some u) some l = record { clean = l.clean; is = l.is; so = (l.folder, λ none. some (sym l.has_lines ∙ none)) }

left_untouched : (lines name : List ℕ) (before after : Option TreeState) → Leaves lines name before after
    → IfObserved before after (λ t u. ForCleanBuild name t.sources (λ clean. clean.folder ≡ None → OnlyReads before after))
left_untouched lines name None after so = tt
left_untouched lines name (Some t) None so = so
left_untouched lines name (Some t) (Some u) l = record { clean = l.clean; is = l.is; so = l.untouched }

left_settled : (lines name : List ℕ) (before after : Option TreeState) → Leaves lines name before after
    → IfObserved before after (λ t u. ForCleanBuild name t.sources (λ clean. clean.folder ≢ None → u.doubts ≡ empty))
left_settled lines name None after so = tt
left_settled lines name (Some t) None so = so
left_settled lines name (Some t) (Some u) l = record { clean = l.clean; is = l.is; so = l.settled }

left_synced : (lines name : List ℕ) (before after : Option TreeState) → Leaves lines name before after → IfObserved before after (PassedCalls AreSynced)
left_synced lines name None after so = tt
left_synced lines name (Some t) None so = so
left_synced lines name (Some t) (Some u) l = l.synced

put_all : (lines name : List ℕ) (before after : Option TreeState) (had now : Option (List ℕ)) → PutsAll lines had now → Leaves lines name before after
    → IfObserved before after (λ t u. ForCleanBuild name t.sources (λ clean. PutsAll clean.lines had now))
put_all lines name None after had now is so = tt
put_all lines name (Some t) None had now is so = so
put_all lines name (Some t) (Some u) had now is l = record { clean = l.clean; is = l.is; so = is ∙ ap (λ x. option_map (λ h. h ++ x) had) (sym l.has_lines) }

put_some : (lines name : List ℕ) (before after : Option TreeState) (had now : Option (List ℕ)) → PutsSome lines had now → Leaves lines name before after
    → IfObserved before after (λ t u. ForCleanBuild name t.sources (λ clean. PutsSome clean.lines had now))
put_some lines name None after had now is so = tt
put_some lines name (Some t) None had now is so = so
put_some lines name (Some t) (Some u) had now is l = record { clean = l.clean; is = l.is; so = subst (λ x. PutsSome x had now) (sym l.has_lines) is }

-- Where the words ask for a module, what is so of its name is so of the one that is asked for.
pub for_asked : (words : List (List ℕ)) (name : List ℕ) (P : List ℕ → Type 0) → request_of words ≡ Ok name → P name → IfAsked words P
for_asked words name P asked so = λ other also. subst P (let same : ◌≡◌ {A = Result (List ℕ) ℕ} (Ok name) (Ok other) = sym asked ∙ also in ok_is name other same) so
  where
    ok_is : (a b : List ℕ) → ◌≡◌ {A = Result (List ℕ) ℕ} (Ok a) (Ok b) → a ≡ b
    ok_is a b e = cc

pub is_accepted : (words : List (List ℕ)) (name : List ℕ) → request_of words ≡ Ok name → IsOk (request_of words)
is_accepted words name asked = subst (λ r. IsOk r) (sym asked) refl

left_by_request : (request : Result (List ℕ) ℕ) (lines : List ℕ) (before after : Option TreeState) → IsOk request → ((name : List ℕ) → request ≡ Ok name → Leaves lines name before after) → IfObserved before after (PassedCalls AreSynced)
left_by_request (Ok name) lines before after accepted left = left_synced lines name before after (left name refl)
left_by_request (Err at) lines before after accepted left = absurd (false≢true accepted)

left_synced_of : (words : List (List ℕ)) (lines : List ℕ) (before after : Option TreeState) → IsOk (request_of words) → IfAsked words (λ name. Leaves lines name before after) → IfObserved before after (PassedCalls AreSynced)
left_synced_of words lines before after accepted left = left_by_request (request_of words) lines before after accepted left

driven_printed : (words : List (List ℕ)) (lines : List ℕ) (before after : Option TreeState) (tree_before tree_after : ℕ) (had now : Option (List ℕ)) (sink_before sink_after : ℕ) (status : Status)
    → IsOk (request_of words) → IfAsked words (λ name. Leaves lines name before after) → IfAsked words (λ name. StaysTrusted name before after) → tree_after ≡ tree_before → Printed lines had now sink_before sink_after status
    → Driven words (outside before tree_before had sink_before) (outside after tree_after now sink_after) status
driven_printed words lines before after f g had now p q status accepted left trusted kept (unneeded is none same quiet) =
    subst (λ s. Driven words (outside before f had p) (outside after g now q) s) (sym is)
    (record {
      done = λ _ name asked. left_done lines name before after none (left name asked);
      errors = λ e. cc;
      sink_fault_folder = λ e. cc;
      errors_put = λ e. cc;
      sink_fault_put = λ e. cc;
      nothing_put = λ _. same;
      synced = λ _. left_synced_of words lines before after accepted left;
      settled = λ _ name asked. left_settled lines name before after (left name asked);
      untouched = λ _ name asked. left_untouched lines name before after (left name asked);
      nothing_written = λ early. absurd early;
      trusted = trusted;
      no_tree_fault = λ _. kept;
      no_sink_fault = λ _. quiet;
      usage = accepted_usage words Done accepted (λ at e. cc);
      tree_fault = λ e. cc;
      sink_fault = λ e. cc;
      bad_map = λ fault e. cc;
      completes = λ _ _ _. inl refl;
    })
driven_printed words lines before after f g had now p q status accepted left trusted kept (whole is some put quiet) =
    subst (λ s. Driven words (outside before f had p) (outside after g now q) s) (sym is)
    (record {
      done = λ e. cc;
      errors = λ _ name asked. left_errors lines name before after some (left name asked);
      sink_fault_folder = λ e. cc;
      errors_put = λ _ name asked. put_all lines name before after had now put (left name asked);
      sink_fault_put = λ e. cc;
      nothing_put = λ none. absurd none;
      synced = λ _. left_synced_of words lines before after accepted left;
      settled = λ _ name asked. left_settled lines name before after (left name asked);
      untouched = λ _ name asked. left_untouched lines name before after (left name asked);
      nothing_written = λ early. absurd early;
      trusted = trusted;
      no_tree_fault = λ _. kept;
      no_sink_fault = λ _. quiet;
      usage = accepted_usage words Errors accepted (λ at e. cc);
      tree_fault = λ e. cc;
      sink_fault = λ e. cc;
      bad_map = λ fault e. cc;
      completes = λ _ _ _. inr (inl refl);
    })
driven_printed words lines before after f g had now p q status accepted left trusted kept (cut is filled put rose) =
    subst (λ s. Driven words (outside before f had p) (outside after g now q) s) (sym is)
    (record {
      done = λ e. cc;
      errors = λ e. cc;
      sink_fault_folder = λ _ name asked. left_errors lines name before after filled (left name asked);
      errors_put = λ e. cc;
      sink_fault_put = λ _ name asked. put_some lines name before after had now put (left name asked);
      nothing_put = λ none. absurd none;
      synced = λ _. left_synced_of words lines before after accepted left;
      settled = λ _ name asked. left_settled lines name before after (left name asked);
      untouched = λ _ name asked. left_untouched lines name before after (left name asked);
      nothing_written = λ early. absurd early;
      trusted = trusted;
      no_tree_fault = λ _. kept;
      no_sink_fault = λ other. absurd (other refl);
      usage = accepted_usage words SinkFault accepted (λ at e. cc);
      tree_fault = λ e. cc;
      sink_fault = λ _. rose;
      bad_map = λ fault e. cc;
      completes = λ _ _ none. absurd (none rose);
    })

-- The folder is left, and the lines were printed.
pub driven_built : (words : List (List ℕ)) (lines put : List ℕ) (before after : Option TreeState) (tree_before tree_after : ℕ) (had now : Option (List ℕ)) (sink_before sink_after : ℕ) (status : Status)
    → IsOk (request_of words) → IfAsked words (λ name. Leaves lines name before after) → IfAsked words (λ name. StaysTrusted name before after) → tree_after ≡ tree_before → put ≡ lines → Printed put had now sink_before sink_after status
    → Driven words (outside before tree_before had sink_before) (outside after tree_after now sink_after) status
driven_built words lines put before after f g had now p q status accepted left trusted kept same printed =
    driven_printed words lines before after f g had now p q status accepted left trusted kept (subst (λ x. Printed x had now p q status) same printed)

-- The tree failed, or there was no memory.
pub driven_ended : (words : List (List ℕ)) (before after : Option TreeState) (tree_before tree_after : ℕ) (had : Option (List ℕ)) (sink : ℕ) (status : Status)
    → IsOk (request_of words) → IfAsked words (λ name. StaysTrusted name before after) → (status ≡ TreeFault → CountRose tree_before tree_after) → (status ≡ NoMemory → OnlyReads before after) → (status ≡ NoMemory → tree_after ≡ tree_before) → (status ≡ TreeFault) ⊎ (status ≡ NoMemory)
    → Driven words (outside before tree_before had sink) (outside after tree_after had sink) status
driven_ended words before after f g had p status accepted trusted rose early kept (inl is) =
    subst (λ s. Driven words (outside before f had p) (outside after g had p) s) (sym is)
    (record {
      done = λ e. cc;
      errors = λ e. cc;
      sink_fault_folder = λ e. cc;
      errors_put = λ e. cc;
      sink_fault_put = λ e. cc;
      nothing_put = λ _. refl;
      synced = λ built. absurd built;
      settled = λ built. absurd built;
      untouched = λ built. absurd built;
      nothing_written = λ early. absurd early;
      trusted = trusted;
      no_tree_fault = λ other. absurd (other refl);
      no_sink_fault = λ _. refl;
      usage = accepted_usage words TreeFault accepted (λ at e. cc);
      tree_fault = λ _. rose is;
      sink_fault = λ e. cc;
      bad_map = λ fault e. cc;
      completes = λ _ none _. absurd (none (rose is));
    })
driven_ended words before after f g had p status accepted trusted rose early kept (inr is) =
    subst (λ s. Driven words (outside before f had p) (outside after g had p) s) (sym is)
    (record {
      done = λ e. cc;
      errors = λ e. cc;
      sink_fault_folder = λ e. cc;
      errors_put = λ e. cc;
      sink_fault_put = λ e. cc;
      nothing_put = λ _. refl;
      synced = λ built. absurd built;
      settled = λ built. absurd built;
      untouched = λ built. absurd built;
      nothing_written = λ _. early is;
      trusted = trusted;
      no_tree_fault = λ _. kept is;
      no_sink_fault = λ _. refl;
      usage = accepted_usage words NoMemory accepted (λ at e. cc);
      tree_fault = λ e. cc;
      sink_fault = λ e. cc;
      bad_map = λ fault e. cc;
      completes = λ _ _ _. inr (inr refl);
    })

blames : (words : List (List ℕ)) (at : ℕ) → request_of words ≡ Err at → (a : ℕ) → (Usage at ≡ Usage a) ↔ (request_of words ≡ Err a)
blames words at is a = (
  (λ e. let same : at ≡ a = cc in is ∙ ap Err same),
  (λ e. let both : Err at ≡ Err a = sym is ∙ e in let same : at ≡ a = cc in ap Usage same),
)

never_asked : (words : List (List ℕ)) (name : List ℕ) (at : ℕ) → request_of words ≡ Err at → request_of words ≡ Ok name → ⊥
never_asked words name at is asked = let both : ◌≡◌ {A = Result (List ℕ) ℕ} (Err at) (Ok name) = sym is ∙ asked in cc

-- The words are no accepted command: no call was made.
pub driven_refused : (words : List (List ℕ)) (at : ℕ) (before : Option TreeState) (tree : ℕ) (had : Option (List ℕ)) (sink : ℕ) → request_of words ≡ Err at
    → Driven words (outside before tree had sink) (outside before tree had sink) (Usage at)
driven_refused words at before f had p is = record {
  done = λ e. cc;
  errors = λ e. cc;
  sink_fault_folder = λ e. cc;
  errors_put = λ e. cc;
  sink_fault_put = λ e. cc;
  nothing_put = λ _. refl;
  synced = λ built. absurd built;
  settled = λ built. absurd built;
  untouched = λ built. absurd built;
  nothing_written = λ _. reads_nothing before;
  trusted = λ name asked. absurd (never_asked words name at is asked);
  no_tree_fault = λ _. refl;
  no_sink_fault = λ _. refl;
  usage = blames words at is;
  tree_fault = λ e. cc;
  sink_fault = λ e. cc;
  bad_map = λ fault e. cc;
  completes = λ accepted _ _. absurd (not_blamed words at accepted is);
}

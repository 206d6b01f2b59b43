-- Runs of calls that read alone.
use Rattle.std.specs.Prelude.{◌≡◌, Bool, true, false, List, [], ◌∷◌, ◌++◌, map, Option, Some, None, option_map}
use Rattle.std.proofs.Common.{refl, inl, inr, ap, subst, ◌∙◌, sym, append_assoc, append-nil}
use Rattle.std.proofs.lemmas.List.{map-append}
use Rattle.drv_outside.specs.TreeState.{TreeState, disk_of, listed, ReadEnds}
use Rattle.drv_outside.specs.declared.types.Call.{Call}
use Rattle.drv_outside.specs.declared.types.TreeEnd.{TreeEnd}
use Rattle.drv_outside.specs.declared.types.TreeEnd.TheVariants.{Failed, NoMemory}
use Rattle.drv_outside.specs.declared.types.Call.TheVariants.{Write, Remove, Sync}

abbrev pub IsRead : Call → Type 0
IsRead (Write name bytes) = ⊥
IsRead (Remove name) = ⊥
IsRead Sync = ⊥
IsRead _ = Unit {0}

abbrev pub AreReads : List Call → Type 0
AreReads [] = Unit {0}
AreReads (call ∷ calls) = IsRead call × AreReads calls

-- once these calls are listed
abbrev pub all_listed : List Call → List Bool → TreeState → TreeState
all_listed calls failed t = record t { earlier = t.earlier ++ map (λ call. disk_of t) calls; calls = t.calls ++ calls; failed = t.failed ++ failed }

-- calls were made that read, and nothing else
pub record OnlyReads (before after : Option TreeState) : Type 0 where
  pub calls : List Call
  pub failed : List Bool
  pub reads : AreReads calls
  pub is : after ≡ option_map (all_listed calls failed) before

AreReads-append : (c d : List Call) → AreReads c → AreReads d → AreReads (c ++ d)
AreReads-append [] d r s = s
AreReads-append (call ∷ c) d r s = (r.0, AreReads-append c d r.1 s)

all_listed-nil : (o : Option TreeState) → option_map (all_listed [] []) o ≡ o
all_listed-nil None = refl
all_listed-nil (Some t) = simp append-nil

all_listed_twice : (c d : List Call) (f g : List Bool) (o : Option TreeState) → option_map (all_listed d g) (option_map (all_listed c f) o) ≡ option_map (all_listed (c ++ d) (f ++ g)) o
all_listed_twice c d f g None = refl
all_listed_twice c d f g (Some t) = simp (append_assoc, map-append)

pub reads_nothing : (observed : Option TreeState) → OnlyReads observed observed
reads_nothing observed = record { calls = []; failed = []; reads = tt; is = sym (all_listed-nil observed) }

pub reads_then : (before between after : Option TreeState) → OnlyReads before between → OnlyReads between after → OnlyReads before after
reads_then before between after one two = record {
  calls = one.calls ++ two.calls;
  failed = one.failed ++ two.failed;
  reads = AreReads-append one.calls two.calls one.reads two.reads;
  is = two.is ∙ ap (option_map (all_listed two.calls two.failed)) one.is ∙ all_listed_twice one.calls two.calls one.failed two.failed before;
}

-- a call that reads
pub reads_one : (call : Call) (b : Bool) (before after : Option TreeState) → IsRead call → after ≡ option_map (listed call b) before → OnlyReads before after
reads_one call b before after reads is = record { calls = call ∷ []; failed = b ∷ []; reads = (reads, tt); is = is }

-- a call that reads and gave no answer
pub reads_failed : (call : Call) (end : TreeEnd) (before after : Option TreeState) → IsRead call → ReadEnds call end before after → OnlyReads before after
reads_failed call Failed before after reads is = reads_one call true before after reads is
reads_failed call NoMemory before after reads (inl is) = subst (OnlyReads before) (sym is) (reads_nothing before)
reads_failed call NoMemory before after reads (inr is) = reads_one call false before after reads is

-- Which calls of a tree in memory are to fail.
use Rattle.std.specs.Prelude.{ℕ, List, [], Some, None}
use Rattle.drv_outside.specs.TreeState.{Settings}
use Rattle.tree_mem.specs.declared.failures.MemFailures.{MemFailures}

abbrev pub settings_of : MemFailures → Settings
settings_of f = record { fail_calls = f.numbers.items; fail_calls_since = f.numbers_since; stop_after = f.stop_after; stop_after_since = f.stop_after_since }

-- no call is to fail
abbrev pub no_failures : Settings
no_failures = record { fail_calls = []; fail_calls_since = 0; stop_after = None; stop_after_since = 0 }

-- the calls with these numbers, counted from a place in the list of calls, are to fail
abbrev pub failing : List ℕ → ℕ → Settings → Settings
failing numbers since s = record { fail_calls = numbers; fail_calls_since = since; stop_after = s.stop_after; stop_after_since = s.stop_after_since }

-- every call is to fail once so many have passed, counted from a place in the list of calls
abbrev pub stopping_after : ℕ → ℕ → Settings → Settings
stopping_after calls since s = record { fail_calls = s.fail_calls; fail_calls_since = s.fail_calls_since; stop_after = Some calls; stop_after_since = since }

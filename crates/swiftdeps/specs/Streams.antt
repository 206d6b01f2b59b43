-- What a bitstream holds, or its first fault.
use Rattle.std.specs.Prelude.{ℕ, ◌*◌, Bool, List, length, take, drop, nat_eq, nat_lt, if◌then◌else◌, Option, Some, None, Result, Err}
use Rattle.std.specs.Cmp.Lexicographic.{pointwise}
use Rattle.bitstream.specs.Items.{items_in}
use Rattle.dep_key.specs.declared.graph.FileGraph.{FileGraph}
use Rattle.swiftdeps.specs.declared.codes.TheConstants.{SIGNATURE, SIGNATURE_BYTES}
use Rattle.swiftdeps.specs.declared.fault.DepsFault.{DepsFault}
use Rattle.swiftdeps.specs.declared.fault.DepsFault.TheVariants.{Signature}
use Rattle.swiftdeps.specs.Judging.{nothing_read, items_judged}

-- The version and the files of a bitstream, or the first fault of its items; its end is at the number of its bits.
unfoldable pub stream_judged : Bool → List ℕ → Result (ℕ × List FileGraph) DepsFault
stream_judged is_single bytes = items_judged is_single (8 * length bytes) (items_in bytes).0 (items_in bytes).1 nothing_read

-- What stands behind the signature, where that is there.
abbrev pub stream_of : List ℕ → Option (List ℕ)
stream_of bytes = if nat_lt (length bytes) SIGNATURE_BYTES then None else if pointwise nat_eq (take SIGNATURE_BYTES bytes) SIGNATURE then Some (drop SIGNATURE_BYTES bytes) else None

abbrev pub signed_judged : Bool → Option (List ℕ) → Result (ℕ × List FileGraph) DepsFault
signed_judged is_single (Some stream) = stream_judged is_single stream
signed_judged is_single None = Err Signature

-- The version and the files of bytes, or their first fault.
unfoldable pub bytes_judged : Bool → List ℕ → Result (ℕ × List FileGraph) DepsFault
bytes_judged is_single bytes = signed_judged is_single (stream_of bytes)

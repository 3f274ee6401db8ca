use Rattle.std.proofs.Common.{◌≡◌, ◌++◌, take}
use Rattle.std.specs.List.{flat_map}
use Rattle.nv_script.specs.Json.{quoted_byte}
use Rattle.nv_trace.proofs.json.push_quoted_bytes.Given as goal

abbrev pub invariant-loop-byte : goal.invariant-loop-byte
invariant-loop-byte l = l.out.items ≡ l.initial.out.items ++ flat_map quoted_byte (take l.byte-index l.bytes)

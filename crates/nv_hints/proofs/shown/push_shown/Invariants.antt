use Rattle.std.proofs.Common.{◌≡◌, ◌++◌, drop, string_bytes}
use Rattle.nv_hints.specs.Shown.{shown}
use Rattle.nv_hints.proofs.shown.push_shown.Given as goal

abbrev pub invariant-loop-byte : goal.invariant-loop-byte
invariant-loop-byte l = string_bytes l.out ++ shown (drop l.byte-index l.bytes) ≡ string_bytes l.fn.out ++ shown l.bytes

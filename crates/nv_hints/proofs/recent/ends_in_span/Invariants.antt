use Rattle.std.proofs.Common.{◌≡◌, take}
use Rattle.nv_hints.specs.Recent.{ends_in}
use Rattle.nv_hints.proofs.recent.ends_in_span.Given as goal

abbrev pub invariant-loop-byte : goal.invariant-loop-byte
invariant-loop-byte l = l.count ≡ ends_in (take l.byte-index l.span)

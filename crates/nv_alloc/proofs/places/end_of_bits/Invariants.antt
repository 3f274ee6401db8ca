use Rattle.std.proofs.Common.{◌≡◌, ℕ, ◌+◌, ◌*◌, ◌<◌, ◌≤◌}
use Rattle.nv_alloc.specs.Places.{bit, bit_of}
use Rattle.nv_alloc.proofs.places.end_of_bits.Given as goal

-- the words before are passed, and the place to begin at is not behind this one
abbrev pub invariant-loop-at : goal.invariant-loop-at
invariant-loop-at l = (l.from < l.at * 64 + 64) × ((k : ℕ) → l.from ≤ k → k < l.at * 64 → bit_of l.words k ≡ bit l.full)

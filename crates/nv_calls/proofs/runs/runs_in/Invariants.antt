use Rattle.std.proofs.Common.{◌≡◌, map}
use Rattle.nv_entry.specs.Sound.{blocks_of}
use Rattle.nv_calls.specs.Plan.{AreMaximal}
use Rattle.nv_calls.proofs.runs.runs_in.Given as goal

abbrev pub invariant-loop-block : goal.invariant-loop-block
invariant-loop-block l = (blocks_of l.runs ≡ map (λ b. b.now.number) l.yielded) × AreMaximal l.runs

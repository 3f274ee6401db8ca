use Rattle.std.proofs.Common.{◌≡◌, take}
use Rattle.nv_entry.specs.Sound.{blocks_of}
use Rattle.nv_calls.specs.Plan.{AreMaximal}
use Rattle.nv_calls.proofs.runs.runs_of.Given as goal

abbrev pub invariant-loop-block : goal.invariant-loop-block
invariant-loop-block l = (blocks_of l.runs ≡ take l.block-index l.blocks) × AreMaximal l.runs

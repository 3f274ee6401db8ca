use Rattle.std.proofs.Common.{◌≡◌, arith}
use Rattle.std.proofs.lemmas.Grind.{common_steps}
use Rattle.nv_entry.specs.Sound.{blocks_of}
use Rattle.nv_calls.proofs.Stretches.{maximal_are}
use Rattle.nv_calls.proofs.runs.runs_of.Goals as goal

pub returns-clause-runs : goal.returns-clause-runs
returns-clause-runs c =
    let is : blocks_of c.loop-block.runs ≡ c.args.blocks.now = grind (arith, common_steps) in
    maximal_are c.loop-block.runs c.args.blocks.now c.loop-block.invariant.1 is

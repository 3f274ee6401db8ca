use Rattle.std.proofs.Common.{◌+◌}
use Rattle.nv_steps.proofs.GiveTurns.{gives}
use Rattle.nv_steps.proofs.lists.give.Goals as goal

pub returns-clause-turn : goal.returns-clause-turn
returns-clause-turn c numbers actor cpu r same next given =
    let after = c.give_blocks.new.self in
    let blocks = c.give_blocks.ensures in
    gives numbers actor cpu r c.args.list.now c.give_blocks.new.list c.args.hand.now after c.left_in_hand.result next blocks.data blocks.pages
    blocks.chain blocks.ino blocks.given c.left_in_hand.ensures.number
    (λ s is. c.left_in_hand.ensures.home numbers (cpu + 1) s same is given)

use Rattle.nv_machine.proofs.EveryWorld.{all_numbers}
use Rattle.nv_machine.proofs.HandNumbers.{hand_or_list, hands_below}
use Rattle.nv_machine.proofs.hand_laws.hands_have_blocks_of_the_device.Goals as goal
use Rattle.nv_machine.specs.Step.{after}

pub returns-clause-below : goal.returns-clause-below
returns-clause-below c = λ g start records events actor is_start.
    hands_below g (after start events) actor is_start.limits.some_cpus (all_numbers g start records events is_start)

pub returns-clause-once : goal.returns-clause-once
returns-clause-once c =
    λ g start records events actor cpu n is_start. hand_or_list g (after start events) actor cpu n
    (all_numbers g start records events is_start)

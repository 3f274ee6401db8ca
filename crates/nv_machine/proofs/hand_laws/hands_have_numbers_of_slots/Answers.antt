use Rattle.nv_machine.proofs.EveryWorld.{all_numbers, all_pooled, reached}
use Rattle.nv_machine.proofs.HandNumbers.{hands_number}
use Rattle.nv_machine.proofs.hand_laws.hands_have_numbers_of_slots.Goals as goal
use Rattle.nv_machine.specs.Step.{after}

pub returns : goal.returns
returns c = λ g start records events actor ino is_start is.
    let w = after start events in
    let r = reached g start records events is_start in
    hands_number g w r.locks (all_numbers g start records events is_start) r.grown (all_pooled g start records events is_start) actor ino is

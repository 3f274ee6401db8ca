use Rattle.nv_machine.proofs.EveryWorld.{all_known, all_numbers, all_pooled, reached}
use Rattle.nv_machine.proofs.SlotsBeforeCheck.{held_tails, own_handles, own_number, some_slots, taken_none}
use Rattle.nv_machine.proofs.hand_laws.checks_find_their_slots.Goals as goal
use Rattle.nv_machine.specs.Step.{after}

pub returns-clause-none : goal.returns-clause-none
returns-clause-none c = λ g start records events actor r is_start is next.
    taken_none g (after start events) actor r is next (all_numbers g start records events is_start)

pub returns-clause-number : goal.returns-clause-number
returns-clause-number c = λ g start records events actor ino r is_start is next has_it.
    own_number g (after start events) actor r is next (all_known g start records is_start events)
    (all_pooled g start records events is_start) ino has_it

pub returns-clause-handles : goal.returns-clause-handles
returns-clause-handles c = λ g start records events actor r is_start is next.
    own_handles g (after start events) actor r is next (all_pooled g start records events is_start)

pub returns-clause-tails : goal.returns-clause-tails
returns-clause-tails c = λ g start records events actor ino r is_start is out held.
    held_tails (after start events) actor r (reached g start records events is_start) is out ino held

pub returns-clause-some : goal.returns-clause-some
returns-clause-some c = λ g start records events actor block r is_start is next e.
    some_slots g (after start events) actor r is next (all_pooled g start records events is_start) block e

use Rattle.nv_calls.specs.declared.progress.CommitStep.TheVariants as step
use Rattle.nv_core.proofs.CommitTurns.{commits}
use Rattle.nv_core.proofs.Stepped.{at_step}
use Rattle.nv_core.proofs.step.commit_step.Goals as goal

pub append-requires : goal.append-requires
append-requires c = record { at = at_step step.Append _ _ _ _ c.in-Append.ensures c.requires.can c.requires.rooms }

pub returns-in-Append : goal.returns-in-Append
returns-in-Append c =
    let done =
    commits step.Append _ _ _ _ _ _ c.in-Append.ensures c.requires.can c.requires.rooms c.append.ensures.step
    (λ told is place plan. (c.append.ensures.turn told is place, c.append.ensures.place told is place plan)) in
    record { turn = done.turns; rooms = done.rooms; rest = done.rest }

pub open-requires-clause-at : goal.open-requires-clause-at
open-requires-clause-at c = at_step step.Open _ _ _ _ c.in-Open.ensures c.requires.can c.requires.rooms

pub returns-in-Open : goal.returns-in-Open
returns-in-Open c =
    let turn = rw c.cpu_of-cpu.ensures.value at c.open.ensures.turn in
    let done =
    commits step.Open _ _ _ _ _ _ c.in-Open.ensures c.requires.can c.requires.rooms c.open.ensures.step
    (λ told is place plan. (turn told is, c.open.ensures.placed told)) in
    record { turn = done.turns; rooms = done.rooms; rest = done.rest }

pub publish-requires : goal.publish-requires
publish-requires c = record { at = at_step step.Publish _ _ _ _ c.in-Publish.ensures c.requires.can c.requires.rooms }

pub returns-in-Publish : goal.returns-in-Publish
returns-in-Publish c =
    let done =
    commits step.Publish _ _ _ _ _ _ c.in-Publish.ensures c.requires.can c.requires.rooms c.publish.ensures.step
    (λ told is place plan. (c.publish.ensures.turn told is, c.publish.ensures.placed told)) in
    record { turn = done.turns; rooms = done.rooms; rest = done.rest }

pub close-requires-clause-at : goal.close-requires-clause-at
close-requires-clause-at c = at_step step.Close _ _ _ _ c.in-Close.ensures c.requires.can c.requires.rooms

pub returns-in-Close : goal.returns-in-Close
returns-in-Close c =
    let turn = rw c.cpu_of-cpu.ensures.value at c.close.ensures.turn in
    let done =
    commits step.Close _ _ _ _ _ _ c.in-Close.ensures c.requires.can c.requires.rooms c.close.ensures.step
    (λ told is place plan. (turn told is, c.close.ensures.placed told)) in
    record { turn = done.turns; rooms = done.rooms; rest = done.rest }

pub retire-requires : goal.retire-requires
retire-requires c = record { at = at_step step.Retire _ _ _ _ c.in-Retire.ensures c.requires.can c.requires.rooms }

pub returns-in-Retire : goal.returns-in-Retire
returns-in-Retire c =
    let done =
    commits step.Retire _ _ _ _ _ _ c.in-Retire.ensures c.requires.can c.requires.rooms c.retire.ensures.step
    (λ told is place plan. (c.retire.ensures.turn told is, c.retire.ensures.placed told)) in
    record { turn = done.turns; rooms = done.rooms; rest = done.rest }

use Rattle.std.proofs.Common.{arith, inl, refl}
use Rattle.nv_sessions.proofs.Nothing.{answers_nothing}
use Rattle.nv_sessions.proofs.Refusals.{check_refuses, of_round, overtaken_looks, round_reads}
use Rattle.nv_sessions.proofs.Turns.{check_keeps}
use Rattle.nv_sessions.proofs.change.change_over.Goals as goal

pub returns-in-Err-Answers-clause-overtaken : goal.returns-in-Err-Answers-clause-overtaken
returns-in-Err-Answers-clause-overtaken g c =
    let ends = rw c.in-Err-Answers.field-0-is at c.in-Err-Answers.ensures.err in
    answers_nothing c.args.service.now.geometry.numbers.block (g.L.Cells.cells c.args.lent.now)
    c.args.change.looked.now c.args.change.update c.args.change.hand ends

pub returns-in-Err-BoundAnew-clause-overtaken : goal.returns-in-Err-BoundAnew-clause-overtaken
returns-in-Err-BoundAnew-clause-overtaken g c =
    let ends = rw c.in-Err-BoundAnew.field-0-is at c.in-Err-BoundAnew.ensures.err in (
      refl,
      overtaken_looks c.args.service.now.geometry.numbers.block (g.L.Cells.cells c.args.lent.now)
          c.args.change.looked.now c.args.change.update c.args.change.hand c.args.change.looks ends,
    )

pub returns-in-Err-Refuses-clause-overtaken : goal.returns-in-Err-Refuses-clause-overtaken
returns-in-Err-Refuses-clause-overtaken g c =
    let ends = rw c.in-Err-Refuses.field-0-is at c.in-Err-Refuses.ensures.err in
    inl (of_round c.args.change.update c.in-Err-Refuses.fault
    (check_refuses c.args.service.now.geometry.numbers.block (g.L.Cells.cells c.args.lent.now)
    c.args.change.looked.now c.args.change.update c.args.change.hand c.in-Err-Refuses.fault ends))

pub returns-in-Err-Refuses-clause-reads : goal.returns-in-Err-Refuses-clause-reads
returns-in-Err-Refuses-clause-reads g c =
    let ends = rw c.in-Err-Refuses.field-0-is at c.in-Err-Refuses.ensures.err in
    let none = round_reads c.args.change.update c.in-Err-Refuses.fault
    (of_round c.args.change.update c.in-Err-Refuses.fault
    (check_refuses c.args.service.now.geometry.numbers.block (g.L.Cells.cells c.args.lent.now)
    c.args.change.looked.now c.args.change.update c.args.change.hand c.in-Err-Refuses.fault ends)) in
    omega (arith, none)

pub returns-in-Err-Refuses-clause-short : goal.returns-in-Err-Refuses-clause-short
returns-in-Err-Refuses-clause-short g c =
    let ends = rw c.in-Err-Refuses.field-0-is at c.in-Err-Refuses.ensures.err in
    check_keeps c.args.change.update c.in-Err-Refuses.fault
    (check_refuses c.args.service.now.geometry.numbers.block (g.L.Cells.cells c.args.lent.now)
    c.args.change.looked.now c.args.change.update c.args.change.hand c.in-Err-Refuses.fault ends) c.args.seat.now.asking.turn

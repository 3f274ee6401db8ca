use Rattle.std.proofs.Common.{ℕ, List, ap, drop, refl, slice_index, subst}
use Rattle.std.specs.Prelude.{Result}
use Rattle.nv_base.specs.Refusals.{FailsEither}
use Rattle.nv_base.specs.declared.fault.Fault.{Fault}
use Rattle.nv_base.specs.declared.fault.Fault.TheVariants as fault
use Rattle.nv_base.specs.declared.fault.MismatchPart.TheVariants as part
use Rattle.nv_cell.specs.Cell.{CellValue}
use Rattle.nv_sessions.specs.Taken.{pairs}
use Rattle.nv_sessions.proofs.Refusals.{held_out}
use Rattle.nv_sessions.proofs.TakenCells.{done_over, same_raised}
use Rattle.nv_sessions.proofs.guards.change_taken.Goals as goal

pub returns-in-Ok-clause-versions : goal.returns-in-Ok-clause-versions
returns-in-Ok-clause-versions g c = ap (λ (f : List ℕ × List CellValue). drop 1 f.0) c.change_over.ensures.frame

pub returns-in-Ok-clause-room : goal.returns-in-Ok-clause-room
returns-in-Ok-clause-room g c = ap (λ (f : List ℕ × List CellValue). slice_index f.0 0) c.change_over.ensures.frame

pub returns-in-Ok-clause-done : goal.returns-in-Ok-clause-done
returns-in-Ok-clause-done g c =
    let over = c.change_over.ensures in
    done_over g.C.Commits.commit c.args.seat.now.commits.amount c.change_over.new.seat.commits.amount (pairs c.args.list.now.cells.items)
    (pairs c.change_over.new.lent.cells.items) c.args.change.update c.change_over.result.1 over.counted over.least over.call over.raised
    over.same over.some over.overtaken

pub returns-in-Err-clause-cells : goal.returns-in-Err-clause-cells
returns-in-Err-clause-cells g c = same_raised (pairs c.args.list.now.cells.items)

pub returns-in-Err-clause-done : goal.returns-in-Err-clause-done
returns-in-Err-clause-done g c =
    let why = subst (λ (r : Result (Unit {0}) Fault). FailsEither fault.Stale (fault.Mismatch part.Lists) r) c.in-Err.is c.requires.err in
    rw c.refused.ensures.end (refl, λ k. refl, held_out _ _ why)

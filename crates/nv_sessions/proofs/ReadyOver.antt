-- What is ready over cells whose guards are held: it can be committed where the tests pass.
use Rattle.std.proofs.Common.{ℕ, List, refl, sym, subst, arith}
use Rattle.nv_book.specs.Book.{BookState, after_enter}
use Rattle.nv_calls.specs.CanCommit.{CanCommit, IsClosed}
use Rattle.nv_calls.specs.Cells.{AreCells}
use Rattle.nv_calls.specs.Prepared.{plans_by}
use Rattle.nv_calls.specs.Ready.{ArePlaced, ReadyValue}
use Rattle.nv_calls.proofs.Composed.{cells_stay, places_stay}
use Rattle.nv_calls.proofs.PlannedAlike.{placed_by}
use Rattle.nv_calls.proofs.PlannedCommits.{can_commit}
use Rattle.nv_cell.specs.Cell.{CellValue}
use Rattle.nv_sessions.specs.Committing.{IsReadyOver, TakeNext}

module _ (cells : List (ℕ × CellValue)) (ready : ReadyValue) (r : IsReadyOver cells ready) where
  pub lent : AreCells cells
  lent = cells_stay r.before cells r.room.count r.room.inos r.can.lent

  pub placed : ArePlaced cells ready.plans
  placed =
      let plans = plans_by r.before r.hand r.update in
      subst (ArePlaced cells) (sym r.is.plans)
      (places_stay r.before cells plans plans r.room.count (record { count = refl; places = λ j. refl })
      (placed_by r.before r.hand r.update r.can))

  pub can : (book : BookState) (seat cpu : ℕ) → TakeNext book cells ready → IsClosed book cpu
      → CanCommit cells (record { state = after_enter seat book; room = ready.need }) cpu ready
  can book seat cpu take closed =
      can_commit r.before cells r.hand r.update (record { state = after_enter seat book; room = ready.need }) cpu ready
      r.can r.room r.is (record {
        entered = (seat, (book, refl));
        take = take;
        records = omega arith;
        cpu_is = closed.inside;
        closed = closed.closed;
      })

-- What all steps of a commit are given, and what they leave.
use Rattle.std.proofs.Common.{◌≡◌, ◌∙◌, ℕ, List, ap, arith, length, map, refl, subst, sym}
use Rattle.std.proofs.lemmas.List.{with_items_is}
use Rattle.std.specs.Vec.{with_items}
use Rattle.nv_book.specs.Book.{BookValue}
use Rattle.nv_calls.specs.Commit.{CommitValue}
use Rattle.nv_calls.specs.Progress.{step_of}
use Rattle.nv_calls.specs.SlotCells.{lent_cells, other_cells}
use Rattle.nv_calls.specs.declared.progress.CommitStep.{CommitStep}
use Rattle.nv_cell.specs.Cell.{CellValue}
use Rattle.nv_machine.specs.World as machine
use Rattle.nv_core.specs.CommitSteps.{IsAtStep}
use Rattle.nv_core.specs.Committing.{IsCommitting}
use Rattle.nv_core.specs.Frames.{LeavesCells}
use Rattle.nv_core.specs.Rooms.{HasRooms, committing_cpu}
use Rattle.nv_core.specs.Shown.{ShownCall, shared_of}
use Rattle.nv_core.specs.Steps.{CanStep}
use Rattle.nv_core.specs.GhostCalls.{IsPlaceOf}
use Rattle.nv_core.specs.declared.reservation.Reservation.TheVariants as reserved
use Rattle.nv_core.specs.declared.running.Running.{Running}
use Rattle.nv_core.specs.declared.shared.Shared.{Shared}

pub at_step : (next : CommitStep) (shared : Shared) (running : Running) (commit : CommitValue) (actor : ℕ) → next ≡ step_of commit
    → CanStep shared (reserved.Commit commit) running actor → HasRooms shared (reserved.Commit commit) running
    → IsAtStep next shared running commit
at_step next shared running commit actor is can rooms =
    record { slots = can.slots; committing = rooms.3; step = sym is; sized = rooms.2 }

-- ---- cells that are written back in the place of those that were lent

pub written_is : (shared : Shared) (new : List CellValue) → length new ≡ length shared.cells.items
    → (with_items shared.cells new).items ≡ new
written_is shared new many = with_items_is shared.cells new (omega (arith, many, shared.cells.ok.0))

pub cells_left : (slots : List ℕ) (shared : Shared) (book : BookValue) (new : List CellValue) → length new ≡ length shared.cells.items
    → other_cells slots new ≡ other_cells slots shared.cells.items
    → LeavesCells slots shared (record shared { cells = with_items shared.cells new; book = book })
cells_left slots shared book new many others =
    let whole = written_is shared new many in
    record {
      geometry = refl;
      lists = refl;
      owners = refl;
      holder = refl;
      count = ap (λ (xs : List CellValue). length xs) whole ∙ many;
      others = ap (other_cells slots) whole ∙ others;
    }

pub moves_written : (shared : Shared) (book : BookValue) (new : List CellValue) (hand : machine.HandState) (r : machine.Running)
    → length new ≡ length shared.cells.items
    → machine.Moves (record (shared_of shared) { cells = map (λ (x : CellValue). x.state) new; book = book.state }) hand r
    ≡ machine.Moves (shared_of (record shared { cells = with_items shared.cells new; book = book })) hand r
moves_written shared book new hand r many =
    ap (λ (xs : List CellValue). machine.Moves (record (shared_of shared) {
      cells = map (λ (x : CellValue). x.state) xs;
      book = book.state;
    }) hand r) (sym (written_is shared new many))

pub committing_written : (slots : List ℕ) (shared : Shared) (book : BookValue) (new : List CellValue) (commit : CommitValue)
    → length new ≡ length shared.cells.items → IsCommitting (committing_cpu shared) (lent_cells slots new) book commit
    → IsCommitting (committing_cpu shared) (lent_cells slots (with_items shared.cells new).items) book commit
committing_written slots shared book new commit many is =
    subst (λ (xs : List CellValue). IsCommitting (committing_cpu shared) (lent_cells slots xs) book commit)
    (sym (written_is shared new many)) is

-- ----

-- once all is appended no entry is to be placed
pub placed_all : (slots : List ℕ) (old new : CommitValue) (told : ShownCall) → old.appended ≡ length old.plans → new.appended ≡ old.appended
    → length new.plans ≡ length old.plans → IsPlaceOf slots new told
placed_all slots old new told full count many = λ lt. absurd (omega (arith, lt, full, count, many))

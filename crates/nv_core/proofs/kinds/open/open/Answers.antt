use Rattle.std.proofs.Common.{◌≡◌, ℕ, ◌∙◌, List, ap, ap₂, arith, length, map, subst, sym}
use Rattle.nv_book.specs.Book.{BookValue}
use Rattle.nv_calls.specs.Commit.{CommitValue}
use Rattle.nv_cell.specs.Cell.{CellValue}
use Rattle.nv_machine.specs.World as machine
use Rattle.nv_core.specs.Committing.{IsCommitting}
use Rattle.nv_core.specs.Rooms.{IsHandOf, committing_cpu}
use Rattle.nv_core.specs.Shown.{hand_in, shared_of, shown_commit, slots_in}
use Rattle.nv_calls.proofs.LentSlots.{lent_length}
use Rattle.nv_core.proofs.Among.{all_still}
use Rattle.nv_core.proofs.Opens.{open_told, opens}
use Rattle.nv_core.proofs.PublishPhase.{open_cells, open_closed, open_cpu, open_full, open_goes, open_placed, open_shut}
use Rattle.nv_core.proofs.Stages.{open_due}
use Rattle.nv_core.proofs.Stepped.{cells_left, committing_written, moves_written, placed_all}
use Rattle.nv_core.proofs.kinds.open.open.Goals as goal

pub open_in-requires : goal.open_in-requires
open_in-requires c =
    let old = c.args.commit.now in
    let going = c.requires.at.committing in
    let due = open_due old c.requires.at.step in
    rw c.deref_mut.ensures.value (rw c.requires.cpu (record {
      slots = c.requires.at.slots;
      turn = open_full _ _ _ old going due;
      first = due.none;
      two = due.two;
      none = open_shut _ _ _ old going due;
      cells = open_cells _ _ _ old going due;
      placed = open_placed _ _ _ old going due;
      cpu = open_cpu _ _ _ old going due;
      closed = open_closed _ _ _ old going due;
    }))

pub returns : goal.returns
returns c =
    let shared = c.args.shared.now in
    let running = c.args.running.now in
    let slots = slots_in running.slots in
    let cells = shared.cells.items in
    let old = c.args.commit.now in
    let at = c.requires.at in
    let due = open_due old at.step in
    let full = open_full _ _ _ old at.committing due in
    let placed = open_placed _ _ _ old at.committing due in
    let new = c.open_in.new.cells in
    let after = c.open_in.new.commit in
    let book = c.open_in.new.book in
    let gives = rw c.deref_mut.ensures.value at c.open_in.ensures in
    let committing = rw c.requires.cpu at gives in
    let still : cells ≡ new = sym (all_still slots cells new gives.count gives.cells gives.others) in
    record {
      turn = λ told is.
          opens shared running old told c.args.cpu is at.slots (λ j lt. omega (arith, placed.within j lt, lent_length slots cells)) full
          due.none due.two
          ∙ sym (ap₂ (λ (b : BookValue) (x : CommitValue). machine.Moves (record (shared_of shared) { book = b.state }) (hand_in x)
          (shown_commit x told running)) gives.book gives.commit)
          ∙ ap (λ (xs : List CellValue). machine.Moves (record (shared_of shared) {
            cells = map (λ (x : CellValue). x.state) xs;
            book = book.state;
          }) (hand_in after) (shown_commit after told running)) still
          ∙ moves_written shared book new (hand_in after) (shown_commit after told running) gives.count;
      step = record {
        told = λ told is. open_told slots old after _ _ told gives.commit is;
        committing =
            committing_written slots shared book new after gives.count
            (subst (λ (xs : List (ℕ × CellValue)). IsCommitting (committing_cpu shared) xs book after) (sym gives.cells)
            (open_goes _ _ _ old at.committing due book after committing.book committing.commit));
        sized =
            subst (λ (x : CommitValue). IsHandOf shared.geometry.numbers x.hand) (sym gives.commit)
            (record { blocks = at.sized.blocks; pages = at.sized.pages });
        rest = cells_left slots shared book new gives.count gives.others;
      };
      placed = λ told.
          placed_all slots old after told full (ap (λ (x : CommitValue). x.appended) gives.commit)
          (ap (λ (x : CommitValue). length x.plans) gives.commit);
    }

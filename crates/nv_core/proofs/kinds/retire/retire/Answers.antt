use Rattle.std.proofs.Common.{◌≡◌, ℕ, ◌<◌, ◌∙◌, List, ap, arith, [], length, refl, subst, sym, length-set}
use Rattle.nv_book.specs.Book.{BookState}
use Rattle.nv_calls.specs.Cells.{OnlyAt, ino_at, state_at, value_at}
use Rattle.nv_calls.specs.Commit.{CommitValue, after_retire, to_retire}
use Rattle.nv_calls.specs.Retired.{CanRetire}
use Rattle.nv_calls.specs.Retiring.{erased, retired, room_erased, with_records}
use Rattle.nv_calls.specs.SlotCells.{cell_in, lent_cells}
use Rattle.nv_cell.specs.Cell.{CellValue}
use Rattle.nv_epoch.specs.SnapList.{ids}
use Rattle.nv_machine.specs.Reads.{slot_at}
use Rattle.nv_core.specs.Shown.{hand_in, shown_commit, slots_in}
use Rattle.nv_calls.proofs.LentSlots.{lent_at, lent_length}
use Rattle.nv_core.proofs.Among.{only_among}
use Rattle.nv_core.proofs.Appends.{lent_value}
use Rattle.nv_core.proofs.RetirePhase.{retire_can, retire_dead, retire_free, retire_full, retire_goes, retire_room, retire_shut, retire_within}
use Rattle.nv_core.proofs.Retires.{all_appended, hand_stays, retire_told, retires}
use Rattle.nv_core.proofs.Stages.{retire_due}
use Rattle.nv_core.proofs.Stepped.{cells_left, committing_written, moves_written, placed_all}
use Rattle.nv_core.proofs.kinds.retire.retire.Goals as goal

pub retire_in-requires : goal.retire_in-requires
retire_in-requires c =
    let slots = slots_in c.args.running.now.slots in
    let cells = c.args.shared.now.cells.items in
    let old = c.args.commit.now in
    let going = c.requires.at.committing in
    let due = retire_due old c.requires.at.step in
    let k = (to_retire old).at in
    let within : k < length slots = omega (arith, retire_within _ _ _ old going due, lent_length slots cells) in
    rw c.deref_mut.ensures.value (record {
      slots = c.requires.at.slots;
      turn = due.2;
      published = retire_full _ _ _ old going due;
      closed = retire_shut _ _ _ old going due;
      within = within;
      dead = retire_dead _ _ _ old going due;
      room = retire_room _ _ _ old going due;
      free = retire_free _ _ _ old going due;
      can =
          subst (λ (v : CellValue). CanRetire (to_retire old).killed old.hand v.state) (lent_value slots cells k within)
          (retire_can _ _ _ old going due);
    })

pub returns : goal.returns
returns c =
    let shared = c.args.shared.now in
    let running = c.args.running.now in
    let slots = slots_in running.slots in
    let cells = shared.cells.items in
    let old = c.args.commit.now in
    let at = c.requires.at in
    let due = retire_due old at.step in
    let full = retire_full _ _ _ old at.committing due in
    let appended = all_appended at.committing.way due.2 full in
    let new = c.retire_in.new.cells in
    let after = c.retire_in.new.commit in
    let book = c.retire_in.new.book in
    let was = c.deref_mut.ensures.value in
    let gives = rw was at c.retire_in.ensures in
    let k = (to_retire old).at in
    let i = slot_at slots k in
    let living = ids shared.book.state.snaps in
    let parts = (to_retire old).killed in
    let within : k < length slots = omega (arith, retire_within _ _ _ old at.committing due, lent_length slots cells) in
    let only : OnlyAt k (lent_cells slots cells) (lent_cells slots new) =
    subst (λ (xs : List CellValue). OnlyAt k (lent_cells slots xs) (lent_cells slots new)) was c.retire_in.ensures.cells in
    let room =
    subst (λ (xs : List CellValue). (value_at (lent_cells slots new) k).room
    ≡ room_erased (retired living (ino_at (lent_cells slots xs) k) old.stamp.epoch parts (state_at (lent_cells slots xs) k))
    (value_at (lent_cells slots xs) k).room) was c.retire_in.ensures.cell_room in
    let here : (i, cell_in cells i) ≡ (ino_at (lent_cells slots cells) k, value_at (lent_cells slots cells) k) =
    sym (lent_at slots cells k within) in
    let there : state_at (lent_cells slots new) k ≡ (cell_in new i).state =
    ap (λ (v : CellValue). v.state) (lent_value slots new k within) in
    record {
      turn = λ told is.
          retires shared running old after book new told i is appended due.2 full due.1 refl (at.slots k within)
          (only_among slots cells new k gives.count within running.slots.rising at.slots only gives.others)
          gives.state gives.book gives.commit
          (subst (λ (v : CellValue). CanRetire parts old.hand v.state) (lent_value slots cells k within)
          (retire_can _ _ _ old at.committing due))
          ∙ moves_written shared book new (hand_in after) (shown_commit after told running) gives.count;
      step = record {
        told = λ told is. retire_told slots old after _ _ _ told appended gives.commit is;
        committing =
            committing_written slots shared book new after gives.count
            (retire_goes _ _ _ old at.committing due (lent_cells slots new) after book only
            (there ∙ gives.state ∙ ap (λ (x : ℕ × CellValue). erased (retired living x.0 old.stamp.epoch parts x.1.state)) here)
            (gives.book
            ∙ ap (λ (x : ℕ × CellValue). let y : BookState = record shared.book.state {
              manifests = with_records living x.0 old.stamp.epoch parts shared.book.state.manifests;
            } in y) here)
            gives.room
            (gives.commit ∙ ap (λ (x : ℕ × CellValue). after_retire living x.0 x.1.state old) here)
            room);
        sized = hand_stays old after _ _ _ shared.geometry.numbers gives.commit at.sized;
        rest = cells_left slots shared book new gives.count gives.others;
      };
      placed = λ told.
          placed_all slots old after told appended (ap (λ (x : CommitValue). x.appended) gives.commit)
          (ap (λ (x : CommitValue). length x.plans) gives.commit
          ∙ length-set old.plans old.retired (record (to_retire old) { killed = [] }));
    }

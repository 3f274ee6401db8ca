use Rattle.std.proofs.Common.{◌≡◌, ◌<◌, ◌≤◌, ◌∙◌, List, ap, arith, length, map, refl, subst, sym, length-set}
use Rattle.nv_calls.specs.CanCommit.{CanBePublished}
use Rattle.nv_calls.specs.Cells.{OnlyAt, state_at, value_at}
use Rattle.nv_calls.specs.Commit.{CommitValue, after_publish, to_publish}
use Rattle.nv_calls.specs.Retiring.{part_in}
use Rattle.nv_calls.specs.SlotCells.{cell_in, lent_cells}
use Rattle.nv_cell.specs.Cell.{CellState, CellValue, KeepsAppendRoom, fresh_of, killed_by, log_of, published}
use Rattle.nv_cell.specs.Effects.{items_of}
use Rattle.nv_cell.specs.Killed.{AreKilled}
use Rattle.nv_cell.specs.Weights.{weights_in}
use Rattle.nv_machine.specs.Reads.{slot_at}
use Rattle.nv_core.specs.Rooms.{IsHandOf}
use Rattle.nv_core.specs.Shown.{hand_in, shown_commit, slots_in}
use Rattle.nv_calls.proofs.LentSlots.{lent_length}
use Rattle.nv_core.proofs.Among.{only_among}
use Rattle.nv_core.proofs.Appends.{lent_value}
use Rattle.nv_core.proofs.PublishPhase.{publish_can, publish_full, publish_goes, publish_noted, publish_open, publish_within}
use Rattle.nv_core.proofs.Publishes.{publish_told, publishes}
use Rattle.nv_core.proofs.Stages.{publish_due}
use Rattle.nv_core.proofs.Stepped.{cells_left, committing_written, moves_written, placed_all}
use Rattle.nv_core.proofs.kinds.publish.publish.Goals as goal

pub publish_in-requires : goal.publish_in-requires
publish_in-requires c =
    let slots = slots_in c.args.running.now.slots in
    let cells = c.args.shared.now.cells.items in
    let old = c.args.commit.now in
    let going = c.requires.at.committing in
    let due = publish_due old c.requires.at.step in
    let k = (to_publish old).at in
    let within : k < length slots = omega (arith, publish_within _ _ _ old going due, lent_length slots cells) in
    rw c.deref_mut.ensures.value (record {
      slots = c.requires.at.slots;
      turn = due.some;
      appended = publish_full _ _ _ old going due;
      journal = publish_noted _ _ _ old going due;
      within = within;
      can = subst CanBePublished (lent_value slots cells k within) (publish_can _ _ _ old going due);
    })

pub returns : goal.returns
returns c =
    let shared = c.args.shared.now in
    let running = c.args.running.now in
    let slots = slots_in running.slots in
    let cells = shared.cells.items in
    let old = c.args.commit.now in
    let at = c.requires.at in
    let due = publish_due old at.step in
    let full = publish_full _ _ _ old at.committing due in
    let new = c.publish_in.new.cells in
    let after = c.publish_in.new.commit in
    let was = c.deref_mut.ensures.value in
    let gives = rw was at c.publish_in.ensures in
    let k = (to_publish old).at in
    let within : k < length slots = omega (arith, publish_within _ _ _ old at.committing due, lent_length slots cells) in
    let state : (cell_in new (slot_at slots k)).state ≡ published (cell_in cells (slot_at slots k)).state = gives.state in
    let commit : after ≡ after_publish (killed_by (cell_in cells (slot_at slots k)).state) old = gives.commit in
    let only : OnlyAt k (lent_cells slots cells) (lent_cells slots new) =
    subst (λ (xs : List CellValue). OnlyAt k (lent_cells slots xs) (lent_cells slots new)) was c.publish_in.ensures.cells in
    let few =
    subst (λ (xs : List CellValue). let cell = state_at (lent_cells slots xs) k in
    length (killed_by cell) ≤ weights_in cell.block (log_of cell) (items_of (fresh_of cell))) was c.publish_in.ensures.few in
    let marked =
    subst (λ (xs : List CellValue). AreKilled (map part_in (killed_by (state_at (lent_cells slots xs) k)))
    (state_at (lent_cells slots new) k)) was c.publish_in.ensures.marked in
    let room =
    subst (λ (xs : List CellValue). KeepsAppendRoom (value_at (lent_cells slots xs) k).room (value_at (lent_cells slots new) k).room) was
    c.publish_in.ensures.room in
    let here : (cell_in cells (slot_at slots k)).state ≡ state_at (lent_cells slots cells) k =
    sym (ap (λ (v : CellValue). v.state) (lent_value slots cells k within)) in
    let there : state_at (lent_cells slots new) k ≡ (cell_in new (slot_at slots k)).state =
    ap (λ (v : CellValue). v.state) (lent_value slots new k within) in
    record {
      turn = λ told is.
          publishes shared running old after new told (slot_at slots k) is at.committing.way due.some full
          (publish_open _ _ _ old at.committing due)
          refl (at.slots k within)
          (only_among slots cells new k gives.count within running.slots.rising at.slots only gives.others)
          state commit
          ∙ moves_written shared shared.book new (hand_in after) (shown_commit after told running) gives.count;
      step = record {
        told = λ told is. publish_told slots old after _ told full commit is;
        committing =
            committing_written slots shared shared.book new after gives.count
            (publish_goes _ _ _ old at.committing due (lent_cells slots new) after only
            (there ∙ state ∙ ap published here)
            (commit ∙ ap (λ (s : CellState). after_publish (killed_by s) old) here) few marked room);
        sized =
            subst (λ (x : CommitValue). IsHandOf shared.geometry.numbers x.hand) (sym commit)
            (record { blocks = at.sized.blocks; pages = at.sized.pages });
        rest = cells_left slots shared shared.book new gives.count gives.others;
      };
      placed = λ told.
          placed_all slots old after told full (ap (λ (x : CommitValue). x.appended) commit)
          (ap (λ (x : CommitValue). length x.plans) commit ∙ length-set old.plans old.published _);
    }

use Rattle.std.proofs.Common.{◌≡◌, ◌<◌, ◌∙◌, List, ap, arith, length, refl, subst, sym}
use Rattle.nv_calls.specs.Cells.{state_at, value_at, with_value}
use Rattle.nv_calls.specs.Commit.{CommitValue, after_append, to_append}
use Rattle.nv_calls.specs.SlotCells.{cell_in, lent_cells}
use Rattle.nv_calls.specs.Steps.{CanAppendPlan, with_plan}
use Rattle.nv_cell.specs.Cell.{CellValue}
use Rattle.nv_machine.specs.Reads.{slot_at}
use Rattle.nv_core.specs.Rooms.{IsHandOf}
use Rattle.nv_core.specs.Shown.{hand_in, shown_commit, slots_in}
use Rattle.nv_calls.proofs.LentSlots.{lent_length}
use Rattle.nv_core.proofs.Among.{only_among}
use Rattle.nv_core.proofs.Appends.{append_place, append_told, appends, lent_only, lent_value, lent_with}
use Rattle.nv_core.proofs.Phases.{append_can, append_goes, append_within}
use Rattle.nv_core.proofs.Stages.{append_due}
use Rattle.nv_core.proofs.Stepped.{cells_left, committing_written, moves_written}
use Rattle.nv_core.proofs.kinds.append.append.Goals as goal

pub append_in-requires : goal.append_in-requires
append_in-requires c =
    let slots = slots_in c.args.running.now.slots in
    let old = c.args.commit.now in
    let going = c.requires.at.committing in
    let due = append_due old c.requires.at.step in
    rw c.deref_mut.ensures.value (record {
      slots = c.requires.at.slots;
      turn = due;
      within =
          omega (
            arith,
            append_within _ _ _ old going due,
            lent_length slots c.args.shared.now.cells.items,
          );
      can =
          subst (λ (xs : List CellValue). CanAppendPlan old.stamp old.place (to_append old).items old.hand
          (value_at (lent_cells slots xs) (to_append old).at)) (sym c.deref_mut.ensures.value) (append_can _ _ _ old going due);
    })

pub returns : goal.returns
returns c =
    let shared = c.args.shared.now in
    let running = c.args.running.now in
    let slots = slots_in running.slots in
    let cells = shared.cells.items in
    let old = c.args.commit.now in
    let at = c.requires.at in
    let due = append_due old at.step in
    let new = c.append_in.new.cells in
    let after = c.append_in.new.commit in
    let was = c.deref_mut.ensures.value in
    let gives = rw was at c.append_in.ensures in
    let k = (to_append old).at in
    let within : k < length slots = omega (arith, append_within _ _ _ old at.committing due, lent_length slots cells) in
    let value : CellValue = with_plan old.stamp old.place (to_append old).items old.hand (value_at (lent_cells slots cells) k) in
    let lent : lent_cells slots new ≡ with_value (lent_cells slots cells) k value =
    subst (λ (xs : List CellValue). lent_cells slots new ≡ with_value (lent_cells slots xs) k
    (with_plan old.stamp old.place (to_append old).items old.hand (value_at (lent_cells slots xs) k))) was c.append_in.ensures.cells in
    let commit : after ≡ after_append (state_at (lent_cells slots cells) k).chain old =
    subst (λ (xs : List CellValue). after ≡ after_append (state_at (lent_cells slots xs) k).chain old) was c.append_in.ensures.commit in
    let here : value_at (lent_cells slots cells) k ≡ cell_in cells (slot_at slots k) = lent_value slots cells k within in
    record {
      turn = λ told is placed.
          appends shared running old after new told (slot_at slots k) is placed at.committing.way due refl (at.slots k within)
          (only_among slots cells new k gives.count within running.slots.rising at.slots
          (lent_only slots cells new k value within lent) gives.others)
          (sym (lent_value slots new k within) ∙ lent_with slots cells new k value within lent
          ∙ ap (with_plan old.stamp old.place (to_append old).items old.hand) here)
          (commit ∙ ap (λ (v : CellValue). after_append v.state.chain old) here)
          ∙ moves_written shared shared.book new (hand_in after) (shown_commit after told running) gives.count;
      step = record {
        told = λ told is. append_told slots old after (state_at (lent_cells slots cells) k) told commit is;
        committing =
            committing_written slots shared shared.book new after gives.count
            (append_goes _ _ _ old at.committing due (lent_cells slots new) after lent commit gives.ready);
        sized =
            subst (λ (x : CommitValue). IsHandOf shared.geometry.numbers x.hand) (sym commit)
            (record { blocks = at.sized.blocks; pages = at.sized.pages });
        rest = cells_left slots shared shared.book new gives.count gives.others;
      };
      place = λ told is placed plan.
          append_place slots old after (state_at (lent_cells slots cells) k).chain told running.slots.rising commit due is placed
          plan;
    }

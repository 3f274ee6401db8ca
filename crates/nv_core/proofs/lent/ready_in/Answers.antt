use Rattle.std.proofs.Common.{◌≡◌, List, ℕ, subst}
use Rattle.std.specs.Prelude.{IfOk}
use Rattle.nv_calls.specs.SlotCells.{lent_cells}
use Rattle.nv_core.specs.Readied.{filled_hand}
use Rattle.nv_core.specs.Shown.{hand_of}
use Rattle.nv_core.proofs.Readies.{filled_text, only_memory}
use Rattle.nv_core.proofs.lent.ready_in.Goals as goal

pub returns-clause-filled : goal.returns-clause-filled
returns-clause-filled c =
    let cells = c.args.cells.now in let text = c.args.text.now in let u = c.args.update in
    subst (λ (slots : List ℕ). IfOk c.ready_filled.result (λ ready. hand_of ready.hand
    ≡ filled_hand (lent_cells slots cells) text u c.args.hand)) c.as_slice-slots.ensures.slots
    (filled_text (lent_cells c.as_slice-slots.result.now cells) _ text u c.args.hand c.ready_filled.result c.ready_filled.ensures.ok
    c.ready_filled.ensures.filled)

pub returns-clause-err : goal.returns-clause-err
returns-clause-err c = only_memory _ _ c.args.hand c.ready_filled.result c.ready_filled.ensures.err

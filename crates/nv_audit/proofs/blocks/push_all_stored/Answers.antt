use Rattle.std.specs.List.{flat_map}
use Rattle.std.proofs.lemmas.List.Concat.{flat_map-cons}
use Rattle.nv_cell.specs.Cell.{stored_in}
use Rattle.nv_audit.specs.Records.{states_of}
use Rattle.nv_audit.proofs.Pushing.{step}
use Rattle.nv_audit.proofs.States.{as_many, state_at}
use Rattle.nv_audit.proofs.blocks.push_all_stored.Goals as goal

pub loop-cell-preserved : goal.loop-cell-preserved
loop-cell-preserved c =
    let cells = c.args.cells.now in
    let i = c.loop-cell.cell-index in
    let cell = c.cell-item.result in
    step (flat_map stored_in) (λ x xs. stored_in x) (λ x xs. flat_map-cons stored_in x xs) (states_of cells) i cell.state
    (as_many cells i c.loop-cell-test.true) (state_at cells i cell c.loop-cell-test.true c.cell-item.is) c.loop-cell.numbers.items
    c.push_stored.new.numbers.items _ c.in_ok-push_stored.ensures c.loop-cell.invariant

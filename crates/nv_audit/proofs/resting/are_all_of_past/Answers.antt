use Rattle.nv_audit.specs.Resting.{IsOfPast}
use Rattle.nv_audit.proofs.States.{all_states}
use Rattle.nv_audit.proofs.resting.are_all_of_past.Goals as goal

pub returns : goal.returns
returns c =
    let both = all_states (IsOfPast c.args.book.now.state) c.args.cells.now in
    (λ t. both.0 (c.are_of_past.ensures.0 t), λ all. c.are_of_past.ensures.1 (both.1 all))

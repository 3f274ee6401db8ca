use Rattle.std.proofs.Common.{rules, ◌≡◌, subst, sym}
use Rattle.nv_cell.specs.Cell.{CellState}
use Rattle.nv_machine.specs.World.{Cleans}
use Rattle.nv_sessions.specs.Locked.{cell_of}
use Rattle.nv_steps.specs.Hands.{hand_of}
use Rattle.nv_steps.specs.OnCell.{on_cell, once_ending}
use Rattle.nv_steps.specs.Turns.{IsMove}
use Rattle.nv_sessions.proofs.cell.LockedCell.compact.Goals as goal

-- a turn on the cell behind its lock
pub returns-clause-turn : goal.returns-clause-turn
returns-clause-turn g c numbers actor ino granted r holds =
    let after = c.compact-cleaned in
    let here : (cell_of c.args.self.now).state ≡ c.in-Some.cell.state = search rules in
    subst (λ (old : CellState). IsMove numbers actor (on_cell ino r (hand_of c.args.hand.now) granted old after.new.cell.state)
    (hand_of after.new.hand) (once_ending (Cleans after.result) r)) (sym here) (after.ensures.turn numbers actor ino granted r holds)

use Rattle.std.proofs.Common.{◌∙◌, true, ap, refl, sym}
use Rattle.std.proofs.lemmas.List.{length-map}
use Rattle.nv_cell.specs.Cell.{CellValue}
use Rattle.nv_machine.specs.World as machine
use Rattle.nv_steps.proofs.BookTurns.{by_next}
use Rattle.nv_core.specs.Shown.{hand_of, next_of, shared_of, shown}
use Rattle.nv_core.proofs.LentParts.{is_of, numbers_for}
use Rattle.nv_core.proofs.kinds.number.number.Goals as goal

pub returns-clause-turn : goal.returns-clause-turn
returns-clause-turn c told is =
    let shared = c.args.shared.now in
    let s = shared_of shared in
    let r = shown told c.args.running.now in
    let next = ap next_of c.requires.next in
    sym (by_next machine.Number shared.geometry.numbers.block 0 true s (hand_of c.args.hand.now) r next)
    ∙ c.take_number-number.ensures.turn (numbers_for shared) 0 r next s (is_of shared c.requires.home c.requires.wide) (refl, tt)
    ∙ c.goes_to_locks.ensures.turn told (record s { pool = c.take_number-number.new.pool }) (hand_of c.take_number-number.new.hand) is
    (length-map shared.cells.items (λ (x : CellValue). x.state) ∙ sym c.inodes.ensures)

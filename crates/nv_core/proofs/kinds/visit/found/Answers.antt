use Rattle.std.proofs.Common.{◌≡◌, ◌∙◌, ap, inl, inr, sym}
use Rattle.std.specs.Prelude.{Ok, Err, false, true}
use Rattle.nv_calls.specs.declared.answer.Answer.{Answer}
use Rattle.nv_cell.specs.Cell.{CellState}
use Rattle.nv_cell.specs.Pages.{AreBytesOf}
use Rattle.nv_machine.specs.Reads.{bytes_among}
use Rattle.nv_machine.specs.World as machine
use Rattle.nv_machine.specs.World.{empty_hand}
use Rattle.nv_core.specs.Shown.{shared_of}
use Rattle.nv_core.proofs.LentCells.{numbers_in}
use Rattle.nv_core.proofs.LentReads.{in_range, lent_has, read_end}
use Rattle.nv_core.proofs.kinds.visit.found.Goals as goal

pub returns-in-Ok : goal.returns-in-Ok
returns-in-Ok c r next call none =
    let shared = c.args.shared.now in
    let s = shared_of shared in
    let home = c.requires.home in
    let wide = c.requires.wide in
    let ino = c.args.ino in
    let cell = c.cell.result in
    inl (read_end shared home wide ino (λ cell. cell.now) cell c.cell.ensures.range c.cell.ensures.cell c.requires.free machine.Visit true r
    empty_hand empty_hand next (Ok c.in-Ok.view.found)
    (c.in-Ok.ensures.turn (numbers_in shared) 0 r next call none
    (in_range shared home wide ino (λ cell. cell.now) cell c.cell.ensures.range)
    (lent_has (λ (x : CellState). AreBytesOf x (bytes_among x.blocks)) s ino (λ cell. cell.now) cell c.cell.ensures.cell c.requires.own))
    ∙ ap (λ (a : Answer). machine.Ends (Ok a) s empty_hand) (sym c.into_found.ensures))

pub returns-in-Err : goal.returns-in-Err
returns-in-Err c r next call none =
    let shared = c.args.shared.now in
    let s = shared_of shared in
    let home = c.requires.home in
    let wide = c.requires.wide in
    let ino = c.args.ino in
    let cell = c.cell.result in
    inr (read_end shared home wide ino (λ cell. cell.now) cell c.cell.ensures.range c.cell.ensures.cell c.requires.free machine.Visit false r
    empty_hand empty_hand next (Err c.in-Err.fault)
    (c.in-Err.ensures.turn (numbers_in shared) 0 r next call none
    (in_range shared home wide ino (λ cell. cell.now) cell c.cell.ensures.range)
    (lent_has (λ (x : CellState). AreBytesOf x (bytes_among x.blocks)) s ino (λ cell. cell.now) cell c.cell.ensures.cell c.requires.own)))

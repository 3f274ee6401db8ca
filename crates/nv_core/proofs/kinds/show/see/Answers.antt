use Rattle.std.proofs.Common.{◌≡◌, ℕ, refl, subst, sym}
use Rattle.std.specs.Prelude.{is_ok}
use Rattle.nv_base.specs.declared.numbers.Handle.{Handle}
use Rattle.nv_cell.specs.Cell.{CellState}
use Rattle.nv_machine.specs.Reads.{bytes_among}
use Rattle.nv_machine.specs.SnapshotOrCleaner.{copies_at, show_turn}
use Rattle.nv_machine.specs.World as machine
use Rattle.nv_machine.specs.World.{cell_at, owner_at}
use Rattle.nv_reader.specs.Nodes.{IsWhole}
use Rattle.nv_reader.specs.Showing.{visited}
use Rattle.nv_steps.specs.Reading.{once_shown}
use Rattle.nv_steps.proofs.Looks.{IsCellOf}
use Rattle.nv_core.specs.GhostCalls.{IsEither}
use Rattle.nv_core.specs.Shown.{shared_of}
use Rattle.nv_core.proofs.LentCells.{numbers_in}
use Rattle.nv_core.proofs.LentReads.{IsThere, in_range, lent_has, read_move, shown_here}
use Rattle.nv_core.proofs.kinds.show.see.Goals as goal

pub returns-clause-turn : goal.returns-clause-turn
returns-clause-turn c h r =
    let shared = c.args.shared.now in
    let s = shared_of shared in
    let snapshot = c.args.snapshot in
    let dir = visited c.args.showing.visits in
    let cell = c.cell-cell.result in
    let home = c.requires.home in
    let wide = c.requires.wide in
    let there : IsThere shared home wide dir.ino (λ cell. cell.now) cell =
    subst (λ (d : Handle). IsThere shared home wide d.ino (λ cell. cell.now) cell) c.visited.ensures c.cell-cell.ensures.range in
    let lent : IsCellOf s dir.ino (λ cell. cell.now) cell =
    subst (λ (d : Handle). IsCellOf s d.ino (λ cell. cell.now) cell) c.visited.ensures c.cell-cell.ensures.cell in
    let n = c.new.result in
    let k = machine.SnapshotOrCleaner (machine.Show n c.args.showing) in
    let whole : IsWhole (bytes_among (cell_at s dir.ino).blocks) n (cell_at s dir.ino) =
    subst (λ (e : ℕ). IsWhole (bytes_among (cell_at s dir.ino).blocks) e (cell_at s dir.ino)) (sym c.new.ensures)
    (record { own = c.requires.can.own dir.ino; pages = c.requires.can.pages dir.ino }) in
    subst (λ (e : ℕ). IsEither (λ granted. show_turn (owner_at s dir.ino) granted (copies_at s e dir) e c.args.showing s h r)
    (machine.Moves s h (once_shown e c.show.result r))) c.new.ensures
    (shown_here s n c.args.showing h r c.show.result c.requires.free
    (read_move shared home wide dir.ino (λ cell. cell.now) cell there lent c.requires.free k (is_ok c.show.result) (machine.go_to k r) h h refl
    (once_shown n c.show.result (machine.go_to k r))
    (c.show.ensures.turn (numbers_in shared) 0 h (machine.go_to k r) refl (in_range shared home wide dir.ino (λ cell. cell.now) cell there)
    (lent_has (λ (x : CellState). IsWhole (bytes_among x.blocks) n x) s dir.ino (λ cell. cell.now) cell lent whole))))

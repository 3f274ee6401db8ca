use Rattle.std.proofs.Common.{◌≡◌, ℕ, ◌==◌, ◌∙◌, ◌<◌, arith, length, subst, sym, true}
use Rattle.std.specs.Prelude.{slice_index_or}
use Rattle.std.proofs.lemmas.List.{length-map}
use Rattle.nv_cell.specs.Cell.{CellState, CellValue}
use Rattle.nv_cell.specs.Pages.{AreBytesOf}
use Rattle.nv_machine.specs.Reads.{bytes_among}
use Rattle.nv_machine.specs.World.{cell_at}
use Rattle.nv_reader.specs.Cells.{NoneOut, settled as settled_by}
use Rattle.nv_core.specs.Settled.{AreSettled, CanSettle, settled}
use Rattle.nv_core.specs.Shown.{shared_of}
use Rattle.nv_core.specs.declared.shared.Shared.{Shared}
use Rattle.nv_core.proofs.Settled.{cell_there, if_ok, node_settled, same_number, settled_is, tail_within}
use Rattle.nv_core.proofs.shared.Shared.settled_node.Goals as goal

-- the cell of a slot that is there is the one that is shown, and its settled log can be read
found : (s : Shared) (ino : ℕ) (cell : CellValue) → ino < length s.cells.items → cell ≡ slice_index_or s.cells.items ino cell
    → AreSettled (shared_of s) → (cell_at (shared_of s) ino ≡ cell.state) × CanSettle (shared_of s) ino
found s ino cell lt is settled = (
  cell_there s.cells.items ino cell lt is,
  settled ino (omega (arith, lt, length-map s.cells.items (λ (v : CellValue). v.state))),
)

pub settled_on-requires : goal.settled_on-requires
settled_on-requires c = λ x is.
    let s = c.args.self.now in
    let ino = c.args.handle.now.ino in
    let cell = c.index-cell.result.now in
    let here =
    found s ino cell (omega (arith, c.if-place-len.false, c.number-place.ensures, c.len.ensures))
    (rw c.number-place.ensures at c.index-cell.ensures) c.requires in
    tail_within (shared_of s) ino x cell.state c.noted_tail.result here.0 here.1.tail (c.noted_tail.ensures cell.state.chain.tail) is

pub returns-clause-ok : goal.returns-clause-ok
returns-clause-ok c =
    let s = c.args.self.now in
    let ino = c.args.handle.now.ino in
    let cell = c.index-cell.result.now in
    let here =
    found s ino cell (omega (arith, c.if-place-len.false, c.number-place.ensures, c.len.ensures))
    (rw c.number-place.ensures at c.index-cell.ensures) c.requires in
    let there = here.0 in
    let can = here.1 in
    let log = settled_is (shared_of s) ino cell.state c.noted_tail.result there (c.noted_tail.ensures cell.state.chain.tail) in
    let own : AreBytesOf cell.state (bytes_among cell.state.blocks) =
    subst (λ (v : CellState). AreBytesOf v (bytes_among v.blocks)) there can.own in
    let pages : NoneOut cell.state (settled_by c.noted_tail.result cell.state) =
    subst (NoneOut cell.state) (sym log) (subst (λ (v : CellState). NoneOut v (settled (shared_of s) ino)) there can.pages) in
    let same : (c.args.handle.now.generation == cell.state.generation) ≡ true =
    rw (← c.generation.ensures) (same_number c.generation.result c.args.handle.now.generation (sym c.if-ne.false ∙ c.ne.ensures)) in
    if_ok c.settled_on.result _ _
    (λ node is. node_settled (shared_of s) c.args.handle.now cell.state (settled_by c.noted_tail.result cell.state) node there same log is)
    (c.settled_on.ensures.node (bytes_among cell.state.blocks) own (λ tail is. pages))

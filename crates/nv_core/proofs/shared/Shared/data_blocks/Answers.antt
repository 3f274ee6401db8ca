use Rattle.std.proofs.Common.{◌≡◌, ℕ, ◌∙◌, ◌<◌, ap, arith, get_or, length}
use Rattle.std.proofs.lemmas.List.{length-map}
use Rattle.std.proofs.lemmas.List.Sums.{get_or-le-sum_by, sum_by_more, sum_by_more_le}
use Rattle.nv_cell.specs.Cell.{CellValue}
use Rattle.nv_machine.specs.World.{cell_at, no_cell}
use Rattle.nv_core.specs.Reports.{kept_in}
use Rattle.nv_core.specs.Shown.{shared_of}
use Rattle.nv_core.specs.declared.shared.Shared.{Shared}
use Rattle.nv_core.proofs.shared.Shared.data_blocks.Goals as goal

slot_there : (shared : Shared) (place : ℕ) → place < length shared.cells.items → place < length (shared_of shared).cells
slot_there shared place lt = omega (arith, lt, length-map shared.cells.items (λ (v : CellValue). v.state))

-- the slot of a place
kept_there : (shared : Shared) (ino place : ℕ) → ino ≡ place → kept_in shared.book.state (cell_at (shared_of shared) ino)
    ≡ kept_in (shared_of shared).book (get_or (shared_of shared).cells place no_cell)
kept_there shared ino place same = ap (λ (n : ℕ). kept_in shared.book.state (cell_at (shared_of shared) n)) same

pub kept_in_slot-count-requires-clause-few : goal.kept_in_slot-count-requires-clause-few
kept_in_slot-count-requires-clause-few c =
    let s = shared_of c.args.self.now in
    let place = c.loop-place.place in
    let lt = slot_there c.args.self.now place (omega (arith, c.loop-place-test.true)) in
    let same = kept_there c.args.self.now c.new.result place (omega (arith, c.new.ensures)) in
    omega (arith, same, get_or-le-sum_by (kept_in s.book) s.cells place no_cell lt, c.requires.few)

pub overflow_add-count : goal.overflow_add-count
overflow_add-count c =
    let s = shared_of c.args.self.now in
    let place = c.loop-place.place in
    let lt = slot_there c.args.self.now place (omega (arith, c.loop-place-test.true)) in
    let same = kept_there c.args.self.now c.new.result place (omega (arith, c.new.ensures)) in
    omega (
      arith,
      same,
      sum_by_more_le (kept_in s.book) s.cells place no_cell lt,
      c.requires.few,
      c.loop-place.invariant,
      c.kept_in_slot-count.ensures,
    )

pub loop-place-preserved : goal.loop-place-preserved
loop-place-preserved c =
    let s = shared_of c.args.self.now in
    let place = c.loop-place.place in
    let lt = slot_there c.args.self.now place (omega (arith, c.loop-place-test.true)) in
    let same = kept_there c.args.self.now c.new.result place (omega (arith, c.new.ensures)) in
    omega (
      arith,
      same,
      sum_by_more (kept_in s.book) s.cells place no_cell lt,
      c.loop-place.invariant,
      c.kept_in_slot-count.ensures,
    )

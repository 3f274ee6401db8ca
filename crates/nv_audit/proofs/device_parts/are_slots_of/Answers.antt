use Rattle.std.proofs.Common.{◌≡◌, length, arith, ◌∙◌}
use Rattle.std.proofs.lemmas.List.{length-map}
use Rattle.nv_cell.specs.Cell.{CellValue}
use Rattle.nv_audit.specs.DeviceParts.{IsSlotOf}
use Rattle.nv_audit.proofs.States.{all_states}
use Rattle.nv_audit.proofs.device_parts.are_slots_of.Goals as goal

pub returns-then-cells-geometry : goal.returns-then-cells-geometry
returns-then-cells-geometry c =
    let cells = c.args.cells.now in
    let g = c.args.geometry.now.numbers in
    let count : length cells ≡ g.inodes = omega (arith, c.if-cells-geometry.true) in
    let both = all_states (IsSlotOf g) cells in (
      λ t. record {
        count = length-map cells (λ (x : CellValue). x.state) ∙ count;
        each = both.0 (c.are_all_slots_of.ensures.0 t);
      },
      λ are. c.are_all_slots_of.ensures.1 (both.1 are.each),
    )

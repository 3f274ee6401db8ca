use Rattle.std.proofs.Common.{◌∙◌, ap, map}
use Rattle.nv_cell.specs.Cell.{CellValue}
use Rattle.nv_core.specs.Formats.{new_cell}
use Rattle.nv_core.proofs.Formats.{is_rootless, states_alike}
use Rattle.nv_core.proofs.format.add_parts.Goals as goal

pub make_root-requires : goal.make_root-requires
make_root-requires c =
    let g = c.args.shared.now.geometry.numbers in
    let cells = ap (map (λ (v : CellValue). v.state)) c.in_ok-add_cells.ensures.ok ∙ states_alike g.inodes (new_cell g) in
    is_rootless g _ c.in_ok-add_lists.ensures.ok c.requires.pool cells c.requires.owners c.requires.book c.requires.holder

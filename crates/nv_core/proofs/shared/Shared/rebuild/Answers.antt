use Rattle.std.proofs.Common.{◌≡◌, ◌∙◌, ℕ, List, None, ap, length, refl, replicate, subst, sym}
use Rattle.std.specs.Global.{Vec}
use Rattle.nv_alloc.specs.FreeList.{FreeBlocks}
use Rattle.nv_cell.specs.Cell.{CellValue}
use Rattle.nv_mount.specs.Mount.{IsBuilt}
use Rattle.nv_core.specs.Restarts.{CanPutAll, image_by, view_of}
use Rattle.nv_core.specs.declared.shared.Shared.{Shared}
use Rattle.nv_core.proofs.RestartedWorlds.{no_slots, shared_rebuilt}
use Rattle.nv_core.proofs.shared.Shared.rebuild.Goals as goal
use Rattle.nv_core.proofs.shared.Shared.rebuild.Goals.{After-put_cells}

-- all cells are made
built : (c : After-put_cells) → IsBuilt (image_by c.args.self.now) c.put_cells.new.plan c.put_cells.new.lists.items
built c =
    let image = image_by c.args.self.now in
    let view = view_of c.args.self.now in
    let cells = ap (λ (v : Vec CellValue). v.items) c.replace-cells.ensures.value in
    c.put_cells.ensures image view refl
    (subst (λ (xs : List CellValue). CanPutAll image view xs c.args.plan c.clear_lists.new.lists.items) (sym cells)
    (subst (λ (ls : List FreeBlocks). CanPutAll image view c.args.self.now.cells.items c.args.plan ls) (sym c.clear_lists.ensures)
    c.requires.can))

pub finish-cells-requires-clause-slots : goal.finish-cells-requires-clause-slots
finish-cells-requires-clause-slots c =
    no_slots c.put_cells.new.plan.slots.items (length (image_by c.args.self.now).slots)
    (built (goal.at.finish-cells-requires-clause-slots c).After-put_cells).planned.count

pub finish-cells-requires-clause-pages : goal.finish-cells-requires-clause-pages
finish-cells-requires-clause-pages c = (built (goal.at.finish-cells-requires-clause-pages c).After-put_cells).planned.none

pub returns : goal.returns
returns c = record {
  geometry = refl;
  shared =
      let new : Shared = record {
        geometry = c.args.self.now.geometry;
        lists = c.put_cells.new.lists;
        pool = c.finish-cells.result.1;
        cells = c.replace.new.dest;
        owners = c.free_owners.new.owners;
        book = c.finish-cells.result.2;
        holder = None;
      } in
      shared_rebuilt c.args.self.now new c.put_cells.new.plan (built (goal.at.returns c).After-put_cells) c.finish-cells.ensures.pool
      (ap (λ (v : Vec CellValue). v.items) c.replace.ensures.after ∙ c.finish-cells.ensures.cells) c.finish-cells.ensures.book
      (c.free_owners.ensures ∙ ap (λ (n : ℕ). replicate n None) c.requires.wide) refl;
}

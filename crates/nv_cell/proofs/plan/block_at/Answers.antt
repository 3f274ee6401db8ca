use Rattle.std.proofs.Common.{◌≡◌, Some, refl, sym, ◌∙◌, slice_get}
use Rattle.std.proofs.lemmas.Option.{slice_get-get_or}
use Rattle.nv_entry.specs.declared.part.Part.TheVariants as part
use Rattle.nv_entry.specs.Keys.{parts_of}
use Rattle.nv_cell.proofs.CellAnew.{said_at}
use Rattle.nv_cell.proofs.plan.block_at.Goals as goal

pub unwrap-part-requires : goal.unwrap-part-requires
unwrap-part-requires c =
    let parts = parts_of c.args.entry.now.item in
    rw (c.part_at.ensures.value, slice_get-get_or parts c.args.place part.Kind c.requires.place) refl

pub returns : goal.returns
returns c =
    let parts = parts_of c.args.entry.now.item in
    let got : slice_get parts c.args.place ≡ Some c.unwrap-part.result = sym c.part_at.ensures.value ∙ c.unwrap-part.ensures in
    c.block_said.ensures ∙ sym (said_at c.args.block c.args.entry.now c.args.place c.unwrap-part.result got)

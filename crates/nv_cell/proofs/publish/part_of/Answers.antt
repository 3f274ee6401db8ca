use Rattle.std.proofs.Common.{◌≡◌, ◌-◌, Some, arith, refl, ap, sym, ◌∙◌, slice_get}
use Rattle.std.proofs.lemmas.Option.{slice_get-get_or}
use Rattle.nv_entry.specs.declared.part.Part.TheVariants as part
use Rattle.nv_entry.specs.Keys.{parts_of}
use Rattle.nv_cell.specs.Numbers.{part_base}
use Rattle.nv_cell.proofs.EntryRead.{entry_read, place_within}
use Rattle.nv_cell.proofs.Publishes.{named, part_at_number, parts_few}
use Rattle.nv_cell.proofs.publish.part_of.Goals as goal

pub overflow_cast-place : goal.overflow_cast-place
overflow_cast-place c =
    let e = c.entry_at-entry.result.now in
    let low = place_within c.args.chain.now.state.entries c.args.marks.now.ends.items c.entry_of-i.result c.args.part.number e
    c.entry_at-entry.ensures c.requires.ends c.requires.ended c.entry_of-i.ensures in
    omega (arith, low, c.first.ensures, parts_few e.item)

pub unwrap-part-requires : goal.unwrap-part-requires
unwrap-part-requires c =
    let parts = parts_of c.entry_at-entry.result.now.item in
    let place = c.args.part.number - c.first.result in
    let low = place_within c.args.chain.now.state.entries c.args.marks.now.ends.items c.entry_of-i.result c.args.part.number _
    c.entry_at-entry.ensures c.requires.ends c.requires.ended c.entry_of-i.ensures in
    rw (c.part_at.ensures.value, slice_get-get_or parts place part.Kind (omega (arith, low, c.first.ensures))) refl

pub returns : goal.returns
returns c =
    let es = c.args.chain.now.state.entries in
    let i = c.entry_of-i.result in
    let e = c.entry_at-entry.result.now in
    let p = entry_read es i e c.entry_at-entry.ensures in
    let f : c.first.result ≡ part_base es i = c.first.ensures ∙ c.requires.ends.first i p.within in
    let named_is = part_at_number es i c.args.part.number e p.within p.is (omega (arith, c.entry_of-i.ensures.start, f, c.first.ensures))
    (omega (arith, c.entry_of-i.ensures.end, c.requires.ended i p.within)) in
    let got : slice_get (parts_of e.item) (c.args.part.number - part_base es i) ≡ Some c.unwrap-part.result =
    ap (λ k. slice_get (parts_of e.item) (c.args.part.number - k)) (sym f) ∙ sym c.part_at.ensures.value ∙ c.unwrap-part.ensures in
    sym (named_is ∙ ap (named e) got)

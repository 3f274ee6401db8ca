use Rattle.std.proofs.Common.{◌≡◌, ◌-◌, ◌<◌, ◌∙◌, ◌∷◌, [], ℕ, ap, arith, length, map, refl, subst}
use Rattle.std.specs.List.{range_with_len}
use Rattle.std.proofs.lemmas.List.FromFn.{length-map-range_with_len}
use Rattle.nv_entry.specs.Covered.{part_count}
use Rattle.nv_cell.specs.declared.marks.Marks.{Marks}
use Rattle.nv_cell.specs.Filling.{AreGiven, part_wants}
use Rattle.nv_cell.proofs.GivenBlocks.{given_len, given_none, part_more}
use Rattle.nv_cell.proofs.plan.CellPlan.fill_entry.Goals as goal

pub loop-place-init : goal.loop-place-init
loop-place-init c = record {
  low = omega arith;
  few = omega arith;
  given = given_none c.args.geometry.now.numbers c.args.lists.now.items c.args.self.now.blocks.items c.requires.lists;
  capacity = refl;
  index = refl;
  marks = refl;
}

pub fill_part-requires-clause-known : goal.fill_part-requires-clause-known
fill_part-requires-clause-known c =
    let same = ap (λ (m : Marks). length m.marks.items) c.loop-place.invariant.marks in
    omega (arith, same, c.requires.known, c.loop-place-test.true, c.part_count-place-end.ensures)

pub fill_part-requires-clause-room : goal.fill_part-requires-clause-room
fill_part-requires-clause-room c =
    let g = c.args.geometry.now.numbers in
    let inv = c.loop-place.invariant in
    let f = part_wants g.block c.args.self.now.marks.marks.items c.args.first c.args.entry.now in
    let wants = map f (range_with_len 1 (c.loop-place.place - 1)) in
    let len = given_len g wants c.args.lists.now.items c.loop-place.lists.items c.args.self.now.blocks.items
    c.loop-place.self.blocks.items inv.given in
    omega (
      arith,
      len,
      length-map-range_with_len f 1 (c.loop-place.place - 1),
      inv.low,
      inv.capacity,
      c.requires.room,
      c.loop-place-test.true,
      c.part_count-place-end.ensures,
      c.loop-place.self.blocks.ok,
      c.args.self.now.blocks.ok,
    )

pub fill_part-requires-clause-lists : goal.fill_part-requires-clause-lists
fill_part-requires-clause-lists c = c.loop-place.invariant.given.lists.homes

pub loop-place-preserved : goal.loop-place-preserved
loop-place-preserved c =
    let g = c.args.geometry.now.numbers in
    let e = c.args.entry.now in
    let first = c.args.first in
    let place = c.loop-place.place in
    let inv = c.loop-place.invariant in
    let a = c.args.lists.now.items in
    let b = c.loop-place.lists.items in
    let d = c.fill_part.new.lists.items in
    let u = c.args.self.now.blocks.items in
    let v = c.loop-place.self.blocks.items in
    let w = c.fill_part.new.self.blocks.items in
    let f = part_wants g.block c.args.self.now.marks.marks.items first e in
    let lt : place < part_count e = omega (arith, c.loop-place-test.true, c.part_count-place-end.ensures) in
    let own = subst (λ (m : Marks). AreGiven g (part_wants g.block m.marks.items first e place ∷ []) b d v w) inv.marks
    c.fill_part.ensures.given in
    record {
      low = omega (arith, inv.low);
      few = omega (arith, lt);
      given = part_more g f (part_count e) place a b d u v w inv.low lt c.requires.once inv.given own;
      capacity = c.fill_part.ensures.capacity ∙ inv.capacity;
      index = c.fill_part.ensures.index ∙ inv.index;
      marks = c.fill_part.ensures.marks ∙ inv.marks;
    }

pub returns-clause-given : goal.returns-clause-given
returns-clause-given c =
    let g = c.args.geometry.now.numbers in
    let e = c.args.entry.now in
    let inv = c.loop-place.invariant in
    let f = part_wants g.block c.args.self.now.marks.marks.items c.args.first e in
    let all : c.loop-place.place - 1 ≡ part_count e - 1 = omega (arith, inv.few, c.loop-place-test.false, c.part_count-place-end.ensures) in
    subst (λ (k : ℕ). AreGiven g (map f (range_with_len 1 k)) c.args.lists.now.items c.loop-place.lists.items
    c.args.self.now.blocks.items c.loop-place.self.blocks.items) all inv.given

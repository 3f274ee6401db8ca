use Rattle.std.proofs.Common.{arith, refl}
use Rattle.nv_entry.proofs.Leaving.{keeps_the_rest}
use Rattle.nv_cell.specs.Cell.{log_of}
use Rattle.nv_cell.specs.Fields.{state_in}
use Rattle.nv_cell.proofs.FieldsLeft.{compact_taken, fields_left, slots_empty, slots_closed, slots_there, may_recount}
use Rattle.nv_cell.proofs.Removing.{fresh_within, last_stays, may_leave, packed_within}
use Rattle.nv_cell.proofs.cell.InodeCell.compact.Goals as goal

pub close_parts-requires : goal.close_parts-requires
close_parts-requires c =
    let given = rw (← c.self.view_is) at c.requires in
    let inv = c.self.invariant in
    let taken = compact_taken c.args.stays.now c.args.pages.items inv c.holds_together.ensures given.flags given.may refl in
    record { flags = given.flags; marks_there = inv.marks.len; slots_there = slots_there inv taken; none = slots_empty inv taken }

pub recount-requires : goal.recount-requires
recount-requires c =
    let given = rw (← c.self.view_is) at c.requires in
    let inv = c.self.invariant in
    let is = c.holds_together.ensures in
    let now = c.compact-old.ensures.state in
    let taken = compact_taken c.args.stays.now c.args.pages.items inv is given.flags given.may now in
    may_recount inv taken c.close_parts.ensures.marks is
    (rw now (packed_within c.args.stays.now c.args.pages.items c.self.inside.chain.state is))

pub invariant_of-self : goal.invariant_of-self
invariant_of-self c =
    let given = rw (← c.self.view_is) at c.requires in
    let inv = c.self.invariant in
    let is = c.holds_together.ensures in
    let now = c.compact-old.ensures.state in
    let taken = compact_taken c.args.stays.now c.args.pages.items inv is given.flags given.may now in
    let fresh = fresh_within c.args.stays.now c.args.pages.items c.self.inside.chain.state is
    (omega (arith, given.pages, c.args.pages.ok)) in
    fields_left inv taken refl c.close_parts.ensures c.recount.ensures (rw now given.sized)
    (rw (now, c.compact-old.ensures.spare) (omega (arith, fresh, is.paged, inv.pages_room)))

pub returns : goal.returns
returns c =
    let given = rw (← c.self.view_is) at c.requires in
    let inv = c.self.invariant in
    let s = state_in c.self.inside in
    let now = c.compact-old.ensures.state in
    let taken = compact_taken c.args.stays.now c.args.pages.items inv c.holds_together.ensures given.flags given.may now in
    let slots = slots_closed inv taken c.close_parts.new.slots.items c.close_parts.ensures.slots in
    rw (← c.self.view_is) (record {
      blocks = c.compact-old.ensures.blocks;
      state = rw (slots.0, c.recount.ensures.marks, c.close_parts.ensures.marks, now) refl;
      log = taken.left.log_is;
      rest = keeps_the_rest s.block (log_of s) c.args.stays.now (may_leave taken);
      last = (let h = last_stays taken in record { entry = h.entry; stat = h.stat; gone = h.gone });
      room = rw c.compact-old.ensures.spare refl;
    })

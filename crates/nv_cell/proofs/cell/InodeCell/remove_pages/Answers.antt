use Rattle.std.proofs.Common.{◌≡◌, length, arith, refl}
use Rattle.nv_entry.proofs.Leaving.{keeps_the_rest}
use Rattle.nv_log.proofs.Flags.{all_gone, all_left, length-left_of}
use Rattle.nv_cell.specs.Cell.{log_of}
use Rattle.nv_cell.specs.Fields.{state_in}
use Rattle.nv_cell.specs.Removal.{log_flags}
use Rattle.nv_cell.proofs.FieldsLeft.{pages_taken, fields_left, slots_empty, slots_closed, slots_there, may_recount}
use Rattle.nv_cell.proofs.PageFlags.{pages_fewer}
use Rattle.nv_cell.proofs.Removing.{last_stays, may_leave}
use Rattle.nv_cell.proofs.cell.InodeCell.remove_pages.Goals as goal

pub close_parts-requires : goal.close_parts-requires
close_parts-requires c =
    let given = rw (← c.self.view_is) at c.requires in
    let inv = c.self.invariant in
    let taken = pages_taken c.args.stays.now inv c.holds_together.ensures given.flags given.published given.may refl in
    record { flags = given.flags; marks_there = inv.marks.len; slots_there = slots_there inv taken; none = slots_empty inv taken }

pub unlink_pages-requires-clause-sized : goal.unlink_pages-requires-clause-sized
unlink_pages-requires-clause-sized c =
    let given = rw (← c.self.view_is) at c.requires in
    let s = state_in c.self.inside in
    rw given.size (all_gone (λ b. length b.bytes ≡ s.block) c.args.stays.now s.chain.blocks c.self.invariant.pages)

pub recount-requires : goal.recount-requires
recount-requires c =
    let given = rw (← c.self.view_is) at c.requires in
    let inv = c.self.invariant in
    let is = c.holds_together.ensures in
    let now = c.unlink_pages.ensures.state in
    let taken = pages_taken c.args.stays.now inv is given.flags given.published given.may now in
    may_recount inv taken c.close_parts.ensures.marks is (rw now (pages_fewer c.args.stays.now c.self.inside.chain.state))

pub invariant_of-self : goal.invariant_of-self
invariant_of-self c =
    let given = rw (← c.self.view_is) at c.requires in
    let inv = c.self.invariant in
    let is = c.holds_together.ensures in
    let now = c.unlink_pages.ensures.state in
    let taken = pages_taken c.args.stays.now inv is given.flags given.published given.may now in
    let blocks = c.self.inside.chain.state.blocks in
    fields_left inv taken refl c.close_parts.ensures c.recount.ensures
    (rw now (all_left (λ b. length b.bytes ≡ c.self.inside.block) c.args.stays.now blocks inv.pages))
    (rw (now, c.unlink_pages.ensures.spare) (omega (arith, length-left_of c.args.stays.now blocks, inv.pages_room)))

pub returns : goal.returns
returns c =
    let given = rw (← c.self.view_is) at c.requires in
    let inv = c.self.invariant in
    let s = state_in c.self.inside in
    let now = c.unlink_pages.ensures.state in
    let taken = pages_taken c.args.stays.now inv c.holds_together.ensures given.flags given.published given.may now in
    let slots = slots_closed inv taken c.close_parts.new.slots.items c.close_parts.ensures.slots in
    rw (← c.self.view_is) (record {
      state = rw (slots.0, c.recount.ensures.marks, c.close_parts.ensures.marks, now) refl;
      log = taken.left.log_is;
      rest = keeps_the_rest s.block (log_of s) (log_flags c.args.stays.now s.chain) (may_leave taken);
      last = (let h = last_stays taken in record { entry = h.entry; stat = h.stat; gone = h.gone });
      room = rw c.unlink_pages.ensures.spare refl;
      queue = c.unlink_pages.ensures.queue;
    })

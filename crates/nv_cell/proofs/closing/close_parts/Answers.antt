use Rattle.std.proofs.Common.{◌≡◌, ◌-◌, ◌<◌, ◌≤◌, length, arith, ap, sym, ◌∙◌, None}
use Rattle.std.proofs.lemmas.List.{append-nil, length-take}
use Rattle.nv_entry.specs.Covered.{part_count, part_total}
use Rattle.nv_log.specs.Chain.{log}
use Rattle.nv_cell.specs.Removal.{flags_of}
use Rattle.nv_cell.specs.Slots.{slot_count, slot_total}
use Rattle.nv_cell.proofs.PageFlags.{flags-count, is_at}
use Rattle.nv_cell.proofs.RunFlags.{base_past, entry_goes, entry_there, goes_on, log_passed, next_of, own_within, part_totals, passes_on, slot_totals}
use Rattle.nv_cell.proofs.closing.close_parts.Goals as goal

pub entry_at-requires : goal.entry_at-requires
entry_at-requires c = omega (arith, c.loop-i-test.true, c.tail-i-end.ensures.value, c.tail-i-end.ensures.within)

pub overflow_sub-fresh : goal.overflow_sub-fresh
overflow_sub-fresh c =
    let chain = c.args.chain.now.state in
    let e = c.entry_at.result.now in
    let lt : c.loop-i.i < chain.tail = omega (arith, c.loop-i-test.true, c.tail-i-end.ensures.value) in
    let own = own_within slot_totals chain.entries chain.tail c.loop-i.i e lt (omega (arith, c.tail-i-end.ensures)) c.entry_at.ensures in
    let slots : c.saturating_sub-fresh.result ≡ slot_count e = c.saturating_sub-fresh.ensures
    ∙ ap (λ n. n - 1) c.part_count-count.ensures in
    omega (arith, own, slots, c.loop-i.invariant.fresh, c.requires.slots_there)

pub pass-requires : goal.pass-requires
pass-requires c =
    let chain = c.args.chain.now.state in
    let lt : c.loop-i.i < chain.tail = omega (arith, c.loop-i-test.true, c.tail-i-end.ensures.value) in
    let at = is_at c.args.stays chain c.loop-i.i _ c.holds_together.ensures c.requires.flags lt c.entry_at.ensures in
    let slot = next_of slot_totals at c.at.ensures in
    let slots = ap (λ n. n - 1) c.part_count-count.ensures in
    let inv = c.loop-i.invariant in
    record {
      marks_there =
          entry_there (next_of part_totals at c.at.ensures) c.part_count-count.ensures inv.marks (omega (arith, c.requires.marks_there));
      slots_there = entry_there slot slots inv.slots c.requires.slots_there;
      none = λ goes. entry_goes slot slots inv.slots c.requires.slots_there (λ o. o ≡ None) goes inv.none;
    }

pub loop-i-preserved : goal.loop-i-preserved
loop-i-preserved c =
    let chain = c.args.chain.now.state in
    let flags = flags_of c.args.stays chain in
    let i = c.loop-i.i in
    let e = c.entry_at.result.now in
    let lt : i < chain.tail = omega (arith, c.loop-i-test.true, c.tail-i-end.ensures.value) in
    let at = is_at c.args.stays chain i e c.holds_together.ensures c.requires.flags lt c.entry_at.ensures in
    let part = next_of part_totals at c.at.ensures in
    let slot = next_of slot_totals at c.at.ensures in
    let parts = c.part_count-count.ensures in
    let slots = ap (λ n. n - 1) parts in
    let inv = c.loop-i.invariant in
    record {
      marks = passes_on part parts inv.marks (omega (arith, c.requires.marks_there)) c.pass.new.marks.items c.pass.ensures.marks;
      slots = passes_on slot slots inv.slots c.requires.slots_there c.pass.new.slots.items c.pass.ensures.slots;
      none = goes_on (λ o. o ≡ None) c.args.slots.now.items flags (log chain) i c.at.result e slot inv.none;
      fresh = omega (arith, inv.fresh, slot.to, slots, c.saturating_sub-fresh.ensures);
      marks_room = c.pass.ensures.marks_room ∙ inv.marks_room;
      slots_room = c.pass.ensures.slots_room ∙ inv.slots_room;
    }

pub returns : goal.returns
returns c =
    let chain = c.args.chain.now.state in
    let flags = flags_of c.args.stays chain in
    let es = log chain in
    let i = c.loop-i.i in
    let inv = c.loop-i.invariant in
    let queue = c.loop-i.mark_queue.items in
    let size = length-take chain.tail chain.entries in
    let count = flags-count c.args.stays chain c.holds_together.ensures c.requires.flags in
    let len : length flags ≡ length es = omega (arith, count, size, c.tail-i-end.ensures) in
    let past : length es ≤ i = omega (arith, size, c.loop-i-test.false, c.tail-i-end.ensures) in
    record {
      marks = c.put_back.ensures.items ∙ log_passed part_count part_total c.args.marks.now.items queue queue flags es i 0 len past
          (omega (arith, c.requires.marks_there)) inv.marks (sym (append-nil queue));
      slots = c.put_back-2.ensures.items ∙ log_passed slot_count slot_total c.args.slots.now.items c.loop-i.slot_queue.items
          c.rotate_left.new.self.items flags es i c.loop-i.fresh len past
          (omega (arith, inv.fresh, base_past slot_total es i past)) inv.slots c.rotate_left.ensures.items;
      marks_room = c.put_back.ensures.room ∙ inv.marks_room;
      slots_room = c.put_back-2.ensures.room ∙ c.rotate_left.ensures.capacity ∙ inv.slots_room;
    }

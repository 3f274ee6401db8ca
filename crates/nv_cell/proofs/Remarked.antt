-- The fields of a cell are fields again once a killed or kept part has another mark.
use Rattle.std.proofs.Common.{◌≡◌, ℕ, ◌+◌, ◌<◌, true, false, List, length, Option, Some, None, arith, ap, sym, ◌∙◌, subst, slice_set}
use Rattle.std.specs.Prelude.{option_to_list, slice_index_or, vec_capacity}
use Rattle.std.specs.Option.{IfSome, option_map}
use Rattle.nv_entry.specs.declared.part.PartId.{PartId}
use Rattle.nv_cell.specs.declared.cell.InodeCell.TheInside.{Inside}
use Rattle.nv_cell.specs.declared.mark.Mark.{Mark}
use Rattle.nv_cell.specs.declared.mark.Mark.TheVariants.{Out}
use Rattle.nv_cell.specs.declared.number.NumberedPart.{NumberedPart}
use Rattle.nv_cell.specs.Cell.{HasBlocks, held_count, log_of, number_in}
use Rattle.nv_cell.specs.Fields.{AreFields, state_in}
use Rattle.nv_cell.specs.Marks.{is_current, is_there}
use Rattle.nv_cell.specs.Named.{number_named}
use Rattle.nv_cell.specs.Numbers.{StandsIn}
use Rattle.nv_cell.specs.Slots.{by_part, emptied}
use Rattle.nv_cell.specs.Tallies.{AreTallied, SameCapacity}
use Rattle.nv_cell.proofs.Held.{held_out}
use Rattle.nv_cell.proofs.PartSlots.{IsSlotOf}
use Rattle.nv_cell.proofs.Publishing.{total_take}
use Rattle.nv_cell.proofs.Remarking.{IsIdle, block_leaves, blocks_stay, length_set, marks_stay, some_same}

-- a killed or kept part that was looked for and found
pub record IsFound (cell : Inside) (id : PartId) (p : NumberedPart) : Type 0 where
  pub idle : IsIdle (state_in cell) id
  pub number : p.number ≡ number_in (state_in cell) id
  pub entry : p.entry < cell.chain.state.tail
  pub stands : StandsIn cell.chain.state.entries p

pub is_found : (cell : Inside) {id : PartId} {o : Option NumberedPart} {p : NumberedPart} → IsIdle (state_in cell) id → o ≡ Some p
    → record {
      number : option_map (λ (q : NumberedPart). q.number) o ≡ number_named (log_of (state_in cell)) id;
      entry : IfSome o (λ (q : NumberedPart). q.entry < cell.chain.state.tail);
      stands : IfSome o (StandsIn cell.chain.state.entries);
    } → IsFound cell id p
is_found cell idle is found = record {
  idle = idle;
  number = some_same (sym (ap (option_map (λ q. q.number)) is) ∙ found.number ∙ idle.number);
  entry = subst (λ o. IfSome o (λ q. q.entry < cell.chain.state.tail)) is found.entry;
  stands = subst (λ o. IfSome o (StandsIn cell.chain.state.entries)) is found.stands;
}

module _ {old new : Inside} {id : PartId} {p : NumberedPart} {page_ends : List ℕ} (mark : Mark) (inv : AreFields old)
    (found : IsFound old id p) (same : new ≡ record old { marks = new.marks; blocks = new.blocks; held = new.held })
    (now : is_current mark ≡ false)
    (page_ends_are : page_ends ≡ old.chain.state.ends)
    (set : record {
      marks : new.marks.marks.items ≡ slice_set old.marks.marks.items p.number mark;
      room : SameCapacity old.marks new.marks;
      ends : new.marks.ends ≡ old.marks.ends;
      tallied : AreTallied new.marks page_ends;
    }) where
  marks_are : new.marks.marks.items ≡ slice_set old.marks.marks.items (number_in (state_in old) id) mark
  marks_are = set.marks ∙ ap (λ n. slice_set old.marks.marks.items n mark) found.number

  fields_marked : HasBlocks (record (state_in old) {
    marks = new.marks.marks.items;
    blocks = by_part old.chain.state.entries new.blocks.items;
  }) → new.held ≡ held_count (by_part old.chain.state.entries new.blocks.items)
      → length new.blocks.items ≡ length old.blocks.items → vec_capacity new.blocks ≡ vec_capacity old.blocks → AreFields new
  fields_marked blocks held len room =
      let r = set.room in
      let idle = found.idle in
      let count : length new.marks.marks.items ≡ length old.marks.marks.items =
      ap length set.marks ∙ length_set old.marks.marks.items p.number mark in
      let ends_len = ap (λ v. length v.items) set.ends in
      let tallies_len = set.tallied.tallies.len in
      let marks = marks_stay (state_in old) (number_in (state_in old) id) mark inv.marks idle.within idle.idle now in
      subst AreFields (sym same) (record {
        some = inv.some;
        pages = inv.pages;
        marks = rw marks_are (record { len = marks.len; current = marks.current });
        blocks = blocks;
        refs = inv.refs;
        names = inv.names;
        ends_len = rw set.ends inv.ends_len;
        ends = rw set.ends inv.ends;
        tallied = rw page_ends_are at set.tallied;
        spare = record {
          marks = omega (arith, inv.spare.marks, r.marks, count);
          ends = omega (arith, inv.spare.ends, r.ends, ends_len);
          tallies = omega (arith, inv.spare.tallies, r.tallies, inv.tallied.tallies.len, tallies_len, ends_len);
        };
        held = held;
        slots = len ∙ inv.slots;
        blocks_room = omega (arith, inv.blocks_room, room);
        pages_room = omega (arith, inv.pages_room, r.pages);
        no_numbers = inv.no_numbers;
        no_killed = inv.no_killed;
      })

  -- a part that is not out keeps its block
  pub fields_kept : is_there mark ≡ true → new.blocks ≡ old.blocks → new.held ≡ old.held → AreFields new
  fields_kept there slots held =
      let idle = found.idle in
      let stay = blocks_stay (state_in old) (number_in (state_in old) id) mark inv.blocks idle.within idle.there there in
      fields_marked (rw (marks_are, slots) (record { len = stay.len; numbers = stay.numbers; sized = stay.sized }))
      (held ∙ inv.held ∙ ap (λ v. held_count (by_part old.chain.state.entries v.items)) (sym slots))
      (ap (λ v. length v.items) slots) (ap vec_capacity slots)

  -- one that is out gives it up
  pub fields_out : {slot : Option ℕ} → mark ≡ Out → IsSlotOf old.chain.state.entries old.blocks.items p.number slot
      → new.blocks.items ≡ emptied old.blocks.items slot → vec_capacity new.blocks ≡ vec_capacity old.blocks
      → new.held + length (option_to_list (slice_index_or (state_in old).blocks p.number None)) ≡ old.held → AreFields new
  fields_out out at slots room held =
      let s = state_in old in
      let n = number_in s id in
      let lt : n < length s.blocks =
      omega (arith, found.idle.within, inv.marks.len, inv.blocks.len, total_take s.chain.entries s.chain.tail) in
      let leave = block_leaves s n inv.blocks found.idle.within lt in
      let blocks_are = ap (by_part s.chain.entries) slots ∙ at.leaves ∙ ap (λ k. slice_set s.blocks k None) found.number in
      fields_marked (rw (marks_are, out, blocks_are) (record { len = leave.len; numbers = leave.numbers; sized = leave.sized }))
      (rw blocks_are (omega (
        arith,
        held,
        inv.held,
        held_out s.blocks p.number,
        ap (λ k. held_count (slice_set s.blocks k None)) found.number,
      )))
      (ap length slots ∙ at.len) room

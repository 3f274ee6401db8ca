-- The fields of a cell whose entries are taken out are fields again.
use Rattle.std.proofs.Common.{◌≡◌, ℕ, ◌+◌, ◌<◌, ◌≤◌, Bool, List, Option, length, arith, ap, sym, ◌∙◌, subst}
use Rattle.std.specs.Prelude.{None, vec_capacity}
use Rattle.std.specs.List.{AllByRecursion}
use Rattle.std.proofs.lemmas.List.{length-take}
use Rattle.std.specs.Global.{Vec}
use Rattle.nv_alloc.specs.Block.{AreSized, BlockValue}
use Rattle.nv_entry.specs.Covered.{part_total}
use Rattle.nv_log.specs.Chain.{ChainState, IsChain, compacted, gone_of, left_of, log, with_pages_left}
use Rattle.nv_nindex.specs.NameIndex.{HaveSameBindings}
use Rattle.nv_cell.specs.declared.cell.InodeCell.TheInside.{Inside}
use Rattle.nv_cell.specs.declared.mark.Mark.{Mark}
use Rattle.nv_cell.specs.Cell.{held_count, log_of}
use Rattle.nv_cell.specs.Fields.{AreFields, state_in}
use Rattle.nv_cell.specs.Numbers.{part_base}
use Rattle.nv_cell.specs.Removal.{ArePublished, MayGo, log_flags, part_flags, slot_flags}
use Rattle.nv_cell.specs.Slots.{by_part, slot_total}
use Rattle.nv_cell.specs.Tallies.{AreTallied, SameCapacity, end_at}
use Rattle.nv_cell.proofs.Held.{held_left}
use Rattle.nv_cell.proofs.PageFlags.{pages_left}
use Rattle.nv_cell.proofs.Publishing.{total_take}
use Rattle.nv_cell.proofs.Removing.{AreTaken, blocks_left, compact_left, fewer, left_by_part, marks_count, marks_left, names_left, no_slot_gone, none_gone, refs_left}
use Rattle.nv_cell.proofs.RunFlags.{base_within, slot_totals}

-- compaction takes entries out
pub compact_taken : {cell : Inside} {chain : ChainState} (flags : List Bool) (pages : List BlockValue) → AreFields cell
    → IsChain cell.chain.state → length flags ≡ cell.chain.state.tail → MayGo flags (state_in cell)
    → chain ≡ compacted flags pages cell.chain.state → AreTaken flags (state_in cell) chain
compact_taken {cell} flags pages inv is len may chain_is = record {
  left = rw chain_is (compact_left flags pages cell.chain.state len is.within);
  marks = inv.marks;
  blocks = inv.blocks;
  may = may;
}

-- and so does the removal of pages
pub pages_taken : {cell : Inside} {chain : ChainState} (stays : List Bool) → AreFields cell → IsChain cell.chain.state
    → length stays ≡ length cell.chain.state.ends → ArePublished stays cell.chain.state
    → MayGo (log_flags stays cell.chain.state) (state_in cell) → chain ≡ with_pages_left stays cell.chain.state
    → AreTaken (log_flags stays cell.chain.state) (state_in cell) chain
pages_taken {cell} stays inv is len published may chain_is = record {
  left = rw chain_is (pages_left stays cell.chain.state is len published);
  marks = inv.marks;
  blocks = inv.blocks;
  may = may;
}

module _ {flags : List Bool} {old : Inside} {chain : ChainState} (inv : AreFields old)
    (taken : AreTaken flags (state_in old) chain) where
  -- the slots are there, and those that go have no block
  pub slots_there : slot_total (log_of (state_in old)) ≤ length old.blocks.items
  slots_there = omega (arith, inv.slots, base_within slot_totals old.chain.state.entries old.chain.state.tail)

  pub slots_empty : AllByRecursion (λ b. b ≡ None) (gone_of (slot_flags flags (log_of (state_in old))) old.blocks.items)
  slots_empty = no_slot_gone taken.left old.blocks.items inv.slots (none_gone taken)

  -- what is left of the slots is what is left of the blocks by number
  pub slots_closed : (next : List (Option BlockValue)) → next ≡ left_of (slot_flags flags (log_of (state_in old))) old.blocks.items
      → (by_part chain.entries next ≡ left_of (part_flags flags (log_of (state_in old))) (state_in old).blocks)
      × (length next ≡ slot_total chain.entries)
  slots_closed next is = left_by_part taken.left old.blocks.items inv.slots next is

  -- no more entries are published than before
  tail_falls : chain.tail ≤ length old.marks.ends.items
  tail_falls =
      let s = old.chain.state in
      omega (arith, (fewer taken.left).tail, inv.ends_len, length-take s.tail s.entries)

  -- what is left can be counted, and there is room for it
  pub may_recount : {closed : List Mark} → closed ≡ left_of (part_flags flags (log_of (state_in old))) old.marks.marks.items
      → IsChain old.chain.state → length chain.ends ≤ length old.chain.state.ends
      → record {
        marks : length closed ≡ part_total (log chain);
        ends_room : chain.tail ≤ vec_capacity old.marks.ends;
        tallies_room : chain.tail ≤ vec_capacity old.marks.tallies;
        pages_room : length chain.ends ≤ vec_capacity old.marks.pages;
      }
  may_recount closed is few = record {
    marks = ap length closed ∙ marks_count taken;
    ends_room = omega (arith, tail_falls, inv.spare.ends);
    tallies_room = omega (arith, tail_falls, inv.ends_len, inv.tallied.tallies.len, inv.spare.tallies);
    pages_room = omega (arith, few, is.paged, inv.pages_room);
  }

-- marks and slots are closed up and the marks counted anew, and the pages are of the right size and few enough
pub fields_left : {flags : List Bool} {old new : Inside} {closed : Vec Mark} → AreFields old
    → AreTaken flags (state_in old) new.chain.state → new ≡ record old { chain = new.chain; marks = new.marks; blocks = new.blocks }
    → record {
      marks : closed.items ≡ left_of (part_flags flags (log_of (state_in old))) old.marks.marks.items;
      slots : new.blocks.items ≡ left_of (slot_flags flags (log_of (state_in old))) old.blocks.items;
      marks_room : vec_capacity closed ≡ vec_capacity old.marks.marks;
      slots_room : vec_capacity new.blocks ≡ vec_capacity old.blocks;
    }
    → record {
      marks : new.marks.marks ≡ closed;
      len : length new.marks.ends.items ≡ new.chain.state.tail;
      ended : (i : ℕ) → i < new.chain.state.tail → end_at new.marks.ends.items i ≡ part_base new.chain.state.entries (i + 1);
      tallied : AreTallied new.marks new.chain.state.ends;
      room : SameCapacity (record old.marks { marks = closed }) new.marks;
    }
    → AreSized old.block new.chain.state.blocks → length new.chain.state.blocks + new.chain.spare ≤ vec_capacity old.marks.pages
    → AreFields new
fields_left {flags = flags} {old = old} {new = new} inv taken same closed recount pages pages_room =
    let s = old.chain.state in
    let t = new.chain.state in
    let few = fewer taken.left in
    let slots = slots_closed inv taken new.blocks.items closed.slots in
    let tail = tail_falls inv taken in
    let r = recount.room in
    let before = total_take s.entries s.tail in
    let after = total_take t.entries t.tail in
    let marks_are = ap (λ v. v.items) recount.marks ∙ closed.marks in
    let count = ap length marks_are ∙ marks_count taken in
    let ends_len = recount.len in
    let tallies_len = recount.tallied.tallies.len in
    subst AreFields (sym same) (record {
      some = inv.some;
      pages = pages;
      marks = rw marks_are (let h = marks_left taken in record { len = h.len; current = h.current });
      blocks = rw (marks_are, slots.0) (let h = blocks_left taken in record { len = h.len; numbers = h.numbers; sized = h.sized });
      refs = λ key. inv.refs key ∙ sym (refs_left taken key);
      names = subst (λ bs. HaveSameBindings bs old.index.names.names) (sym (names_left taken)) inv.names;
      ends_len = ends_len;
      ends = recount.ended;
      tallied = recount.tallied;
      spare = record {
        marks = omega (arith, count, before, after, few.parts, inv.spare.marks, inv.marks.len, r.marks, closed.marks_room);
        ends = omega (arith, few.entries, tail, ends_len, inv.spare.ends, inv.ends_len, r.ends);
        tallies = omega (
          arith,
          few.entries,
          tail,
          ends_len,
          tallies_len,
          inv.spare.tallies,
          inv.tallied.tallies.len,
          inv.ends_len,
          r.tallies,
        );
      };
      held =
          inv.held
          ∙ sym (ap held_count slots.0 ∙ held_left (part_flags flags (log_of (state_in old))) (state_in old).blocks (none_gone taken));
      slots = slots.1;
      blocks_room = omega (arith, few.slots, inv.blocks_room, closed.slots_room);
      pages_room = omega (arith, pages_room, r.pages);
      no_numbers = inv.no_numbers;
      no_killed = inv.no_killed;
    })

use Rattle.std.proofs.Common.{◌≡◌, ℕ, ◌+◌, ◌<◌, ◌≤◌, ◌++◌, List, [], ◌∷◌, Option, not, length, length-append, take, arith, refl, ap, sym, ◌∙◌, subst}
use Rattle.std.proofs.lemmas.List.{take-append-le}
use Rattle.nv_alloc.specs.Block.{AreSized, BlockValue}
use Rattle.nv_entry.specs.declared.item.Entry.{Entry}
use Rattle.nv_entry.specs.Blocks.{item_blocks}
use Rattle.nv_entry.specs.Covered.{is_covered, part_count, part_total}
use Rattle.nv_entry.specs.Refs.{scan_ref}
use Rattle.nv_log.specs.Chain.{ChainState, IsChain, appended as appended_chain, room_of}
use Rattle.nv_nindex.specs.NameIndex.{HaveSameBindings}
use Rattle.nv_cell.specs.declared.tally.LogPageCounts.{LogPageCounts}
use Rattle.nv_cell.specs.Append.{appended, blocks_for}
use Rattle.nv_cell.specs.Cell.{CellState, CellValue, HasBlocks}
use Rattle.nv_cell.specs.Fields.{state_in, value_in}
use Rattle.nv_cell.specs.Index.{bindings_of}
use Rattle.nv_cell.specs.Room.{IsReadyFor}
use Rattle.nv_cell.proofs.Appending.{blocks_append, log_stays, sized_front}
use Rattle.nv_cell.proofs.Held.{held_more, held_within}
use Rattle.nv_cell.proofs.Numbers.{total_append}
use Rattle.nv_cell.proofs.Opening.{counts_for, counts_grow}
use Rattle.nv_cell.proofs.Publishing.{total_take}
use Rattle.nv_cell.proofs.ReadySteps.{others_ready}
use Rattle.nv_cell.proofs.Slots.{slot_total-append, slots_append}
use Rattle.nv_cell.proofs.cell.InodeCell.append.Goals as goal

pub push_slots-requires-clause-room : goal.push_slots-requires-clause-room
push_slots-requires-clause-room c =
    let inv = c.self.invariant in
    let parts : part_count c.args.entry ≤ c.self.inside.parts =
    subst (λ (v : CellValue). part_count c.args.entry ≤ v.room.parts) (sym c.self.view_is) c.requires.next.parts in
    omega (arith, inv.slots, inv.blocks_room, parts)

pub invariant_of-self : goal.invariant_of-self
invariant_of-self c =
    let s = state_in c.self.inside in
    let inv = c.self.invariant in
    let e : Entry = c.args.entry in
    let es : List Entry = s.chain.entries in
    let queue = c.args.queue.now in
    let bs = blocks_for e.item queue.blocks in
    let old : IsChain s.chain = c.holds_together.ensures in
    let next : IsChain (appended_chain e s.chain) = subst IsChain c.append.ensures.state c.ends.ensures.chain in
    let within : s.chain.tail ≤ length es = old.within in
    let size : queue.size ≡ s.block = c.requires.size ∙ ap (λ (v : CellValue). v.state.block) (sym c.self.view_is) in
    let entries : 0 < c.self.inside.entries = subst (λ (v : CellValue). 0 < v.room.entries) (sym c.self.view_is) c.requires.next.entries in
    let parts : part_count e ≤ c.self.inside.parts =
    subst (λ (v : CellValue). part_count e ≤ v.room.parts) (sym c.self.view_is) c.requires.next.parts in
    let sized : AreSized s.block bs =
    subst (λ (n : ℕ). AreSized n bs) size
    (sized_front queue.size (length (item_blocks e.item)) queue.blocks c.keeps_its_size.ensures) in
    let few : length s.marks ≤ part_total es = omega (arith, inv.marks.len, total_take es s.chain.tail) in
    let blocks : HasBlocks (appended e bs s) = blocks_append s e bs inv.blocks few c.requires.next.within c.requires.blocks sized in
    let after : CellState = appended e bs s in
    let spread = slots_append es c.self.inside.blocks.items c.push_slots.new.slots.items e bs inv.slots c.requires.next.within
    c.requires.blocks c.push_slots.ensures.slots in
    let log : take s.chain.tail (es ++ e ∷ []) ≡ take s.chain.tail es = log_stays s.chain.tail es e within in
    let total : part_total (es ++ e ∷ []) ≡ part_total es + part_count e = omega (arith, total_append es (e ∷ [])) in
    let more : length (es ++ e ∷ []) ≡ length es + 1 = length-append es (e ∷ []) in
    let counts : List LogPageCounts = c.self.inside.marks.pages.items in
    let ends : c.ends.result.now ≡ (appended_chain e s.chain).ends =
    c.ends.ensures.value ∙ ap (λ (k : ChainState). k.ends) c.append.ensures.state in
    let pages : c.count_pages.new.pages.items ≡ counts_for counts (appended_chain e s.chain).ends =
    c.count_pages.ensures.pages ∙ ap (counts_for counts) ends in
    let low : length c.self.inside.marks.tallies.items ≤ length es = omega (arith, inv.tallied.tallies.len, inv.ends_len, within) in
    let grown = counts_grow s.chain e counts c.self.inside.marks.tallies.items old next low inv.tallied.counts in
    rw c.append.ensures.state (record {
      some = inv.some;
      pages = inv.pages;
      marks = record {
        len = inv.marks.len ∙ ap part_total (sym log);
        current = λ n lt. inv.marks.current n (rw log at lt) ∙ ap (λ (xs : List Entry). not (is_covered s.block xs n)) (sym log);
      };
      blocks =
          subst (λ (bs : List (Option BlockValue)). HasBlocks (record after { blocks = bs })) (sym spread.0) blocks;
      refs = λ key. inv.refs key ∙ ap (λ (xs : List Entry). scan_ref s.block xs key) (sym log);
      names =
          subst (λ (xs : List Entry). HaveSameBindings (bindings_of xs) c.self.inside.index.names.names) (sym log) inv.names;
      ends_len = inv.ends_len;
      ends = λ i lt. inv.ends i lt ∙ ap part_total (sym (take-append-le (i + 1) es (e ∷ []) (omega (arith, lt, within))));
      tallied = record { tallies = inv.tallied.tallies; counts = rw pages grown; there = inv.tallied.there };
      spare = record {
        marks = omega (arith, inv.spare.marks, total, few, parts, c.part_count-parts.ensures);
        ends = omega (arith, inv.spare.ends, more, within, entries);
        tallies = omega (arith, inv.spare.tallies, more, within, entries);
      };
      held =
          held_more es c.self.inside.blocks.items c.push_slots.new.slots.items e bs inv.held c.pages_added.ensures
          c.requires.blocks spread.0;
      slots = spread.1;
      blocks_room = omega (
        arith,
        inv.blocks_room,
        slot_total-append es (e ∷ []),
        parts,
        c.part_count-parts.ensures,
        c.push_slots.ensures.capacity,
      );
      pages_room = omega (arith, inv.pages_room, c.append.ensures.spare, c.count_pages.ensures.capacity);
      no_numbers = inv.no_numbers;
      no_killed = inv.no_killed;
    })

pub returns-clause-ready : goal.returns-clause-ready
returns-clause-ready c later h =
    let i = c.self.inside in
    let e : Entry = c.args.entry in
    let bs = blocks_for e.item c.args.queue.now.blocks in
    let page : 0 < room_of i.chain.state = subst (λ (v : CellValue). 0 < room_of v.state.chain) (sym c.self.view_is) c.requires.next.page in
    let spread = slots_append i.chain.state.entries i.blocks.items c.push_slots.new.slots.items e bs c.self.invariant.slots
    c.requires.next.within c.requires.blocks c.push_slots.ensures.slots in
    others_ready e bs later (value_in i) _ c.holds_together.ensures page
    (rw (c.append.ensures.state, spread.0) refl)
    (rw (c.append.ensures.spare, c.part_count-parts.ensures) refl)
    (subst (λ (v : CellValue). IsReadyFor (e.item ∷ later) v) (sym c.self.view_is) h)

pub returns-clause-state : goal.returns-clause-state
returns-clause-state c =
    let i = c.self.inside in
    let e : Entry = c.args.entry in
    let bs = blocks_for e.item c.args.queue.now.blocks in
    let spread = slots_append i.chain.state.entries i.blocks.items c.push_slots.new.slots.items e bs
    c.self.invariant.slots c.requires.next.within c.requires.blocks c.push_slots.ensures.slots in
    rw (← c.self.view_is, c.append.ensures.state, spread.0) refl

pub overflow_add-self : goal.overflow_add-self
overflow_add-self c =
    let i = c.self.inside in
    let inv = c.self.invariant in
    let es = i.chain.state.entries in
    let e : Entry = c.args.entry in
    let bs = blocks_for e.item c.args.queue.now.blocks in
    let slots = c.push_slots.new.slots in
    let spread = slots_append es i.blocks.items slots.items e bs inv.slots c.requires.next.within c.requires.blocks
    c.push_slots.ensures.slots in
    omega (
      arith,
      held_more es i.blocks.items slots.items e bs inv.held c.pages_added.ensures c.requires.blocks spread.0,
      held_within (es ++ e ∷ []) slots.items spread.1,
      slots.ok,
      slots.small,
    )

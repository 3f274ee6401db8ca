use Rattle.std.proofs.Common.{◌≡◌, ◌+◌, ◌-◌, ◌++◌, ◌∷◌, [], List, length, replicate, length-append, arith, refl, ap, ◌∙◌}
use Rattle.nv_cell.specs.declared.mark.Mark.{Mark}
use Rattle.nv_cell.specs.declared.mark.Mark.TheVariants.{Current}
use Rattle.nv_cell.specs.declared.tally.Tally.{Tally}
use Rattle.nv_cell.specs.Tallies.{first_slot}
use Rattle.nv_cell.proofs.Tallies.{few_live, few_slots, fresh_length}
use Rattle.nv_cell.proofs.Setting.{add_tallied}
use Rattle.nv_cell.proofs.marks.Marks.add.Goals as goal

pub overflow_add-tally : goal.overflow_add-tally
overflow_add-tally c =
    let m = c.args.self.now in
    let h = c.requires.tallied.tallies in
    let at_end : c.len.result ≡ length m.ends.items = omega (arith, c.len.ensures, h.len) in
    let first : c.first_slot.result ≡ first_slot m.tallies.items (length m.ends.items) = c.first_slot.ensures
    ∙ ap (first_slot m.tallies.items) at_end in
    let few = few_slots m.tallies.items m.ends.items m.marks.items h (length m.ends.items) (omega arith) in
    omega (arith, first, few, h.whole, c.saturating_sub.ensures, c.requires.room.marks)

pub with_entry-requires-clause-live : goal.with_entry-requires-clause-live
with_entry-requires-clause-live c =
    let m = c.args.self.now in
    let few = few_live m.tallies.items c.args.page_ends.now m.pages.items c.page_of-k.result c.index.result.now c.requires.tallied.counts
    (omega (arith, c.page_of-k.ensures.within)) c.index.ensures in
    omega (arith, few, c.len-2.ensures, c.requires.room.tallies)

pub with_entry-requires-clause-valid : goal.with_entry-requires-clause-valid
with_entry-requires-clause-valid c =
    let m = c.args.self.now in
    let few = few_live m.tallies.items c.args.page_ends.now m.pages.items c.page_of-k.result c.index.result.now c.requires.tallied.counts
    (omega (arith, c.page_of-k.ensures.within)) c.index.ensures in
    omega (arith, few, c.len-2.ensures, c.requires.room.tallies)

pub returns-clause-tallied : goal.returns-clause-tallied
returns-clause-tallied c =
    let m = c.args.self.now in
    let items = c.push_current.ensures.items in
    let len : c.len-3.result ≡ length m.marks.items + c.args.parts =
    omega (
      arith,
      c.len-3.ensures,
      ap (λ (xs : List Mark). length xs) items,
      length-append m.marks.items
          (replicate c.args.parts Current),
      fresh_length c.args.parts,
    ) in
    let at_end : c.len-2.result ≡ length m.tallies.items = omega (arith, c.len-2.ensures) in
    let ends = c.push_reserved.ensures.items ∙ ap (λ n. m.ends.items ++ n ∷ []) len in
    let parts = c.args.parts in
    let t : Tally = record { current = parts; there = parts; slots_end = c.first_slot.result + c.saturating_sub.result } in
    let first : c.first_slot.result ≡ first_slot m.tallies.items (length m.tallies.items) = c.first_slot.ensures
    ∙ ap (first_slot m.tallies.items) (omega (arith, c.len.ensures)) in
    let slots : t.slots_end ≡ first_slot m.tallies.items (length m.tallies.items) + (parts - 1) =
    omega (arith, first, c.saturating_sub.ensures) in
    add_tallied m c.args.page_ends.now c.page_of-k.result parts t c.index.result.now c.with_entry.result c.push_current.new.marks
    c.push_reserved.new.self c.push_reserved-2.new.self c.requires.tallied (rw at_end at c.page_of-k.ensures) c.requires.page
    refl refl slots items ends c.push_reserved-2.ensures.items c.index.ensures c.with_entry.ensures

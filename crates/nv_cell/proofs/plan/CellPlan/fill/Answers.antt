use Rattle.std.proofs.Common.{◌≡◌, ◌+◌, ◌∙◌, ◌++◌, ℕ, List, ap, arith, drop, length, map, refl, subst, sym, take}
use Rattle.std.proofs.lemmas.List.{take-append-drop}
use Rattle.nv_entry.specs.declared.item.Entry.{Entry}
use Rattle.nv_entry.specs.Covered.{part_total}
use Rattle.nv_cell.specs.declared.marks.Marks.{Marks}
use Rattle.nv_cell.specs.Filling.{AreGiven, AreOnce, AreTaken, entry_wants, log_wants, taken_from}
use Rattle.nv_cell.specs.Numbers.{part_base}
use Rattle.nv_cell.specs.Slots.{slot_total}
use Rattle.nv_cell.proofs.EntryRead.{entry_read, parts_below}
use Rattle.nv_cell.proofs.FilledSlots.{wants_len}
use Rattle.nv_cell.proofs.GivenBlocks.{given_join, given_len, given_none, next_wants, own_wants_once, these_wants_once}
use Rattle.nv_cell.proofs.Publishing.{take_whole}
use Rattle.nv_cell.proofs.Slots.{slot_total-append}
use Rattle.nv_cell.proofs.plan.CellPlan.fill.Goals as goal

pub loop-t-init : goal.loop-t-init
loop-t-init c = record {
  first = refl;
  given = given_none c.args.geometry.now.numbers c.args.lists.now.items c.args.self.now.blocks.items c.requires.lists;
  capacity = refl;
  index = refl;
  marks = refl;
}

pub fill_entry-requires-clause-known : goal.fill_entry-requires-clause-known
fill_entry-requires-clause-known c =
    let es = c.args.chain.now.state.entries in
    let inv = c.loop-t.invariant in
    let low = parts_below es c.loop-t.t (length es) _ c.entry_at-entry.ensures (omega (arith, c.loop-t-test.true, c.len-t-end.ensures)) in
    let same = ap (λ (m : Marks). length m.marks.items) inv.marks in
    omega (arith, low, ap part_total (take_whole es), c.requires.known, inv.first, same)

pub fill_entry-requires-clause-room : goal.fill_entry-requires-clause-room
fill_entry-requires-clause-room c =
    let g = c.args.geometry.now.numbers in
    let es = c.args.chain.now.state.entries in
    let t = c.loop-t.t in
    let inv = c.loop-t.invariant in
    let marks = c.args.self.now.marks.marks.items in
    let wants = log_wants g.block marks 0 (take t es) in
    let len = given_len g wants c.args.lists.now.items c.loop-t.lists.items c.args.self.now.blocks.items
    c.loop-t.self.blocks.items inv.given in
    let all = ap slot_total (sym (take-append-drop (t + 1) es)) ∙ slot_total-append (take (t + 1) es) (drop (t + 1) es) in
    omega (
      arith,
      len,
      wants_len g.block marks 0 (take t es),
      ap length c.requires.none,
      (entry_read es t _ c.entry_at-entry.ensures).slots,
      all,
      inv.capacity,
      c.requires.room,
      c.loop-t.self.blocks.ok,
      c.args.self.now.blocks.ok,
    )

pub fill_entry-requires-clause-lists : goal.fill_entry-requires-clause-lists
fill_entry-requires-clause-lists c = c.loop-t.invariant.given.lists.homes

pub fill_entry-requires-clause-once : goal.fill_entry-requires-clause-once
fill_entry-requires-clause-once c =
    let block = c.args.geometry.now.numbers.block in
    let marks = c.args.self.now.marks.marks.items in
    let es = c.args.chain.now.state.entries in
    let e = c.entry_at-entry.result.now in
    let inv = c.loop-t.invariant in
    subst (λ (m : Marks). AreOnce (entry_wants block m.marks.items c.loop-t.first e)) (sym inv.marks)
    (subst (λ (k : ℕ). AreOnce (entry_wants block marks k e)) (sym inv.first)
    (own_wants_once block marks es c.loop-t.t e c.entry_at-entry.ensures c.requires.once))

pub overflow_add-first : goal.overflow_add-first
overflow_add-first c =
    let es = c.args.chain.now.state.entries in
    let low = parts_below es c.loop-t.t (length es) _ c.entry_at-entry.ensures (omega (arith, c.loop-t-test.true, c.len-t-end.ensures)) in
    omega (
      arith,
      low,
      ap part_total (take_whole es),
      c.requires.known,
      c.loop-t.invariant.first,
      c.part_count-count.ensures,
      c.args.self.now.marks.marks.ok,
      c.args.self.now.marks.marks.small,
    )

pub loop-t-preserved : goal.loop-t-preserved
loop-t-preserved c =
    let g = c.args.geometry.now.numbers in
    let block = g.block in
    let marks = c.args.self.now.marks.marks.items in
    let es = c.args.chain.now.state.entries in
    let t = c.loop-t.t in
    let e = c.entry_at-entry.result.now in
    let at = c.entry_at-entry.ensures in
    let inv = c.loop-t.invariant in
    let a = c.args.lists.now.items in
    let b = c.loop-t.lists.items in
    let d = c.fill_entry.new.lists.items in
    let u = c.args.self.now.blocks.items in
    let v = c.loop-t.self.blocks.items in
    let w = c.fill_entry.new.self.blocks.items in
    let front = log_wants block marks 0 (take t es) in
    let own = subst (λ (m : Marks). AreGiven g (entry_wants block m.marks.items c.loop-t.first e) b d v w) inv.marks
    c.fill_entry.ensures.given in
    let here = subst (λ (k : ℕ). AreGiven g (entry_wants block marks k e) b d v w) inv.first own in
    let all = given_join g front (entry_wants block marks (part_base es t) e) a b d u v w inv.given here
    (these_wants_once block marks es t e at c.requires.once) in
    record {
      first = omega (arith, (entry_read es t e at).parts, c.part_count-count.ensures, inv.first);
      given = subst (λ ws. AreGiven g ws a d u w) (sym (next_wants block marks es t e at)) all;
      capacity = c.fill_entry.ensures.capacity ∙ inv.capacity;
      index = c.fill_entry.ensures.index ∙ inv.index;
      marks = c.fill_entry.ensures.marks ∙ inv.marks;
    }

pub returns-clause-blocks : goal.returns-clause-blocks
returns-clause-blocks c =
    let block = c.args.geometry.now.numbers.block in
    let marks = c.args.self.now.marks.marks.items in
    let es = c.args.chain.now.state.entries in
    let a = c.args.lists.now.items in
    let inv = c.loop-t.invariant in
    let end : c.loop-t.t ≡ length es = omega (arith, c.loop-t-test.false, c.loop-t.auto.t-end, c.len-t-end.ensures) in
    let all = ap (λ n. take n es) end ∙ take_whole es in
    inv.given.slots
    ∙ ap (λ bs. bs ++ map (taken_from a) (log_wants block marks 0 (take c.loop-t.t es))) c.requires.none
    ∙ ap (λ (xs : List Entry). map (taken_from a) (log_wants block marks 0 xs)) all

pub returns-clause-lists : goal.returns-clause-lists
returns-clause-lists c =
    let g = c.args.geometry.now.numbers in
    let marks = c.args.self.now.marks.marks.items in
    let es = c.args.chain.now.state.entries in
    let end : c.loop-t.t ≡ length es = omega (arith, c.loop-t-test.false, c.loop-t.auto.t-end, c.len-t-end.ensures) in
    let all = ap (λ n. take n es) end ∙ take_whole es in
    subst (λ (xs : List Entry). AreTaken g (log_wants g.block marks 0 xs) c.args.lists.now.items c.loop-t.lists.items) all
    c.loop-t.invariant.given.lists

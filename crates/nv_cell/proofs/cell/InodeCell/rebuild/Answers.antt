use Rattle.std.proofs.Common.{◌≡◌, ◌+◌, ◌≤◌, List, Option, ap, arith, count_by, is_some, length, refl, subst, sym, ◌∙◌}
use Rattle.nv_alloc.specs.Block.{BlockValue}
use Rattle.nv_entry.specs.declared.item.Entry.{Entry}
use Rattle.nv_entry.specs.Covered.{part_total}
use Rattle.nv_entry.specs.Refs.{scan_ref}
use Rattle.nv_nindex.specs.NameIndex.{HaveSameBindings}
use Rattle.nv_cell.specs.Anew.{cell_by}
use Rattle.nv_cell.specs.Cell.{CellState, HasBlocks, HasMarks}
use Rattle.nv_cell.specs.Index.{bindings_of}
use Rattle.nv_cell.specs.Slots.{by_part}
use Rattle.nv_cell.proofs.CellAnew.{blocks_are, held_slots, its_log, marks_are}
use Rattle.nv_cell.proofs.MarksAnew.{len_anew}
use Rattle.nv_cell.proofs.cell.InodeCell.rebuild.Goals as goal
use Rattle.nv_cell.proofs.cell.InodeCell.rebuild.Goals.{After-recount}

pub recount-requires : goal.recount-requires
recount-requires c =
    let chain = c.args.chain.state in
    let living = c.requires.plan.0 in
    let source = c.requires.plan.1 in
    let plan = c.requires.plan.2 in
    let log = its_log c.args.block c.args.generation living chain source c.requires.whole in
    record {
      marks = ap length plan.marks ∙ len_anew living c.args.block chain.entries ∙ ap part_total (sym log);
      ends_room = omega (arith, plan.ends_room, c.requires.whole);
      tallies_room = omega (arith, plan.tallies_room, c.requires.whole);
      pages_room = omega (arith, plan.pages_room, c.holds_together.ensures.paged);
    }

-- the state that the fields leave
whole : (c : After-recount) → record {
  block = c.args.block;
  generation = c.args.generation;
  version = 0;
  chain = c.args.chain.state;
  marks = c.recount.new.self.marks.items;
  blocks = by_part c.args.chain.state.entries c.args.plan.blocks.items;
} ≡ cell_by c.args.block c.args.generation c.requires.plan.0 c.args.chain.state c.requires.plan.1
whole c = rw (c.recount.ensures.marks, c.requires.plan.2.marks, c.requires.plan.3.are) refl

pub invariant_of-result : goal.invariant_of-result
invariant_of-result c =
    let chain = c.args.chain.state in
    let es = chain.entries in
    let living = c.requires.plan.0 in
    let source = c.requires.plan.1 in
    let plan = c.requires.plan.2 in
    let filled = c.requires.plan.3 in
    let is = whole (goal.at.invariant_of-result c).After-recount in
    let log = its_log c.args.block c.args.generation living chain source c.requires.whole in
    let many : length c.recount.new.self.marks.items ≡ part_total es =
    ap (λ (s : CellState). length s.marks) is ∙ len_anew living c.args.block es in
    record {
      some = c.requires.block;
      pages = c.requires.pages;
      marks = subst HasMarks (sym is) (marks_are c.args.block c.args.generation living chain source c.requires.whole);
      blocks = subst HasBlocks (sym is)
          (blocks_are c.args.block c.args.generation living chain source c.requires.whole filled.there filled.sized);
      refs = λ key. plan.refs key ∙ ap (λ (xs : List Entry). scan_ref c.args.block xs key) (sym log);
      names = subst (λ (xs : List Entry). HaveSameBindings (bindings_of xs) c.args.plan.index.names.names) (sym log) plan.names;
      ends_len = c.recount.ensures.len;
      ends = c.recount.ensures.ended;
      tallied = c.recount.ensures.tallied;
      spare = record {
        marks = omega (arith, many, c.recount.new.self.marks.ok);
        ends = omega (arith, c.requires.whole, c.recount.new.self.ends.ok);
        tallies = omega (arith, c.requires.whole, c.recount.new.self.tallies.ok);
      };
      held = c.held_in-held.ensures ∙ ap (λ (slots : List (Option BlockValue)). count_by is_some slots) c.deref.ensures.value
          ∙ sym (held_slots es c.args.plan.blocks.items filled.slots);
      slots = filled.slots;
      blocks_room = omega (arith, filled.slots, c.args.plan.blocks.ok);
      pages_room = omega (arith, plan.pages_room, c.recount.ensures.room.pages);
      no_numbers = c.new.ensures.items;
      no_killed = c.new-2.ensures.items;
    }

pub returns-clause-state : goal.returns-clause-state
returns-clause-state c living source plan filled = rw (c.recount.ensures.marks, plan.marks, filled.are) refl
